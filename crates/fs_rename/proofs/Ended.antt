-- What the rename of a path has done.
use Rattle.bucket_ops.specs.Asks.{objects_at}
use Rattle.bucket_ops.specs.Phases.{AlwaysIn, SendsIn, left_at}
use Rattle.bucket_ops.specs.Walking.{all_below}
use Rattle.fs_ops.proofs.Asking.{asked_in, each_asked}
use Rattle.fs_ops.specs.Places.{prefix_of}
use Rattle.fs_rename.proofs.Told.{renames_in, whole_in}
use Rattle.fs_rename.specs.Between.{GivesBetween, Route, most_in}
use Rattle.fs_rename.specs.Public.{RenameSends, RenamesIn, StandsWhole, most_moves}
use Rattle.fs_rename.specs.code.Meaning.{Asks}
use Rattle.fs_rename.specs.inner.Meaning.{always, gives, left, sends}
use Rattle.fs_rename.specs.code.Rename.{Answer, Renaming, asks, first as first_stage}
use Rattle.fs_tree.specs.declared.rename.RenameRefusal.TheVariants.{NoSuchBucket, OtherBucket}
use Rattle.machine.specs.declared.driving.DriveStop.{DriveStop}
use Rattle.operations.specs.Performed.{Performed, Seen}
use Rattle.path_keys.specs.Paths.{is_key}
use Rattle.s3_types.specs.Moment.{after_all}
use Rattle.s3_types.specs.Store.{Objects, Scene}
use Rattle.s3_types.specs.declared.request.Actor.{Actor}
use Rattle.std.proofs.Common.{Err, IfOk, List, None, Ok, Option, Result, Some, arith, length, subst, take, true, ℕ, ◌+◌, ◌≡◌, ◌≤◌}
use Rattle.std.specs.Prelude.{◌*◌}

-- The route of a rename.
abbrev kept : List ℕ → Renaming → List ℕ → Route
kept b o c = record { bucket = b; source = o.source; to_bucket = c; target = o.target }

pub given_in : {E : Type 0} (b : List ℕ) (o : Renaming) (c : List ℕ) (r : Route) (z s : Scene) (result : Result Answer E) → kept b o c ≡ r
    → (is_key o.source ≡ true) × (is_key o.target ≡ true)
    → IfOk result (λ a. GivesBetween b c (gives o) (Err NoSuchBucket) (Err OtherBucket) z a s) → IfOk result (λ a. RenamesIn r z a s)
given_in b o c r z s (Ok a) e k h =
    subst (λ (r : Route). RenamesIn r z a s) e
    (record { one = λ f. renames_in b o z a s k.0 k.1 (h.one f); other = h.other })
given_in b o c r z s (Err x) e k h = tt

module _ {A : Type 0} {actor : Actor} {event retries : ℕ} {old new : Seen} {result : Result A DriveStop} where
  pub performed_in : (b : List ℕ) (o : Renaming) (c : List ℕ) (r : Route) → kept b o c ≡ r → is_key o.source ≡ true
      → Performed actor event retries (AlwaysIn b (always o) old.scene) (SendsIn b (asks o (first_stage o)) (sends o) old.scene) old new
      result
      → Performed actor event retries (StandsWhole r old.scene) (RenameSends r old.scene) old new result
  performed_in b o c r e k h =
      subst (λ (r : Route). Performed actor event retries (StandsWhole r old.scene) (RenameSends r old.scene) old new result) e
      (record {
        part = h.part;
        appended = h.appended;
        by = h.by;
        honest = h.honest;
        scene = h.scene;
        moments = λ m. whole_in b o old.scene (after_all old.scene (take m h.part)) k (h.moments m);
        sent =
            each_asked (SendsIn b (asks o (first_stage o)) (sends o) old.scene) (SendsIn b (asks o (first_stage o)) (Asks o) old.scene)
            (asked_in b (asks o (first_stage o)) (sends o) (Asks o) old.scene (λ z a g. g k)) h.part h.sent;
        tried = h.tried;
        literal = h.literal;
        foretold = h.foretold;
        counts = h.counts;
      })

-- ---- the number of its requests

-- The bound at its beginning.
most_left : (o : Renaming) (x : Option Objects)
    → left_at x left o (first_stage o) + 1 ≡ most_in x (λ m. 13 + 4 * length (all_below (prefix_of o.source) m))
most_left o None = omega arith
most_left o (Some m) = omega arith

pub few_in : (b : List ℕ) (o : Renaming) (c : List ℕ) (r : Route) (z : Scene) (n retries : ℕ) → kept b o c ≡ r
    → n ≤ (left_at (objects_at z b) left o (first_stage o) + 1) * (retries + 1) → n ≤ most_moves r z * (retries + 1)
few_in b o c r z n retries e h =
    let l = subst (λ (k : ℕ). n ≤ k * (retries + 1)) (most_left o (objects_at z b)) h in
    subst (λ (r : Route). n ≤ most_moves r z * (retries + 1)) e l
