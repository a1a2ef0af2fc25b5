-- What the copy of a tree has done.
use Rattle.bucket_ops.specs.Asks.{objects_at}
use Rattle.bucket_ops.specs.Phases.{AlwaysIn, SendsIn, left_at}
use Rattle.bucket_ops.specs.Walking.{all_below}
use Rattle.copy_tree.specs.Public.{CopiesIn, CopySends, StandsCopied, most_copies}
use Rattle.copy_tree.specs.code.Copy.{Answer, CopyPaths, asks, climb, first as first_stage}
use Rattle.copy_tree.specs.code.Meaning.{sends}
use Rattle.copy_tree.specs.inner.Meaning.{always, gives, left}
use Rattle.fs_ops.specs.Places.{prefix_of}
use Rattle.fs_rename.specs.Between.{GivesBetween, Route, most_in}
use Rattle.fs_tree.specs.declared.copy.CopyRefusal.TheVariants.{NoSuchBucket, OtherBucket}
use Rattle.machine.specs.declared.driving.DriveStop.{DriveStop}
use Rattle.operations.specs.Performed.{Performed, Seen}
use Rattle.s3_types.specs.Store.{Objects, Scene}
use Rattle.s3_types.specs.declared.request.Actor.{Actor}
use Rattle.std.proofs.Common.{Err, IfOk, List, None, Result, arith, length, subst, ℕ, ◌≡◌}
use Rattle.std.specs.Prelude.{Option, Some, ◌*◌, ◌+◌, ◌≤◌}

-- The route of a copy.
abbrev kept : List ℕ → CopyPaths → List ℕ → Route
kept b o c = record { bucket = b; source = o.source; to_bucket = c; target = o.target }

pub given_in : {E : Type 0} (b : List ℕ) (o : CopyPaths) (c : List ℕ) (r : Route) (z s : Scene) (result : Result Answer E) → kept b o c ≡ r
    → IfOk result (λ a. GivesBetween b c (gives o) (Err NoSuchBucket) (Err OtherBucket) z a s) → IfOk result (λ a. CopiesIn r z a s)
given_in b o c r z s result e h = subst (λ (r : Route). IfOk result (λ a. CopiesIn r z a s)) e h

module _ {A : Type 0} {actor : Actor} {event retries : ℕ} {old new : Seen} {result : Result A DriveStop} where
  pub performed_in : (b : List ℕ) (o : CopyPaths) (c : List ℕ) (r : Route) → kept b o c ≡ r
      → Performed actor event retries (AlwaysIn b (always o) old.scene) (SendsIn b (asks o (first_stage o)) (sends o) old.scene) old new
      result
      → Performed actor event retries (StandsCopied r old.scene) (CopySends r old.scene) old new result
  performed_in b o c r e h = subst (λ (r : Route). Performed actor event retries (StandsCopied r old.scene) (CopySends r old.scene) old new
      result) e h

-- ---- the number of its requests

-- The bound at its beginning.
most_left : (o : CopyPaths) (x : Option Objects)
    → left_at x left o (first_stage o) + 1
    ≡ most_in x (λ m. 8 + length (climb o.target) + 4 * length (all_below (prefix_of o.source) m) + 2 * length
    (all_below (prefix_of o.target) m))
most_left o None = omega arith
most_left o (Some m) = omega arith

pub few_in : (b : List ℕ) (o : CopyPaths) (c : List ℕ) (r : Route) (z : Scene) (n retries : ℕ) → kept b o c ≡ r
    → n ≤ (left_at (objects_at z b) left o (first_stage o) + 1) * (retries + 1) → n ≤ most_copies r z * (retries + 1)
few_in b o c r z n retries e h =
    let l = subst (λ (k : ℕ). n ≤ k * (retries + 1)) (most_left o (objects_at z b)) h in
    subst (λ (r : Route). n ≤ most_copies r z * (retries + 1)) e l
