-- An operation in one bucket, or between two buckets.
use Rattle.text_and_lists.proofs.Members.{none_some, text_is, text_true}
use Rattle.text_and_lists.specs.Order.{text_eq}
use Rattle.bucket_ops.proofs.AskLaws.{with_same}
use Rattle.bucket_ops.specs.Asks.{objects_at}
use Rattle.bucket_ops.specs.Phases.{AlwaysIn, GivesIn, InScene}
use Rattle.fs_rename.specs.Between.{GivesBetween}
use Rattle.machine.specs.Tries.{HasUnanswered}
use Rattle.operations.specs.Performed.{Performed, Seen}
use Rattle.s3_types.specs.Moment.{after_all}
use Rattle.s3_types.specs.Store.{Objects, Scene}
use Rattle.s3_types.specs.declared.request.Actor.{Actor}
use Rattle.s3_types.specs.declared.request.Request.{Request}
use Rattle.std.proofs.Common.{List, None, Ok, Option, Some, ap, arith, false, length, length-append, not, refl, subst, suc, sym, take, true}
use Rattle.std.proofs.Common.{zero, ℕ, [], ◌++◌, ◌+◌, ◌<◌, ◌∙◌, ◌≡◌}
use Rattle.std.proofs.lemmas.Bool.{false≢true}
use Rattle.std.proofs.lemmas.List.{append-nil}
use Rattle.std.specs.List.{slice_get}

-- ---- in one bucket

same_bucket : (b c : List ℕ) → false ≡ not (text_eq b c) → b ≡ c
same_bucket b c h = grind (arith, text_is)

pub given_one : {A : Type 0} (b c : List ℕ) (gives : Objects → A → Objects → Type 0) (absent refused : A) (z : Scene) (a : A) (s : Scene)
    → false ≡ not (text_eq b c) → GivesIn b gives absent z a s → GivesBetween b c gives absent refused z a s
given_one b c gives absent refused z a s e h = record { one = λ f. h; other = λ f. absurd (f (same_bucket b c e)) }

-- ---- between two buckets

other_bucket : (b c : List ℕ) → true ≡ not (text_eq b c) → b ≡ c → ⊥
other_bucket b c h e = false≢true (sym (h ∙ ap not (text_true b c e)))

pub given_other : {A : Type 0} (b c : List ℕ) (gives : Objects → A → Objects → Type 0) (absent refused : A) (z : Scene)
    → true ≡ not (text_eq b c) → GivesBetween b c gives absent refused z refused z
given_other b c gives absent refused z e = record { one = λ f. absurd (other_bucket b c e f); other = λ f. (refl, refl) }

-- If nothing was sent, all is as it was.
still_in : (b : List ℕ) (always : Objects → Objects → Type 0) (z : Scene) → ((m : Objects) → always m m) → AlwaysIn b always z z
still_in b always z same = by (objects_at z b) refl
  where
    by : (x : Option Objects) → objects_at z b ≡ x → InScene x (λ m n. always m n) (Unit {0}) z b z
    by None e = (refl, tt)
    by (Some m) e = (m, sym (with_same z b m e), same m)

none_taken : (z : Scene) (m : ℕ) → after_all z (take m []) ≡ z
none_taken z m = grind arith

none_unanswered : (many : ℕ) → 0 < many → HasUnanswered many [] → ⊥
none_unanswered many some h =
    omega (arith, ap length h.is, length-append h.before (h.these ++ h.behind), length-append h.these h.behind, h.count, some)

pub performed_none : {A : Type 0} {actor : Actor} {event retries : ℕ} {old : Seen} {x : A}
    → (b : List ℕ) (always : Objects → Objects → Type 0) (sends : Request → Type 0) → ((m : Objects) → always m m)
    → Performed actor event retries (AlwaysIn b always old.scene) sends old old (Ok x)
performed_none {retries = retries} {old = old} b always sends same = record {
  part = [];
  appended = sym (append-nil old.entries);
  by = tt;
  honest = tt;
  scene = refl;
  moments = λ m. subst (AlwaysIn b always old.scene) (sym (none_taken old.scene m)) (still_in b always old.scene same);
  sent = tt;
  tried = record {
    tries = [];
    rest = [];
    entries = refl;
    each = tt;
    broken_off = tt;
    told = (refl, refl);
    fault = λ e h. none_unanswered
        (retries + 1) (omega arith) h;
  };
  literal = λ r w. ((elim (w.0 + 0) as (λ n. slice_get [] n ≡ Some false → ⊥)
      [ zero ↦ λ h. none_some refl h | suc n ↦ λ h. none_some refl h ]) (w.1 0 (omega arith)));
  foretold = tt;
  counts = record { made = refl; foretold = λ n. refl; losses = omega arith; kept = λ part e g. refl };
}
