-- The reason that an audit gives: the first that holds.
use Rattle.std.specs.Prelude.{ℕ, List, [], Bool, true, ◌&&◌, ◌||◌, ◌==◌, nat_lt, ◌≡◌}
use Rattle.std.specs.Ordering.{is_lt}
use Rattle.text_and_lists.specs.Order.{text_cmp}
use Rattle.soundness.specs.Claims.{Claim}
use Rattle.soundness.specs.Moments.{Moment, Shown}
use Rattle.judging.specs.Reasons as reasons
use Rattle.audit_claims.specs.Claims.{Tags}
use Rattle.audit_judge.specs.declared.reason.Reason.{Reason}
use Rattle.audit_judge.specs.declared.reason.Reason.TheVariants.{Early, Missing, Foreign, Lost, Torn, Stale, Half, Left}

-- The place of a reason's kind in the table.
abbrev pub rank : Reason → ℕ
rank (Early p) = 0
rank (Missing t) = 1
rank (Foreign p) = 2
rank (Lost p) = 3
rank (Torn t) = 4
rank (Stale p) = 5
rank (Half t) = 6
rank (Left p) = 7

-- The path of a reason, or an empty one.
abbrev pub path_of : Reason → List ℕ
path_of (Early p) = p
path_of (Missing t) = []
path_of (Foreign p) = p
path_of (Lost p) = p
path_of (Torn t) = []
path_of (Stale p) = p
path_of (Half t) = []
path_of (Left p) = p

-- The task of a reason, or 0.
abbrev pub task_of : Reason → ℕ
task_of (Early p) = 0
task_of (Missing t) = t
task_of (Foreign p) = 0
task_of (Lost p) = 0
task_of (Torn t) = t
task_of (Stale p) = 0
task_of (Half t) = t
task_of (Left p) = 0

-- True if a reason is checked before another: by its kind, then by the bytes of its path, or by its task.
abbrev pub precedes : Reason → Reason → Bool
precedes r s =
    nat_lt (rank r) (rank s)
    || ((rank r == rank s) && (is_lt (text_cmp (path_of r) (path_of s)) || nat_lt (task_of r) (task_of s)))

-- This is a reason why a run with these moments is not sound with one more, at which these paths have changed.
abbrev pub Holds : Claim Tags → Shown Tags → List (Moment Tags) → Moment Tags → (changed : List (List ℕ)) → Reason → Type 0
Holds w opening moments m changed (Early p) = reasons.Early opening m p
Holds w opening moments m changed (Missing t) = reasons.Missing w opening m t
Holds w opening moments m changed (Foreign p) = reasons.Foreign w opening m changed p
Holds w opening moments m changed (Lost p) = reasons.Lost w opening m changed p
Holds w opening moments m changed (Torn t) = reasons.Torn w opening moments m t
Holds w opening moments m changed (Stale p) = reasons.Stale opening m p
Holds w opening moments m changed (Half t) = reasons.Half w opening moments m t
Holds w opening moments m changed (Left p) = reasons.Left w opening m p

-- This is the first reason that holds.
pub record IsFirst
    (w : Claim Tags) (opening : Shown Tags) (moments : List (Moment Tags)) (m : Moment Tags) (changed : List (List ℕ)) (r : Reason) : Type 0
  where
    pub holds : Holds w opening moments m changed r
    pub first : (s : Reason) → precedes s r ≡ true → Holds w opening moments m changed s → ⊥
