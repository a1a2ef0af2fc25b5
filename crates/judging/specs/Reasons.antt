-- Why a run that was sound for readers is not sound with one more moment.
use Rattle.std.specs.Prelude.{ℕ, List, [], true, false, Some, None, is_some, ◌≡◌, ◌⊎◌, ◌≢◌, slice_get}
use Rattle.std.specs.List.{All, Contains}
use Rattle.soundness.specs.Claims.{Claim, Files, Attempts, file_at, writes, is_claimed, is_kept, is_replaced}
use Rattle.soundness.specs.Moments.{Shown, Moment, Fits}
use Rattle.judging.specs.Judging.{AttemptExplains, StillExplains}
use Rattle.soundness.specs.declared.marker.Marker.TheVariants as markers

-- What readers see fits the attempt with these files, at each path that its task writes.
abbrev pub AttemptFits : {I : Type 0} → Claim I → Shown I → Attempts I → Moment I → Files I → Type 0
AttemptFits w opening task m files =
    (p : List ℕ) → writes task p ≡ true → Fits (is_kept w p) (opening p) (file_at files p) (m.shown p)

-- A choice is needed: readers see something else than in the opening, or a new marker exists.
abbrev pub NeedsChoice : {I : Type 0} → Shown I → Moment I → Type 0
NeedsChoice opening m = ((p : List ℕ) × m.shown p ≢ opening p) ⊎ (m.marker ≡ markers.New)

-- The commit has not begun, and readers see something else at this path than in the opening.
pub record Early {I : Type 0} (opening : Shown I) (m : Moment I) (p : List ℕ) : Type 0 where
  pub before : m.begun ≡ false
  pub differs : m.shown p ≢ opening p

-- A choice is needed, and this task has no attempt.
pub record Missing {I : Type 0} (w : Claim I) (opening : Shown I) (m : Moment I) (t : ℕ) : Type 0 where
  pub needed : NeedsChoice opening m
  pub none : slice_get w.tasks t ≡ Some []

-- Readers see, at a path that has just changed, a file that is neither the opening's nor any attempt's.
pub record Foreign {I : Type 0} (w : Claim I) (opening : Shown I) (m : Moment I) (changed : List (List ℕ)) (p : List ℕ) : Type 0 where
  pub is_changed : Contains changed p
  pub content : I
  pub seen : m.shown p ≡ Some content
  pub differs : opening p ≢ Some content
  pub unclaimed : All (λ task. All (λ files. file_at files p ≢ Some content) task) w.tasks

-- A kept opening file, at a path that has just changed and that no attempt writes, is gone.
pub record Lost {I : Type 0} (w : Claim I) (opening : Shown I) (m : Moment I) (changed : List (List ℕ)) (p : List ℕ) : Type 0 where
  pub is_changed : Contains changed p
  pub kept : is_kept w p ≡ true
  pub unclaimed : is_claimed w.tasks p ≡ false
  pub existed : is_some (opening p) ≡ true
  pub gone : m.shown p ≡ None

-- What readers see fits none of this task's attempts that explained all moments before.
pub record Torn {I : Type 0} (w : Claim I) (opening : Shown I) (moments : List (Moment I)) (m : Moment I) (t : ℕ) : Type 0 where
  pub task : Attempts I
  pub here : slice_get w.tasks t ≡ Some task
  pub attempted : task ≢ []
  pub none : All (λ files. StillExplains w opening moments task files → AttemptFits w opening task m files → ⊥) task

-- An old marker exists, and readers see something else at this path than in the opening.
pub record Stale {I : Type 0} (opening : Shown I) (m : Moment I) (p : List ℕ) : Type 0 where
  pub old : m.marker ≡ markers.Old
  pub differs : m.shown p ≢ opening p

-- A new marker exists, and none of this task's attempts that explained all moments before explains this one: readers do not see its whole.
pub record Half {I : Type 0} (w : Claim I) (opening : Shown I) (moments : List (Moment I)) (m : Moment I) (t : ℕ) : Type 0 where
  pub new : m.marker ≡ markers.New
  pub task : Attempts I
  pub here : slice_get w.tasks t ≡ Some task
  pub none : All (λ files. StillExplains w opening moments task files → AttemptExplains w opening task m files → ⊥) task

-- A new marker exists, and readers still see a replaced opening file at this path, which no attempt writes.
pub record Left {I : Type 0} (w : Claim I) (opening : Shown I) (m : Moment I) (p : List ℕ) : Type 0 where
  pub new : m.marker ≡ markers.New
  pub unclaimed : is_claimed w.tasks p ≡ false
  pub replaced : is_replaced w p ≡ true
  pub existed : is_some (opening p) ≡ true
  pub still : is_some (m.shown p) ≡ true
