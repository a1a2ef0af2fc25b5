-- How a judge may look at the moments of a run: at each task by itself, and at one moment after another.
use Rattle.std.specs.Prelude.{ℕ, List, true, false, None, ◌≡◌, ◌⊎◌}
use Rattle.std.specs.List.{All, Any, Contains}
use Rattle.soundness.specs.Claims.{Claim, Files, Attempts, file_at, writes, is_claimed}
use Rattle.soundness.specs.Moments.{Shown, Moment, MayShow, Same, Unchanged}
use Rattle.soundness.specs.declared.marker.Marker.TheVariants as markers

-- The attempt with these files explains what readers see of its task at this moment: at each path that the task writes.
abbrev pub AttemptExplains : {I : Type 0} → Claim I → Shown I → Attempts I → Moment I → Files I → Type 0
AttemptExplains w opening task m files = (p : List ℕ) → writes task p ≡ true → MayShow w opening m p (file_at files p)

-- The attempt explains that at each of these moments.
abbrev pub StillExplains : {I : Type 0} → Claim I → Shown I → List (Moment I) → Attempts I → Files I → Type 0
StillExplains w opening moments task files = All (λ m. AttemptExplains w opening task m files) moments

-- At each path that no attempt writes, readers may see what they see at this moment.
abbrev pub OthersFit : {I : Type 0} → Claim I → Shown I → Moment I → Type 0
OthersFit w opening m = (p : List ℕ) → is_claimed w.tasks p ≡ false → MayShow w opening m p None

-- Each task has an attempt that explains all these moments, and at the paths that no attempt writes all of them fit.
pub record EachTask {I : Type 0} (w : Claim I) (opening : Shown I) (moments : List (Moment I)) : Type 0 where
  pub each : All (λ task. Any (StillExplains w opening moments task) task) w.tasks
  pub others : All (OthersFit w opening) moments

-- No moment needs a choice, or each task has an attempt that explains them all.
abbrev pub Judged : {I : Type 0} → Claim I → Shown I → List (Moment I) → Type 0
Judged w opening moments = All (Unchanged opening) moments ⊎ EachTask w opening moments

-- Each task has an attempt that explained the moments before and explains this one too, and the other paths fit.
pub record EachTaskNext {I : Type 0} (w : Claim I) (opening : Shown I) (moments : List (Moment I)) (m : Moment I) : Type 0 where
  pub each : All (λ task. Any (λ files. StillExplains w opening moments task files × AttemptExplains w opening task m files) task) w.tasks
  pub others_before : All (OthersFit w opening) moments
  pub others : OthersFit w opening m

-- Neither the next moment nor one before it needs a choice, or each task has an attempt that explains it too.
abbrev pub JudgedNext : {I : Type 0} → Claim I → Shown I → List (Moment I) → Moment I → Type 0
JudgedNext w opening moments m = (All (Unchanged opening) moments × Unchanged opening m) ⊎ EachTaskNext w opening moments m

-- A moment and the next one: the commit has begun at both or at neither, an old marker existed before if it does now, and readers see
-- the same at each path but these.
pub record DifferAt {I : Type 0} (changed : List (List ℕ)) (m n : Moment I) : Type 0 where
  pub begun : n.begun ≡ m.begun
  pub old : n.marker ≡ markers.Old → m.marker ≡ markers.Old
  pub shown : (q : List ℕ) → (Contains changed q → ⊥) → n.shown q ≡ m.shown q

-- A moment at which readers see the opening files, and the next one, at which the commit has begun and nothing else has changed.
pub record Begins {I : Type 0} (opening : Shown I) (m n : Moment I) : Type 0 where
  pub begun : n.begun ≡ true
  pub marker : n.marker ≡ m.marker
  pub shown : Same n.shown m.shown
  pub before : Same m.shown opening
