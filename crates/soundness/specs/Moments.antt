-- When a run was sound for readers: what they may see at each of its moments.
use Rattle.std.specs.Prelude.{ℕ, List, Bool, true, false, Option, Some, None, ◌≡◌, ◌⊎◌, ◌≢◌}
use Rattle.std.specs.List.{All}
use Rattle.soundness.specs.Claims.{Claim, Files, Chooses, chosen_at, is_kept, is_replaced}
use Rattle.soundness.specs.declared.marker.Marker.{Marker}
use Rattle.soundness.specs.declared.marker.Marker.TheVariants as markers

-- The identity of the file that readers see at each path below the destination, if they see one there.
abbrev pub Shown : Type 0 → Type 0
Shown I = List ℕ → Option I

-- A moment of a run: whether the job's commit has begun, which success marker exists, and what readers see.
pub record Moment (I : Type 0) : Type 0 where
  pub begun : Bool
  pub marker : Marker
  pub shown : Shown I

-- Readers see the same files as in the opening.
abbrev pub Same : {I : Type 0} → Shown I → Shown I → Type 0
Same shown opening = (p : List ℕ) → shown p ≡ opening p

-- At one path the opening has `o`, the chosen attempts write `f`, and readers see `v`, which shows at most a part of the job.
pub record Fits {I : Type 0} (is_kept : Bool) (o f v : Option I) : Type 0 where
  -- Readers see the opening file or the chosen one.
  pub only : (x : I) → v ≡ Some x → (o ≡ Some x) ⊎ (f ≡ Some x)
  -- They see a kept opening file, unless a chosen attempt writes its path.
  pub stays : (x : I) → o ≡ Some x → is_kept ≡ true → f ≡ None → v ≡ Some x

-- At one path the opening has `o`, the chosen attempts write `f`, and readers see `v`, as the whole job leaves it.
pub record Whole {I : Type 0} (is_kept is_replaced : Bool) (o f v : Option I) : Type 0 where
  -- Readers see each chosen file.
  pub written : (x : I) → f ≡ Some x → v ≡ Some x
  -- If there is no chosen file, they see no other file than the opening's.
  pub only : f ≡ None → (x : I) → v ≡ Some x → o ≡ Some x
  -- They see the opening file if it is kept.
  pub stays : f ≡ None → (x : I) → o ≡ Some x → is_kept ≡ true → v ≡ Some x
  -- They see nothing if the opening file is replaced.
  pub goes : f ≡ None → (x : I) → o ≡ Some x → is_replaced ≡ true → v ≡ None

-- Readers may see `v` at one path, given whether the commit has begun and which marker exists.
pub record Allows {I : Type 0} (begun : Bool) (marker : Marker) (is_kept is_replaced : Bool) (o f v : Option I) : Type 0 where
  -- Until the commit begins they see the opening file.
  pub before : begun ≡ false → v ≡ o
  -- From then on what they see fits.
  pub between : begun ≡ true → Fits is_kept o f v
  -- While an old marker exists they see the opening file.
  pub stale : marker ≡ markers.Old → v ≡ o
  -- While a new marker exists they see the whole job.
  pub whole : marker ≡ markers.New → Whole is_kept is_replaced o f v

-- At this path readers may see what they see at this moment, if the chosen attempts write `f` there.
abbrev pub MayShow : {I : Type 0} → Claim I → Shown I → Moment I → List ℕ → Option I → Type 0
MayShow w opening m p f = Allows m.begun m.marker (is_kept w p) (is_replaced w p) (opening p) f (m.shown p)

-- With this choice readers may see, at each path, what they see at this moment.
abbrev pub Explains : {I : Type 0} → Claim I → Shown I → List (Files I) → Moment I → Type 0
Explains w opening choice m = (p : List ℕ) → MayShow w opening m p (chosen_at choice p)

-- A moment that needs no choice: readers see the opening files, and no new marker exists.
pub record Unchanged {I : Type 0} (opening : Shown I) (m : Moment I) : Type 0 where
  pub shows : Same m.shown opening
  pub unmarked : m.marker ≢ markers.New

-- One choice explains each of these moments.
abbrev pub ChosenFor : {I : Type 0} → Claim I → Shown I → List (Moment I) → Type 0
ChosenFor {I} w opening moments = (choice : List (Files I)) × Chooses w.tasks choice × All (Explains w opening choice) moments

-- The run with these moments is sound for readers: no moment needs a choice, or one choice explains them all.
abbrev pub Sound : {I : Type 0} → Claim I → Shown I → List (Moment I) → Type 0
Sound w opening moments = All (Unchanged opening) moments ⊎ ChosenFor w opening moments
