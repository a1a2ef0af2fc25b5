-- The laws of soundness by which a judge may look at each task by itself, at one moment after another, and at the changed paths alone.
use Rattle.std.specs.Prelude.{ℕ, ◌<◌, List, [], ◌∷◌, ◌++◌, length, get_or, slice_get}
use Rattle.std.specs.Prelude.{Bool, true, false, Option, Some, None, is_some, ◌≡◌, ◌≢◌, ◌↔◌}
use Rattle.std.specs.List.{All, Contains, list_all, list_any}
use Rattle.std.specs.Str.{bytes_eq}
use Rattle.soundness.specs.Claims.{Claim, Files, Attempts, Apart, always_reaches, file_at, is_below, is_claimed, is_kept, is_replaced}
use Rattle.soundness.specs.Claims.{reaches, writes, writes_into}
use Rattle.soundness.specs.Moments.{Shown, Moment, Fits, MayShow, Unchanged, Sound, Whole}
use Rattle.soundness.specs.declared.marker.Marker.TheVariants as markers
use Rattle.judging.specs.Judging.{AttemptExplains, Begins, OthersFit, Judged, JudgedNext, DifferAt, StillExplains}
use Rattle.judging.specs.Reasons.{Early, Missing, Foreign, Lost, Torn, Stale, Half, Left}
use Rattle.judging.specs.Listed.{Listed, ListedBelow, ListedOnce, Numbered, by_task, files_of, numbered, of_task, owner}

-- The opening file fits every choice, and what readers see at a moment that needs no choice is allowed with each.
pub record OpeningFits (I : Type 0) : Type 0 where
  pub fits : (is_kept : Bool) (o f : Option I) → Fits is_kept o f o
  pub unchanged : (w : Claim I) (opening : Shown I) (m : Moment I) → Unchanged opening m → (p : List ℕ) (f : Option I)
      → MayShow w opening m p f

-- If no path is written by attempts of two tasks, a run is sound exactly if each task by itself has an attempt that explains it.
abbrev pub ByTask : Type 0 → Type 0
ByTask I = (w : Claim I) → Apart w.tasks → (opening : Shown I) (moments : List (Moment I))
    → Sound w opening moments ↔ Judged w opening moments

-- If no path is written by attempts of two tasks, a run stays sound with one more moment exactly if each task has an attempt that
-- explained all moments before and explains this one.
abbrev pub InTurn : Type 0 → Type 0
InTurn I = (w : Claim I) → Apart w.tasks → (opening : Shown I) (moments : List (Moment I)) (m : Moment I)
    → Sound w opening (moments ++ m ∷ []) ↔ JudgedNext w opening moments m

-- From one moment to the next only the changed paths need to be looked at, but all paths if a new marker has just been put.
pub record WhereChanged (I : Type 0) : Type 0 where
  -- A path is among the changed ones exactly if its bytes are those of one of them.
  pub is_changed : (changed : List (List ℕ)) (q : List ℕ) → (list_any (bytes_eq q) changed ≡ true) ↔ Contains changed q
  -- No choice is needed at the next moment if readers see the opening files at the changed paths, and no new marker exists.
  pub unchanged : (opening : Shown I) (changed : List (List ℕ)) (m n : Moment I) → DifferAt changed m n → Unchanged opening m
      → n.marker ≢ markers.New → All (λ p. n.shown p ≡ opening p) changed → Unchanged opening n
  -- Unless a new marker has just been put, an attempt explains the next moment if it does at the changed paths that its task writes.
  pub attempts : (w : Claim I) (opening : Shown I) (task : Attempts I) (files : Files I) (changed : List (List ℕ)) (m n : Moment I)
      → DifferAt changed m n → AttemptExplains w opening task m files → (n.marker ≡ markers.New → m.marker ≡ markers.New)
      → All (λ p. writes task p ≡ true → MayShow w opening n p (file_at files p)) changed → AttemptExplains w opening task n files
  -- Unless a new marker has just been put, the paths that no attempt writes fit at the next moment if the changed ones do.
  pub others : (w : Claim I) (opening : Shown I) (changed : List (List ℕ)) (m n : Moment I) → DifferAt changed m n
      → OthersFit w opening m → (n.marker ≡ markers.New → m.marker ≡ markers.New)
      → All (λ p. is_claimed w.tasks p ≡ false → MayShow w opening n p None) changed → OthersFit w opening n
  -- With a new marker, an attempt explains the next moment on two conditions. Readers see the attempt's whole, and before the commit they
  -- see the opening files at the changed paths.
  pub marked_attempts : (w : Claim I) (opening : Shown I) (task : Attempts I) (files : Files I) (changed : List (List ℕ))
      (m n : Moment I) → DifferAt changed m n → AttemptExplains w opening task m files → n.marker ≡ markers.New
      → (n.begun ≡ false → All (λ p. writes task p ≡ true → n.shown p ≡ opening p) changed)
      → ((p : List ℕ) → writes task p ≡ true → Whole (is_kept w p) (is_replaced w p) (opening p) (file_at files p) (n.shown p))
      → AttemptExplains w opening task n files
  -- With a new marker, the paths that no attempt writes fit on the same conditions.
  pub marked_others : (w : Claim I) (opening : Shown I) (changed : List (List ℕ)) (m n : Moment I) → DifferAt changed m n
      → OthersFit w opening m → n.marker ≡ markers.New
      → (n.begun ≡ false → All (λ p. is_claimed w.tasks p ≡ false → n.shown p ≡ opening p) changed)
      → ((p : List ℕ) → is_claimed w.tasks p ≡ false → Whole (is_kept w p) (is_replaced w p) (opening p) None (n.shown p))
      → OthersFit w opening n
  -- If the commit begins and nothing else changes, no choice is needed if none was before.
  pub begins_unchanged : (opening : Shown I) (m n : Moment I) → Begins opening m n → Unchanged opening m → Unchanged opening n
  -- If the commit begins and nothing else changes, an attempt explains the next moment if it explains the one before.
  pub begins_attempts : (w : Claim I) (opening : Shown I) (task : Attempts I) (files : Files I) (m n : Moment I)
      → Begins opening m n → AttemptExplains w opening task m files → AttemptExplains w opening task n files
  -- If the commit begins and nothing else changes, the paths that no attempt writes fit if they did before.
  pub begins_others : (w : Claim I) (opening : Shown I) (m n : Moment I) → Begins opening m n → OthersFit w opening m
      → OthersFit w opening n
  -- An attempt explains all moments with one more exactly if it explained all before and explains that one.
  pub one_more : (w : Claim I) (opening : Shown I) (moments : List (Moment I)) (task : Attempts I) (files : Files I) (m : Moment I)
      → StillExplains w opening (moments ++ m ∷ []) task files
      ↔ (StillExplains w opening moments task files × AttemptExplains w opening task m files)

-- Each reason shows that a run is not sound with one more moment.
pub record ReasonsTell (I : Type 0) : Type 0 where
  pub early : (w : Claim I) (opening : Shown I) (moments : List (Moment I)) (m : Moment I) (p : List ℕ)
      → Early opening m p → JudgedNext w opening moments m → ⊥
  pub missing : (w : Claim I) (opening : Shown I) (moments : List (Moment I)) (m : Moment I) (t : ℕ)
      → Missing w opening m t → JudgedNext w opening moments m → ⊥
  pub foreign : (w : Claim I) (opening : Shown I) (moments : List (Moment I)) (m : Moment I) (changed : List (List ℕ)) (p : List ℕ)
      → Foreign w opening m changed p → JudgedNext w opening moments m → ⊥
  pub lost : (w : Claim I) (opening : Shown I) (moments : List (Moment I)) (m : Moment I) (changed : List (List ℕ)) (p : List ℕ)
      → Lost w opening m changed p → JudgedNext w opening moments m → ⊥
  pub torn : (w : Claim I) (opening : Shown I) (moments : List (Moment I)) (m : Moment I) (t : ℕ)
      → Torn w opening moments m t → JudgedNext w opening moments m → ⊥
  pub stale : (w : Claim I) (opening : Shown I) (moments : List (Moment I)) (m : Moment I) (p : List ℕ)
      → Stale opening m p → JudgedNext w opening moments m → ⊥
  pub half : (w : Claim I) (opening : Shown I) (moments : List (Moment I)) (m : Moment I) (t : ℕ)
      → Half w opening moments m t → JudgedNext w opening moments m → ⊥
  pub left : (w : Claim I) (opening : Shown I) (moments : List (Moment I)) (m : Moment I) (p : List ℕ)
      → Left w opening m p → JudgedNext w opening moments m → ⊥

-- The tasks and paths of a claim, by the attempts that are listed. Each listed task is one of the claim's, and listed once.
pub record ListedClaims (I : Type 0) : Type 0 where
  -- The claim has as many tasks as its number of tasks says.
  pub count : (tasks : ℕ) (listed : Listed I) → length (by_task 0 tasks listed) ≡ tasks
  -- The t-th task has the attempts that are listed of that number.
  pub task : (tasks : ℕ) (listed : Listed I) (t : ℕ) → t < tasks → slice_get (by_task 0 tasks listed) t ≡ Some (of_task t listed)
  -- A listed task has the attempts that are listed with it.
  pub at : (listed : Listed I) → ListedOnce listed → (i : ℕ) (d : ℕ × Numbered I) → i < length listed
      → numbered (get_or listed i d).0 listed ≡ (get_or listed i d).1
  -- A path is claimed exactly if it has an owner.
  pub claimed : (tasks : ℕ) (listed : Listed I) → ListedBelow tasks listed → ListedOnce listed → (p : List ℕ)
      → is_claimed (by_task 0 tasks listed) p ≡ is_some (owner p listed)
  -- The owner of a path is a listed task that writes it.
  pub owned : (listed : Listed I) → ListedOnce listed → (p : List ℕ) (t : ℕ) → owner p listed ≡ Some t
      → writes (of_task t listed) p ≡ true
  -- If a path has no owner, no task writes it.
  pub free : (listed : Listed I) (p : List ℕ) → owner p listed ≡ None → (t : ℕ) → writes (of_task t listed) p ≡ false
  -- No path is written by attempts of two tasks if each task that writes one is its owner.
  pub apart : (tasks : ℕ) (listed : Listed I)
      → ((t : ℕ) (p : List ℕ) → writes (of_task t listed) p ≡ true → owner p listed ≡ Some t)
      → Apart (by_task 0 tasks listed)
  -- A path is below a directory that some attempt writes into exactly if it is below such a directory of a listed attempt.
  pub reached : (tasks : ℕ) (listed : Listed I) → ListedBelow tasks listed → ListedOnce listed → (p : List ℕ)
      → list_any (list_any (reaches p)) (by_task 0 tasks listed) ≡ list_any (λ x. list_any (reaches p) (files_of x.1)) listed
  -- A path is below a directory that every attempt of some task writes into exactly if it is below such a directory of a listed task.
  pub replaced : (tasks : ℕ) (listed : Listed I) → ListedBelow tasks listed → ListedOnce listed → (p : List ℕ)
      → list_any (always_reaches p) (by_task 0 tasks listed) ≡ list_any (λ x. always_reaches p (files_of x.1)) listed
  -- A path is below a directory that every attempt of a task writes into exactly if the task has an attempt and such a directory exists.
  pub shared : (task : Attempts I) (p : List ℕ) → (always_reaches p task ≡ true)
      ↔ ((d : List ℕ) × task ≢ [] × (list_all (writes_into d) task ≡ true) × (is_below d p ≡ true))
