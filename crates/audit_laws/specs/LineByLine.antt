-- The laws by which an audit goes from one line to the next.
use Rattle.std.specs.FinMap as fin
use Rattle.std.specs.Prelude.{ℕ, List, [], ◌∷◌, ◌++◌, true, not, ◌&&◌, ◌||◌, Option, Some, None, Ok, Err, is_some, map, ◌≡◌, ◌↔◌}
use Rattle.std.specs.List.{Contains, list_any}
use Rattle.soundness.specs.Claims.{Claim}
use Rattle.soundness.specs.Moments.{Moment, Same, Shown, Sound}
use Rattle.soundness.specs.Paths.{is_visible}
use Rattle.path_keys.specs.Paths.{Path, below}
use Rattle.trace_reader.specs.declared.fault.TraceFault.{TraceFault}
use Rattle.audit_claims.specs.Claims.{Tags}
use Rattle.audit_judge.specs.Bench.{Bench, Paths, now}
use Rattle.audit_judge.specs.Changes.{change_all}
use Rattle.audit_judge.specs.Following.{Follows}
use Rattle.audit_judge.specs.Reasons.{IsFirst}
use Rattle.audit_judge.specs.declared.reason.Reason.{Reason}
use Rattle.audit_model.specs.Answers.{seen_paths}
use Rattle.audit_model.specs.Moments.{moment_if, moments, said_by, shown_of}
use Rattle.audit_model.specs.Recorded.{Recorded, is_marker, marker_key, read_after}
use Rattle.audit_objects.specs.Objects.{Objects, delete, put}
use Rattle.audit_laws.specs.Alike.{Alike, AllAlike, SameElements}

-- ---- one line more

-- Lines that have no fault, and one more line.
pub record OneMore : Type 0 where
  -- If the line has no fault, its facts and its moment are added.
  pub goes_on : (lines : List (List ℕ)) (start said : Option Recorded) (l : List ℕ) (next : Recorded)
      → said_by lines start ≡ Ok said → read_after said l ≡ Ok next
      → (said_by (lines ++ l ∷ []) start ≡ Ok (Some next)) × (moments (lines ++ l ∷ []) start ≡ moments lines start ++ moment_if next)
  -- If the line has a fault, this is the first fault, whatever follows.
  pub fault : (lines rest : List (List ℕ)) (start said : Option Recorded) (l : List ℕ) (fault : TraceFault)
      → said_by lines start ≡ Ok said → read_after said l ≡ Err fault → said_by (lines ++ l ∷ rest) start ≡ Err fault

-- ---- moments that are alike

-- If moments are alike and openings are the same, a run is sound for both or for neither.
abbrev pub SoundAlike : Type 0
SoundAlike = (w : Claim Tags) (o p : Shown Tags) (ms ns : List (Moment Tags)) → AllAlike ms ns → Same o p → Sound w o ms → Sound w p ns

-- The first reason against a run is the same too, if the same paths have changed.
abbrev pub FirstAlike : Type 0
FirstAlike = (w : Claim Tags) (o p : Shown Tags) (ms ns : List (Moment Tags)) (m n : Moment Tags) (changed other : List (List ℕ))
    (r : Reason) → AllAlike ms ns → Alike m n → Same o p → SameElements changed other → IsFirst w o ms m changed r
    → IsFirst w p ns n other r

-- ---- what a change of objects does to what readers see

-- The paths of some keys at which readers see files, and what readers see there after the objects at the keys are put or deleted.
pub record SeenLaws : Type 0 where
  -- A path is among those of some keys exactly if readers see files at it, and its key in the destination's bucket is one of them.
  pub seen : (dest : Path) (bucket : List ℕ) (keys : List (List ℕ)) (p : List ℕ) → Contains (seen_paths dest bucket keys) p
      ↔ ((is_visible p ≡ true) × (bucket ≡ dest.bucket) × Contains keys (below dest.key p))
  -- At the path of a key that was put, readers see its tags.
  pub put_seen : (dest : Path) (bucket key : List ℕ) (tags : Tags) (objects : Objects) (p : List ℕ)
      → Contains (seen_paths dest bucket (key ∷ [])) p → shown_of dest (put bucket key tags objects) p ≡ Some tags
  -- Elsewhere they see what they saw.
  pub put_other : (dest : Path) (bucket key : List ℕ) (tags : Tags) (objects : Objects) (p : List ℕ)
      → (Contains (seen_paths dest bucket (key ∷ [])) p → ⊥) → shown_of dest (put bucket key tags objects) p ≡ shown_of dest objects p
  -- At the paths of keys that were deleted, readers see nothing.
  pub delete_seen : (dest : Path) (bucket : List ℕ) (keys : List (List ℕ)) (objects : Objects) (p : List ℕ)
      → Contains (seen_paths dest bucket keys) p → shown_of dest (delete bucket keys objects) p ≡ None
  -- Elsewhere they see what they saw.
  pub delete_other : (dest : Path) (bucket : List ℕ) (keys : List (List ℕ)) (objects : Objects) (p : List ℕ)
      → (Contains (seen_paths dest bucket keys) p → ⊥) → shown_of dest (delete bucket keys objects) p ≡ shown_of dest objects p

-- Whether the success marker exists after a change.
pub record MarkerLaws : Type 0 where
  -- It exists if it has been put, or existed before.
  pub marker_put : (dest : Path) (bucket key : List ℕ) (tags : Tags) (objects : Objects)
      → is_some (put bucket key tags objects dest.bucket (marker_key dest))
      ≡ (is_marker dest bucket key || is_some (objects dest.bucket (marker_key dest)))
  -- It exists if it existed before and has not been deleted.
  pub marker_delete : (dest : Path) (bucket : List ℕ) (keys : List (List ℕ)) (objects : Objects)
      → is_some (delete bucket keys objects dest.bucket (marker_key dest))
      ≡ (not (list_any (λ key. is_marker dest bucket key) keys) && is_some (objects dest.bucket (marker_key dest)))

-- ---- what a judge knows

-- The knowledge of a judge stays the same if the current moment comes once more.
abbrev pub Again : Type 0
Again = (b : Bench) (ms : List (Moment Tags)) → Follows b ms → Follows b (ms ++ now b ∷ [])

-- Changes that give all these paths the same tags, or remove their files.
pub record ChangedAll : Type 0 where
  -- Afterwards each of the paths has these tags.
  pub there : (o : Option Tags) (ps : List (List ℕ)) (m : Paths) (q : List ℕ) → Contains ps q
      → fin.get (change_all (map (λ p. record { path = p; etags = o }) ps) m) q ≡ o
  -- Nothing else has changed.
  pub elsewhere : (o : Option Tags) (ps : List (List ℕ)) (m : Paths) (q : List ℕ) → (Contains ps q → ⊥)
      → fin.get (change_all (map (λ p. record { path = p; etags = o }) ps) m) q ≡ fin.get m q
