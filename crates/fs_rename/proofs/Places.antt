-- The target as a new place.
use Rattle.text_and_lists.proofs.Members.{none_some}
use Rattle.fs_ops.specs.Places.{prefix_of}
use Rattle.fs_rename.specs.Keys.{place_of}
use Rattle.fs_tree.proofs.Begins.{marker_is}
use Rattle.fs_tree.specs.Tree.{is_marker}
use Rattle.path_keys.proofs.Keys.{some_key}
use Rattle.path_keys.specs.Paths.{is_key}
use Rattle.s3_types.specs.Names.{are_elements}
use Rattle.std.proofs.Common.{List, None, Some, arith, false, length, refl, true, ℕ, [], ◌<◌, ◌==◌, ◌∷◌, ◌≡◌}

pub some_long : (s : List ℕ) → (length s == 0) ≡ false → 0 < length s
some_long s h = grind arith

pub target_elements : (t : List ℕ) → (length t == 0) ≡ false → is_key t ≡ true → are_elements t ≡ true
target_elements t f k = (some_key t (some_long t f) k).0

pub source_none : (s t : List ℕ) → (length s == 0) ≡ true → place_of s t ≡ None
source_none s t h = grind arith

pub target_none : (s t : List ℕ) → (length t == 0) ≡ true → place_of s t ≡ None
target_none s t h = grind arith

pub target_some : (s t : List ℕ) → (length s == 0) ≡ false → (length t == 0) ≡ false → place_of s t ≡ Some t
target_some s t h g = grind arith

-- A source that has a new place is below a marker.
pub place_marker : (s t q : List ℕ) → place_of s t ≡ Some q → is_marker (prefix_of s) ≡ true
place_marker [] t q h = absurd (none_some refl h)
place_marker (x ∷ s) t q h = marker_is (x ∷ s)
