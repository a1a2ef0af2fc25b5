-- The new place inside a directory, and the paths above the target.
use Rattle.text_and_lists.proofs.Members.{none_some}
use Rattle.text_and_lists.proofs.Pieces.{one_part, parts_append}
use Rattle.text_and_lists.specs.Parts.{parts_of}
use Rattle.fs_ops.proofs.MarkerAbove.{above_by, not_zero}
use Rattle.fs_ops.proofs.Names.{last_end}
use Rattle.fs_ops.specs.Places.{key_if, prefix_of}
use Rattle.fs_rename.proofs.Places.{some_long}
use Rattle.fs_rename.specs.code.Rename.{inside_of, place_by}
use Rattle.fs_tree.proofs.Above.{Cut, cut, marker_ends}
use Rattle.fs_tree.proofs.Begins.{marker_is}
use Rattle.fs_tree.specs.Changes.{last_of, own_name, parent}
use Rattle.fs_tree.specs.Moves.{inside}
use Rattle.fs_tree.specs.Tree.{is_marker}
use Rattle.path_keys.proofs.Beneath.{below_elements}
use Rattle.path_keys.proofs.Keys.{some_key}
use Rattle.path_keys.proofs.Last.{before_none, parts_round}
use Rattle.path_keys.specs.Paths.{Path, is_key, parent_of}
use Rattle.s3_types.specs.Names.{are_elements, is_element}
use Rattle.std.proofs.Common.{Bool, List, None, Option, Some, ap, arith, false, inl, inr, length, refl, sym, true, ℕ, [], ◌<◌, ◌==◌, ◌∙◌}
use Rattle.std.proofs.Common.{◌∷◌, ◌≡◌}
use Rattle.std.proofs.lemmas.Bool.{and_parts, false≢true, true≢false}
use Rattle.std.proofs.lemmas.List.Folds.{list_all-append}
use Rattle.std.specs.List.{list_all}

-- ---- elements

-- Elements do not end in `/`.
pub no_marker : (q : List ℕ) → are_elements q ≡ true → is_marker q ≡ false
no_marker q h = grind (arith, marker_ends, parts_append, one_part, list_all-append, and_parts)

-- There is at least one element.
key_is : (q : List ℕ) → are_elements q ≡ true → key_if q ≡ Some q
key_is [] h = absurd (false≢true (sym (ap (list_all is_element) (one_part 47 [] refl)) ∙ h))
key_is (x ∷ q) h = refl

-- ---- the last element of a path

own_elements : (p : List ℕ) → are_elements p ≡ true → are_elements (own_name p) ≡ true
own_elements p k = by (cut p)
  where
    by : Cut p → are_elements (own_name p) ≡ true
    by (inl n) = ap are_elements (ap last_of (one_part 47 p n)) ∙ k
    by (inr c) =
        let e = parts_round p c.0 c.1 c.2 c.3 in
        let name : own_name p ≡ c.1 = ap last_of e ∙ last_end (parts_of 47 c.0) c.1 in
        let all = sym (ap (list_all is_element) e ∙ list_all-append is_element (parts_of 47 c.0) (c.1 ∷ [])) ∙ k in
        ap are_elements name ∙ ap (list_all is_element) (one_part 47 c.1 c.3) ∙
        (and_parts (list_all is_element (parts_of 47 c.0)) (list_all is_element (c.1 ∷ [])) all).1

-- The path inside the target consists of elements.
pub inside_elements : (s t : List ℕ) → 0 < length s → is_key s ≡ true → is_key t ≡ true → are_elements (inside s t) ≡ true
inside_elements s t some k h = below_elements t (own_name s) h (own_elements s (some_key s some k).0)

pub inside_text : (s t text : List ℕ) → (length s == 0) ≡ false → is_key s ≡ true → is_key t ≡ true → text ≡ inside s t
    → are_elements text ≡ true
inside_text s t text f k h e = ap are_elements e ∙ inside_elements s t (some_long s f) k h

-- ---- the new places

pub inside_none : (s t : List ℕ) → (length s == 0) ≡ true → inside_of s t ≡ None
inside_none s t h = grind arith

pub inside_some : (s t : List ℕ) → (length s == 0) ≡ false → is_key s ≡ true → is_key t ≡ true → inside_of s t ≡ Some (inside s t)
inside_some [] t f k h = absurd (true≢false f)
inside_some (x ∷ s) t f k h = key_is (inside (x ∷ s) t) (inside_elements (x ∷ s) t (omega arith) k h)

-- ---- the path above a path

pub above_some : (p : Path) (o : Option Path) (q : Path) → o ≡ parent_of p → o ≡ Some q → q.key ≡ parent p.key
above_some p o q h g = grind arith

pub above_none : (p : Path) (o : Option Path) → o ≡ parent_of p → o ≡ None → p.key ≡ parent p.key
above_none p o e f = by p.key refl (sym e ∙ f)
  where
    by : (k : List ℕ) → p.key ≡ k → above_by (length k == 0) p ≡ None → p.key ≡ parent p.key
    by [] i h = i ∙ before_none [] refl ∙ ap parent (sym i)
    by (x ∷ k) i h = absurd (none_some h (ap (λ b. above_by b p) (not_zero (length k))))

-- A source that has a new place is below a marker.
pub place_marker : (s t q : List ℕ) (i : Bool) → place_by s t i ≡ Some q → is_marker (prefix_of s) ≡ true
place_marker s t q i h = grind (arith, marker_is)
