-- The paths above a path.
use Rattle.text_and_lists.proofs.Bools.{contrary}
use Rattle.text_and_lists.proofs.Members.{eq_nat, in_append, in_front, in_last, true_or_false}
use Rattle.text_and_lists.proofs.Pieces.{one_part, parts_append}
use Rattle.text_and_lists.specs.Members.{IsIn}
use Rattle.text_and_lists.specs.Parts.{is_other, parts_of}
use Rattle.dir_markers.proofs.Above.{above_more, trimmed_marker}
use Rattle.dir_markers.specs.Markers.{fronts, keys_above, marker_of}
use Rattle.fs_tree.proofs.Begins.{begins_all, begins_marker, begins_more, begins_trans, marker_at, marker_is, no_empty}
use Rattle.fs_tree.specs.Changes.{parent}
use Rattle.fs_tree.specs.Tree.{is_marker}
use Rattle.path_keys.proofs.Ends.{no_end}
use Rattle.path_keys.proofs.Keys.{some_key}
use Rattle.path_keys.proofs.Last.{before_none, before_slash, parts_round}
use Rattle.path_keys.specs.Paths.{below, is_key}
use Rattle.s3_types.specs.Names.{are_elements, is_element, is_key_path, trimmed}
use Rattle.s3_types.specs.Pages.{begins}
use Rattle.std.proofs.Common.{List, ap, append_assoc, arith, false, inl, inr, length, length-append, map, nat_eq, nat_le, not, refl, subst}
use Rattle.std.proofs.Common.{suc, sym, true, zero, ℕ, [], ◌&&◌, ◌++◌, ◌<◌, ◌==◌, ◌∙◌, ◌∷◌, ◌≡◌, ◌⊎◌}
use Rattle.std.proofs.lemmas.Bool.{and_parts, eqb-true, false≢true}
use Rattle.std.proofs.lemmas.List.Folds.{list_all-append}
use Rattle.std.specs.List.{join_with_byte, list_all}

-- ---- a text cut at its last `/`

abbrev pub NoSlash : List ℕ → Type 0
NoSlash p = list_all (is_other 47) p ≡ true

abbrev pub Cut : List ℕ → Type 0
Cut p = NoSlash p ⊎ ((front : List ℕ) × (back : List ℕ) × (p ≡ front ++ 47 ∷ back) × NoSlash back)

pub cut : (p : List ℕ) → Cut p
cut [] = inl refl
cut (x ∷ p) = elim (cut p) [
  | inr c ↦ inr (x ∷ c.0, c.1, ap (λ l. x ∷ l) c.2, c.3)
  | inl n ↦ elim (true_or_false (x == 47)) [ inl e ↦ inr ([], p, ap (λ v. v ∷ p) (eqb-true x 47 e), n) | inr e ↦ inl (rw e n) ]
]

no_begin : (q p : List ℕ) → NoSlash p → begins (marker_of q) p ≡ true → ⊥
no_begin q [] n h = no_empty q h
no_begin [] (x ∷ p) n h =
    let e : 47 ≡ x = eq_nat 47 x (and_parts (nat_eq 47 x) true h).0 in
    false≢true (ap (λ v. not (v == 47) && list_all (is_other 47) p) e ∙ n)
no_begin (y ∷ q) (x ∷ p) n h = no_begin q p (and_parts (not (x == 47)) (list_all (is_other 47) p) n).1
    (and_parts (nat_eq y x) (begins (marker_of q) p) h).1

begins_cut : (q front back : List ℕ) → NoSlash back → begins (marker_of q) (front ++ 47 ∷ back) ≡ true
    → begins (marker_of q) (marker_of front) ≡ true
begins_cut [] [] back n h = refl
begins_cut [] (x ∷ front) back n h = h
begins_cut (y ∷ q) [] back n h = absurd (no_begin q back n (and_parts (nat_eq y 47) (begins (marker_of q) back) h).1)
begins_cut (y ∷ q) (x ∷ front) back n h =
    let w = and_parts (nat_eq y x) (begins (marker_of q) (front ++ 47 ∷ back)) h in
    ap (λ b. b && begins (marker_of q) (marker_of front)) w.0 ∙ begins_cut q front back n w.1

front_begins : (front back : List ℕ) → begins (marker_of front) (front ++ 47 ∷ back) ≡ true
front_begins [] back = refl
front_begins (x ∷ front) back = ap (λ b. b && begins (marker_of front) (front ++ 47 ∷ back))
    (and_parts (nat_eq x x) (begins front front) (begins_all (x ∷ front))).0 ∙ front_begins front back

-- ---- the path above a path

-- If a path begins with the marker of a path, the marker of its parent does too.
pub above_parent : (q p : List ℕ) → begins (marker_of q) p ≡ true → begins (marker_of q) (marker_of (parent p)) ≡ true
above_parent q p h = grind (arith, cut, no_begin, before_slash, begins_cut)

-- A path is below its parent.
pub parent_begins : (p : List ℕ) (x : ℕ) (u : List ℕ) → parent p ≡ x ∷ u → begins (marker_of (x ∷ u)) p ≡ true
parent_begins p x u h = grind (arith, cut, before_none, before_slash, front_begins)

-- ---- all paths above a path

pub none_above : (p : List ℕ) → NoSlash p → keys_above p ≡ []
none_above p n = ap (λ (l : List (List ℕ)). map (join_with_byte 47) (fronts l)) (one_part 47 p n)

pub more_above : (p front back : List ℕ) → p ≡ front ++ 47 ∷ back → NoSlash back → keys_above p ≡ keys_above front ++ front ∷ []
more_above p front back e n = above_more p front back (parts_round p front back e n)

cut_shorter : (p front back : List ℕ) (n : ℕ) → p ≡ front ++ 47 ∷ back → length p < suc n → length front < n
cut_shorter p front back n e h = let l = ap length e ∙ length-append front (47 ∷ back) in omega (arith, l, h)

above_in : (n : ℕ) (q p : List ℕ) → length p < n → IsIn q (keys_above p) → begins (marker_of q) p ≡ true
above_in zero q p l h = absurd (omega (arith, l))
above_in (suc n) q p l h = elim (cut p) [
  | inl m ↦ absurd (rw (none_above p m) at h)
  | inr c ↦ elim (in_append q (keys_above c.0) (c.0 ∷ []) (subst (IsIn q) (more_above p c.0 c.1 c.2 c.3) h)) [
    | inl g ↦ begins_trans (marker_of q) c.0 p (above_in n q c.0 (cut_shorter p c.0 c.1 n c.2 l) g) (rw c.2 (begins_more c.0 (47 ∷ c.1)))
    | inr (inl g) ↦ ap (λ v. begins (marker_of v) p) g ∙ ap (begins (marker_of c.0)) c.2 ∙ front_begins c.0 c.1
    | inr (inr g) ↦ absurd g
  ]
]

-- A path begins with the marker of each directory above it.
pub above_begins : (q p : List ℕ) → IsIn q (keys_above p) → begins (marker_of q) p ≡ true
above_begins q p h = above_in (suc (length p)) q p (omega arith) h

in_above : (n : ℕ) (q p : List ℕ) → length p < n → begins (marker_of q) p ≡ true → IsIn q (keys_above p)
in_above zero q p l h = absurd (omega (arith, l))
in_above (suc n) q p l h = elim (cut p) [
  | inl m ↦ absurd (no_begin q p m h)
  | inr c ↦ rw (more_above p c.0 c.1 c.2 c.3) (elim (marker_at q c.0 (begins_cut q c.0 c.1 c.3 (ap (begins (marker_of q)) (sym c.2) ∙ h))) [
    | inl e ↦ rw e (in_last c.0 (keys_above c.0))
    | inr g ↦ in_front q (keys_above c.0) (c.0 ∷ []) (in_above n q c.0 (cut_shorter p c.0 c.1 n c.2 l) g)
  ])
]

-- Only directories above a path have markers with which it begins.
pub begins_above : (q p : List ℕ) → begins (marker_of q) p ≡ true → IsIn q (keys_above p)
begins_above q p h = in_above (suc (length p)) q p (omega arith) h

pub above_marker : (q p : List ℕ) → IsIn q (keys_above p) → begins (marker_of q) (marker_of p) ≡ true
above_marker q p h = begins_trans (marker_of q) p (marker_of p) (above_begins q p h) (begins_marker p)

-- ---- a path's key

pub marker_ends : (p : List ℕ) → is_marker p ≡ true → (front : List ℕ) × (p ≡ front ++ 47 ∷ [])
marker_ends [] h = absurd (false≢true h)
marker_ends (x ∷ []) h = ([], ap (λ v. v ∷ []) (eqb-true x 47 h))
marker_ends (x ∷ y ∷ p) h = let w = marker_ends (y ∷ p) h in (x ∷ w.0, ap (λ l. x ∷ l) w.1)

-- The key of a path does not end in `/`.
pub key_no_marker : (x : ℕ) (p : List ℕ) → is_key (x ∷ p) ≡ true → is_marker (x ∷ p) ≡ false
key_no_marker x p k = contrary (is_marker (x ∷ p)) (λ e.
    let w = marker_ends (x ∷ p) e in
    let parts = ap (parts_of 47) w.1 ∙ parts_append 47 w.0 [] ∙ ap (λ (l : List (List ℕ)). parts_of 47 w.0 ++ l) (one_part 47 [] refl) in
    let all : (list_all is_element (parts_of 47 w.0) && false) ≡ true = sym (ap (list_all is_element) parts ∙ list_all-append is_element
    (parts_of 47 w.0) ([] ∷ []))
    ∙ (some_key (x ∷ p) (omega arith) k).0 in
    (and_parts (list_all is_element (parts_of 47 w.0)) false all).1)

-- ---- the elements of an object's key

pub marker_behind : (a : List ℕ) (x : ℕ) (r : List ℕ) → is_marker (a ++ x ∷ r) ≡ is_marker (x ∷ r)
marker_behind (y ∷ z ∷ a) x r = marker_behind (z ∷ a) x r
marker_behind _ x r = refl

pub other_end : (t : List ℕ) → is_marker t ≡ false → t ≡ trimmed t
other_end t h = no_end t (λ front e. false≢true (sym h ∙ ap is_marker e ∙ marker_is front))

pub marker_elements : (t front : List ℕ) → t ≡ front ++ 47 ∷ [] → are_elements (trimmed t) ≡ are_elements front
marker_elements t front e = ap (λ t. are_elements (trimmed t)) e ∙ ap are_elements (trimmed_marker front)

pub key_elements : (k : List ℕ) → is_key_path k ≡ true → are_elements (trimmed k) ≡ true
key_elements k h = (and_parts (nat_le 1 (length k) && nat_le (length k) 1024) (are_elements (trimmed k)) h).1

-- The text before a `/` and the text after it consist of elements.
pub cut_elements : (a r : List ℕ) → are_elements (a ++ 47 ∷ r) ≡ true → (are_elements a ≡ true) × (are_elements r ≡ true)
cut_elements a r h =
    and_parts (are_elements a) (are_elements r) (sym (ap (list_all is_element) (parts_append 47 a r) ∙ list_all-append is_element
    (parts_of 47 a) (parts_of 47 r)) ∙ h)

-- The text before a `/` that may be the last byte consists of elements.
pub front_elements : (a r : List ℕ) → are_elements (trimmed (a ++ 47 ∷ r)) ≡ true → are_elements a ≡ true
front_elements a r h = elim (true_or_false (is_marker (47 ∷ r))) [
  | inl i ↦ let w = marker_ends (47 ∷ r) i in ended w.0 w.1
  | inr i ↦ (cut_elements a r (ap are_elements (other_end (a ++ 47 ∷ r) (marker_behind a 47 r ∙ i)) ∙ h)).0
]
  where
    ended : (f : List ℕ) → 47 ∷ r ≡ f ++ 47 ∷ [] → are_elements a ≡ true
    ended [] e = sym (marker_elements (a ++ 47 ∷ r) a (ap (λ l. a ++ l) e)) ∙ h
    ended (y ∷ f) e =
        let s : 47 ≡ y = cc in
        let k : 47 ∷ r ≡ (47 ∷ f) ++ 47 ∷ [] = e ∙ ap (λ y. y ∷ f ++ 47 ∷ []) (sym s) in
        (cut_elements a f (sym (marker_elements (a ++ 47 ∷ r) (a ++ 47 ∷ f) (ap (λ l. a ++ l) k ∙ sym (append_assoc a (47 ∷ f) (47 ∷ []))))
        ∙ h)).0

-- ---- the name of a child of a path

pub plain_end : (n : List ℕ) → NoSlash n → is_marker n ≡ false
plain_end [] s = refl
plain_end (x ∷ []) s = (elim (x == 47) as (λ b. (x == 47) ≡ b → (x == 47) ≡ false)
    [ true ↦ λ e. absurd (false≢true (sym (ap (λ b. not b && true) e) ∙ s)) | false ↦ λ e. e ]) refl
plain_end (x ∷ y ∷ n) s = plain_end (y ∷ n) (and_parts (not (x == 47)) (list_all (is_other 47) (y ∷ n)) s).1

pub name_element : (p n : List ℕ) → NoSlash n → are_elements (below p n) ≡ true → is_element n ≡ true
name_element p n s h = (and_parts (is_element n) true (sym (ap (list_all is_element) (one_part 47 n s)) ∙ behind p h)).0
  where
    behind : (p : List ℕ) → are_elements (below p n) ≡ true → are_elements n ≡ true
    behind [] h = h
    behind (x ∷ p) h = (cut_elements (x ∷ p) n h).1

below_marker : (p : List ℕ) (x : ℕ) (n : List ℕ) → is_marker (below p (x ∷ n)) ≡ is_marker (x ∷ n)
below_marker [] x n = refl
below_marker (y ∷ p) x n = marker_behind (y ∷ p) 47 (x ∷ n)

-- The name of a file below a path is an element.
pub file_element : (p : List ℕ) (x : ℕ) (n : List ℕ) → NoSlash (x ∷ n) → is_key_path (below p (x ∷ n)) ≡ true → is_element (x ∷ n) ≡ true
file_element p x n h g = grind (arith, name_element, other_end, below_marker, plain_end, key_elements)

pub dir_element : (p n r : List ℕ) → NoSlash n → is_key_path (below p n ++ 47 ∷ r) ≡ true → is_element n ≡ true
dir_element p n r s h = name_element p n s (front_elements (below p n) r (key_elements (below p n ++ 47 ∷ r) h))
