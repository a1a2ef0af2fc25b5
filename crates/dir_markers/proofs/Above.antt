-- The directories above a key.
use Rattle.text_and_lists.proofs.Bools.{all_three}
use Rattle.text_and_lists.proofs.Naturals.{at_most_so}
use Rattle.text_and_lists.proofs.Pieces.{join_parts, one_part}
use Rattle.text_and_lists.specs.Parts.{is_other, parts_from, parts_of}
use Rattle.dir_markers.specs.Markers.{fronts, keys_above, marker_of}
use Rattle.path_keys.proofs.Keys.{key_from, some_key}
use Rattle.path_keys.proofs.Last.{parts_round}
use Rattle.path_keys.specs.Paths.{is_key}
use Rattle.s3_types.specs.Names.{are_elements, is_element, is_key_path, trimmed}
use Rattle.std.proofs.Common.{Bool, List, ap, append_assoc, arith, eq-eqb, false, if◌then◌else◌, length, length-append, map, nat_le, nat_lt}
use Rattle.std.proofs.Common.{refl, slice_index, subst, suc, sym, take, true, ℕ, [], ◌&&◌, ◌++◌, ◌+◌, ◌-◌, ◌<◌, ◌==◌, ◌∙◌, ◌∷◌, ◌≡◌, ◌≤◌}
use Rattle.std.proofs.Math.Seq.{get_or-append_seam, take-append_seam}
use Rattle.std.proofs.lemmas.Bool.{and_parts, false≢true, leb-true}
use Rattle.std.proofs.lemmas.Bool.Decides.{nat_tests}
use Rattle.std.proofs.lemmas.List.{append-nil, length-take}
use Rattle.std.proofs.lemmas.List.Folds.{list_all-append}
use Rattle.std.specs.List.{join_with_byte, list_all}

map_append : {X Y : Type 0} (f : X → Y) (xs ys : List X) → map f (xs ++ ys) ≡ map f xs ++ map f ys
map_append f [] ys = refl
map_append f (x ∷ xs) ys = ap (λ l. f x ∷ l) (map_append f xs ys)

-- The longest prefix of a list comes last.
fronts_last : {X : Type 0} (x : X) (xs : List X) (y : X) → fronts ((x ∷ xs) ++ y ∷ []) ≡ fronts (x ∷ xs) ++ (x ∷ xs) ∷ []
fronts_last x [] y = refl
fronts_last x (z ∷ zs) y = ap (λ l. (x ∷ []) ∷ l) (ap (map (λ front. x ∷ front)) (fronts_last z zs y) ∙ map_append (λ front. x ∷ front)
    (fronts (z ∷ zs)) ((z ∷ zs) ∷ []))

-- A text has at least one part.
some_part : (part text : List ℕ) → parts_from 47 part text ≡ [] → ⊥
unfolding parts_from
some_part part [] e = cc
some_part part (x ∷ xs) e = by (x == 47) refl (some_part [] xs) (some_part (part ++ x ∷ []) xs)
  where
    by : (b : Bool) → (x == 47) ≡ b → (parts_from 47 [] xs ≡ [] → ⊥) → (parts_from 47 (part ++ x ∷ []) xs ≡ [] → ⊥) → ⊥
    by true s new old = cc
    by false s new old = old (sym (ap (λ b. if b then part ∷ parts_from 47 [] xs else parts_from 47 (part ++ x ∷ []) xs) s) ∙ e)

above_parts : (es : List (List ℕ)) (front back : List ℕ) → parts_of 47 front ≡ es
    → fronts (parts_of 47 front ++ back ∷ []) ≡ fronts (parts_of 47 front) ++ parts_of 47 front ∷ []
above_parts [] front back e = absurd (some_part [] front e)
above_parts (p ∷ ps) front back e = rw e (fronts_last p ps back)

-- The directories above a key are those above its parent, and its parent.
pub above_more : (key front back : List ℕ) → parts_of 47 key ≡ parts_of 47 front ++ back ∷ []
    → keys_above key ≡ keys_above front ++ front ∷ []
above_more key front back e =
    ap (λ l. map (join_with_byte 47) (fronts l)) e
    ∙ ap (map (join_with_byte 47)) (above_parts (parts_of 47 front) front back refl)
    ∙ map_append (join_with_byte 47) (fronts (parts_of 47 front)) (parts_of 47 front ∷ [])
    ∙ ap (λ k. keys_above front ++ k ∷ []) (join_parts 47 front)

-- ---- the key of a marker

pub trimmed_marker : (key : List ℕ) → trimmed (marker_of key) ≡ key
trimmed_marker key =
    let long : length (marker_of key) ≡ length key + 1 = length-append key (47 ∷ []) in
    let last : length (marker_of key) - 1 ≡ length key = omega (arith, long) in
    let slash : slice_index (marker_of key) (length (marker_of key) - 1) ≡ 47 = ap (λ n. slice_index (marker_of key) n) last ∙
    get_or-append_seam key 47 [] 0 in
    let some : nat_lt 0 (length (marker_of key)) ≡ true = grind (arith, nat_tests) in
    let ends : (slice_index (marker_of key) (length (marker_of key) - 1) == 47) ≡ true = eq-eqb _ _ slash in
    rw (some, ends) (ap (λ n. take n (marker_of key)) last ∙ take-append_seam key (47 ∷ []))

-- The key of a marker is a valid key.
pub marker_is_key : (key : List ℕ) → 0 < length key → is_key key ≡ true → is_key_path (marker_of key) ≡ true
marker_is_key key some k =
    let is = some_key key some k in
    let short : length key ≤ 1023 = is.1 in
    let long : length (marker_of key) ≡ length key + 1 = length-append key (47 ∷ []) in
    let least : nat_le 1 (length (marker_of key)) ≡ true = at_most_so 1 (length (marker_of key)) (omega (arith, long)) in
    let most : nat_le (length (marker_of key)) 1024 ≡ true = at_most_so (length (marker_of key)) 1024 (omega (arith, long, short)) in
    all_three _ _ _ least most (ap are_elements (trimmed_marker key) ∙ is.0)

-- A text without one `/` at its end is no longer than before.
trimmed_short : (key : List ℕ) → length (trimmed key) ≤ length key
trimmed_short key = by (nat_lt 0 (length key) && (slice_index key (length key - 1) == 47))
  where
    by : (b : Bool) → length (if b then take (length key - 1) key else key) ≤ length key
    by true = omega (arith, length-take (length key - 1) key)
    by false = omega arith

pub front_some : (key front back : List ℕ) → is_key key ≡ true → key ≡ front ++ 47 ∷ back → 0 < length front
unfolding parts_from
front_some key [] back k e =
    let is = some_key key (omega (arith, ap length e)) k in
    absurd (false≢true (sym (ap are_elements e) ∙ is.0))
front_some key (x ∷ xs) back k e = omega arith

some_front : (front : List ℕ) → are_elements front ≡ true → 0 < length front
unfolding parts_from
some_front [] a = absurd (false≢true a)
some_front (x ∷ xs) a = omega arith

-- The text before the last `/` of an object's key is the key of a path, and not the root.
pub parent_key : (key path front back : List ℕ) → is_key_path key ≡ true → path ≡ trimmed key → path ≡ front ++ 47 ∷ back
    → list_all (is_other 47) back ≡ true
    → (0 < length front) × (is_key front ≡ true)
parent_key key path front back k p e h =
    let two = and_parts (nat_le 1 (length key) && nat_le (length key) 1024) (are_elements (trimmed key)) k in
    let most : length key ≤ 1024 = leb-true (length key) 1024 (and_parts (nat_le 1 (length key)) (nat_le (length key) 1024) two.0).1 in
    let short : length path ≤ length key = subst (λ t. length t ≤ length key) (sym p) (trimmed_short key) in
    let long : length path ≡ length front + suc (length back) = ap length e ∙ length-append front (47 ∷ back) in
    let all : are_elements path ≡ true = ap are_elements p ∙ two.1 in
    let front_all : are_elements front ≡ true = (and_parts (are_elements front) _
    (sym (ap (list_all is_element) (parts_round path front back e h) ∙ list_all-append is_element (parts_of 47 front) (back ∷ [])) ∙
    all)).0 in
    (some_front front front_all, key_from front front_all (omega (arith, most, short, long)))

-- A key without a `/` is right below the root, so no marker is added.
pub none_above : (key : List ℕ) (found : List (List ℕ)) → list_all (is_other 47) key ≡ true
    → found ≡ found ++ map marker_of (keys_above key)
none_above key found h = sym (ap (λ (l : List (List ℕ)). found ++ map marker_of (map (join_with_byte 47) (fronts l))) (one_part 47 key h) ∙
    append-nil found)

-- One more marker is added: that of the parent.
pub one_above : (key front back m : List ℕ) (found first : List (List ℕ)) → key ≡ front ++ 47 ∷ back → list_all (is_other 47) back ≡ true
    → first ≡ found ++ map marker_of (keys_above front) → m ≡ marker_of front
    → first ++ m ∷ [] ≡ found ++ map marker_of (keys_above key)
one_above key front back m found first e h f k =
    let more = above_more key front back (parts_round key front back e h) in
    ap (λ (l : List (List ℕ)). l ++ m ∷ []) f
    ∙ (ap (λ (x : List ℕ). (found ++ map marker_of (keys_above front)) ++ x ∷ []) k
    ∙ (append_assoc found (map marker_of (keys_above front)) (marker_of front ∷ [])
    ∙ ap (λ (l : List (List ℕ)). found ++ l) (sym (ap (map marker_of) more ∙ map_append marker_of (keys_above front) (front ∷ [])))))
