-- A name with a job's id, by the place where it is cut, and a path by its last element.
use Rattle.text_and_lists.proofs.Counts.{some_part}
use Rattle.text_and_lists.proofs.Pieces.{join_parts, one_part, parts_append}
use Rattle.text_and_lists.specs.Parts.{is_other, parts_of}
use Rattle.job_model.specs.Placed.{unique_name, with_id, with_id_last}
use Rattle.std.proofs.Common.{Bool, List, ap, append_assoc, false, not, refl, sym, true, ℕ, [], ◌++◌, ◌==◌, ◌∙◌, ◌∷◌, ◌≡◌}
use Rattle.std.proofs.lemmas.Bool.{and_parts, true≢false}
use Rattle.std.specs.List.{join_with_byte, list_all}

-- ---- a name

other_not : (s b : ℕ) → is_other s b ≡ true → (b == s) ≡ false
other_not s b h = by (b == s) refl
  where
    by : (t : Bool) → (b == s) ≡ t → t ≡ false
    by true e = absurd (true≢false (sym h ∙ ap not e))
    by false e = refl

-- The name of a stem, a dot and an ending.
pub dotted_name : (id name stem ending : List ℕ) → name ≡ stem ++ 46 ∷ ending → list_all (is_other 46) stem ≡ true
    → with_id id name ≡ stem ++ 45 ∷ (id ++ 46 ∷ ending)
dotted_name id name stem ending e h = ap (with_id id) e ∙ by stem h
  where
    by : (xs : List ℕ) → list_all (is_other 46) xs ≡ true → with_id id (xs ++ 46 ∷ ending) ≡ xs ++ 45 ∷ (id ++ 46 ∷ ending)
    by [] h = refl
    by (x ∷ xs) h = let p = and_parts (is_other 46 x) (list_all (is_other 46) xs) h in rw (other_not 46 x p.0)
        (ap (λ (l : List ℕ). x ∷ l) (by xs p.1))

-- A name without a dot.
pub dotless_name : (id name : List ℕ) → list_all (is_other 46) name ≡ true → with_id id name ≡ name ++ 45 ∷ id
dotless_name id [] h = refl
dotless_name id (x ∷ xs) h = let p = and_parts (is_other 46 x) (list_all (is_other 46) xs) h in rw (other_not 46 x p.0)
    (ap (λ (l : List ℕ). x ∷ l) (dotless_name id xs p.1))

-- ---- a path

last_named : (id name : List ℕ) (es : List (List ℕ)) → with_id_last id (es ++ name ∷ []) ≡ es ++ with_id id name ∷ []
last_named id name (e ∷ f ∷ es) = ap (λ (l : List (List ℕ)). e ∷ l) (last_named id name (f ∷ es))
last_named id name _ = refl

join_last : (e name : List ℕ) (es : List (List ℕ)) → join_with_byte 47 ((e ∷ es) ++ name ∷ []) ≡ join_with_byte 47 (e ∷ es) ++ 47 ∷ name
join_last e name [] = refl
join_last e name (f ∷ es) = ap (λ (l : List ℕ). e ++ 47 ∷ l) (join_last f name es) ∙ sym
    (append_assoc e (47 ∷ join_with_byte 47 (f ∷ es)) (47 ∷ name))

-- The path of a directory and a name.
pub path_with_name : (id path front name : List ℕ) → path ≡ front ++ 47 ∷ name → list_all (is_other 47) name ≡ true
    → unique_name path id ≡ front ++ 47 ∷ with_id id name
path_with_name id path front name e h =
    let parts : parts_of 47 path ≡ parts_of 47 front ++ name ∷ [] = ap (parts_of 47) e ∙ parts_append 47 front name ∙ ap
    (λ (l : List (List ℕ)). parts_of 47 front ++ l) (one_part 47 name h) in
    let some = some_part 47 [] front in
    ap (λ (l : List (List ℕ)). join_with_byte 47 (with_id_last id l)) parts
    ∙ ap (join_with_byte 47) (last_named id name (parts_of 47 front))
    ∙ ap (λ (l : List (List ℕ)). join_with_byte 47 (l ++ with_id id name ∷ [])) some.2
    ∙ join_last some.0 (with_id id name) some.1
    ∙ ap (λ (l : List ℕ). l ++ 47 ∷ with_id id name) (ap (join_with_byte 47) (sym some.2) ∙ join_parts 47 front)

-- A path that is only a name.
pub name_alone : (id name : List ℕ) → list_all (is_other 47) name ≡ true → unique_name name id ≡ with_id id name
name_alone id name h = ap (λ (l : List (List ℕ)). join_with_byte 47 (with_id_last id l)) (one_part 47 name h)
