-- The kept elements of a key, and that they make a key.
use Rattle.text_and_lists.specs.Parts.{parts_from, parts_of}
use Rattle.magic_paths.specs.Finals.{after_magic, before_magic, final_elements, is_word, kept}
use Rattle.path_keys.proofs.Keys.{key_from, some_key}
use Rattle.path_keys.specs.Paths.{is_key}
use Rattle.s3_types.specs.Names.{is_element}
use Rattle.std.proofs.Common.{Bool, List, ap, arith, codes, drop, false, if◌then◌else◌, length, length-append, refl, sym, take, true, ℕ, []}
use Rattle.std.proofs.Common.{◌++◌, ◌+◌, ◌-◌, ◌<◌, ◌==◌, ◌∙◌, ◌∷◌, ◌≡◌, ◌≢◌, ◌≤◌}
use Rattle.std.proofs.lemmas.Bool.{and_parts}
use Rattle.std.proofs.lemmas.List.{take-append-drop}
use Rattle.std.proofs.lemmas.List.Folds.{list_all-append}
use Rattle.std.specs.List.{after_first, list_all, list_any, position_or_len}

parts_none : (s : ℕ) (part text : List ℕ) → parts_from s part text ≢ []
unfolding parts_from
parts_none s part [] e = absurd cc
parts_none s part (x ∷ xs) e = by (x == s) refl (parts_none s (part ++ x ∷ []) xs)
  where
    by : (b : Bool) → (x == s) ≡ b → parts_from s (part ++ x ∷ []) xs ≢ [] → ⊥
    by b h g = grind arith

-- A text has at least one part.
pub some_parts : (text : List ℕ) → parts_of 47 text ≢ []
some_parts text e = parts_none 47 [] text e

halves : (n : ℕ) (es : List (List ℕ)) → list_all is_element es ≡ true → (list_all is_element (take n es) ≡ true)
    × (list_all is_element (drop n es) ≡ true)
halves n es h = and_parts (list_all is_element (take n es)) (list_all is_element (drop n es))
    (sym (list_all-append is_element (take n es) (drop n es)) ∙ ap (list_all is_element) (take-append-drop n es) ∙ h)

kept_elements : (es : List (List ℕ)) → list_all is_element es ≡ true → list_all is_element (kept es) ≡ true
kept_elements es h = elim (list_any (is_word (codes "__base")) es) as (λ b. list_all is_element
    (if b then after_first (is_word (codes "__base")) es else drop (length es - 1) es) ≡ true) [
      | true ↦ (halves (position_or_len (is_word (codes "__base")) es + 1) es h).1
      | false ↦ (halves (length es - 1) es h).1
    ]

final_are : (es : List (List ℕ)) → list_all is_element es ≡ true → list_all is_element (final_elements es) ≡ true
final_are es h =
    let after = (halves (position_or_len (is_word (codes "__magic")) es + 1) es h).1 in
    list_all-append is_element (before_magic es) (kept (after_magic es)) ∙ rw
    ((halves (position_or_len (is_word (codes "__magic")) es) es h).0, kept_elements (after_magic es) after) refl

pub final_parts : (key front behind rest : List ℕ)
    → ((next : List ℕ) → parts_of 47 (front ++ next) ≡ before_magic (parts_of 47 key) ++ parts_of 47 next)
    → parts_of 47 behind ≡ after_magic (parts_of 47 key) → parts_of 47 rest ≡ kept (parts_of 47 behind)
    → parts_of 47 (front ++ rest) ≡ final_elements (parts_of 47 key)
final_parts key front behind rest f b k = f rest ∙ ap (λ (l : List (List ℕ)). before_magic (parts_of 47 key) ++ l) (k ∙ ap kept b)

pub final_is_key : (key front behind rest : List ℕ) → is_key key ≡ true → parts_of 47 (front ++ rest) ≡ final_elements (parts_of 47 key)
    → length front + length behind < length key → length rest ≤ length behind → is_key (front ++ rest) ≡ true
final_is_key key front behind rest k e long short =
    let is = some_key key (omega arith) k in
    let all : length (front ++ rest) ≡ length front + length rest = length-append front rest in
    key_from (front ++ rest) (ap (list_all is_element) e ∙ final_are (parts_of 47 key) is.0) (omega arith)
