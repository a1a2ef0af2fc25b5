-- A text cut at its last `/`.
use Rattle.text_and_lists.proofs.Pieces.{join_parts, one_part, others_from_bytes, parts_append}
use Rattle.text_and_lists.specs.Parts.{is_other, parts_of}
use Rattle.path_keys.proofs.Keys.{key_from, some_key}
use Rattle.path_keys.specs.Paths.{is_key, without_last}
use Rattle.s3_types.specs.Names.{are_elements, is_element}
use Rattle.std.proofs.Common.{List, ap, arith, drop, length, length-append, refl, suc, sym, take, true, ℕ, [], ◌++◌, ◌+◌, ◌==◌, ◌∙◌, ◌∷◌}
use Rattle.std.proofs.Common.{◌≡◌}
use Rattle.std.proofs.lemmas.Bool.{and_parts}
use Rattle.std.proofs.lemmas.List.{take-append-drop}
use Rattle.std.proofs.lemmas.List.Folds.{list_all-append}
use Rattle.std.proofs.lemmas.Str.Pattern.{NoCharPasses-char, drop_at_char}
use Rattle.std.specs.List.{join_with_byte, list_all}
use Rattle.std.specs.Str.{NoCharPasses}
use Rattle.std.specs.Str.Pattern.{RFindsChar, SplitsAroundMatch}

without_last-append : (parts : List (List ℕ)) (part : List ℕ) → without_last (parts ++ part ∷ []) ≡ parts
without_last-append [] part = refl
without_last-append (p ∷ []) part = refl
without_last-append (p ∷ q ∷ parts) part = ap (λ (l : List (List ℕ)). p ∷ l) (without_last-append (q ∷ parts) part)

pub no_slash : (text : List ℕ) → NoCharPasses (λ d. d == 47) text → list_all (is_other 47) text ≡ true
no_slash text h = others_from_bytes 47 text (λ i lt. NoCharPasses-char 47 text i h (omega arith) lt)

-- The parts of a text are those before its last `/`, and the last one.
pub parts_round : (text front back : List ℕ) → text ≡ front ++ 47 ∷ back → list_all (is_other 47) back ≡ true
    → parts_of 47 text ≡ parts_of 47 front ++ back ∷ []
parts_round text front back e h = ap (parts_of 47) e ∙ parts_append 47 front back ∙ ap (λ (l : List (List ℕ)). parts_of 47 front ++ l)
    (one_part 47 back h)

pub before_slash : (text front back : List ℕ) → text ≡ front ++ 47 ∷ back → list_all (is_other 47) back ≡ true
    → front ≡ join_with_byte 47 (without_last (parts_of 47 text))
before_slash text front back e h =
    sym (ap (λ (l : List (List ℕ)). join_with_byte 47 (without_last l)) (parts_round text front back e h)
    ∙ ap (join_with_byte 47) (without_last-append (parts_of 47 front) back) ∙ join_parts 47 front)

pub before_none : (text : List ℕ) → list_all (is_other 47) text ≡ true → [] ≡ join_with_byte 47 (without_last (parts_of 47 text))
before_none text h = sym (ap (λ (l : List (List ℕ)). join_with_byte 47 (without_last l)) (one_part 47 text h))

pub front_is_key : (text front back : List ℕ) → is_key text ≡ true → text ≡ front ++ 47 ∷ back → list_all (is_other 47) back ≡ true
    → is_key front ≡ true
front_is_key text front back key e h =
    let long : length text ≡ length front + suc (length back) = ap length e ∙ length-append front (47 ∷ back) in
    let is = some_key text (omega arith) key in
    let all = sym (ap (list_all is_element) (parts_round text front back e h) ∙ list_all-append is_element (parts_of 47 front) (back ∷ []))
    ∙ is.0 in
    key_from front (and_parts (are_elements front) _ all).0 (omega arith)

pub cut_last : (text front back : List ℕ) → SplitsAroundMatch (RFindsChar 47) text front back → (text ≡ front ++ 47 ∷ back)
    × (list_all (is_other 47) back ≡ true)
cut_last text front back h =
    let here : drop h.0 text ≡ 47 ∷ drop h.1 text = drop_at_char 47 text h.0 h.1 h.2.1 (omega arith) in
    let round : text ≡ take h.0 text ++ 47 ∷ drop h.1 text = sym (take-append-drop h.0 text) ∙ ap (λ (l : List ℕ). take h.0 text ++ l) here
    in
    let others : list_all (is_other 47) (drop h.1 text) ≡ true = no_slash (drop h.1 text) h.2.0 in (
      round ∙ ap (λ (l : List ℕ). l ++ 47 ∷ drop h.1 text) (sym h.3) ∙ ap (λ (l : List ℕ). front ++ 47 ∷ l) (sym h.4),
      ap
          (list_all (is_other 47)) h.4 ∙ others,
    )
