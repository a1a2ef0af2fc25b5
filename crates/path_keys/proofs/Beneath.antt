-- Texts after a key and a `/`.
use Rattle.text_and_lists.proofs.Bools.{all_three}
use Rattle.text_and_lists.proofs.Lists.{drop_front}
use Rattle.text_and_lists.proofs.Pieces.{parts_append}
use Rattle.text_and_lists.specs.Parts.{parts_from, parts_of}
use Rattle.path_keys.proofs.Ends.{no_end}
use Rattle.path_keys.proofs.Faults.{no_fault}
use Rattle.path_keys.proofs.Keys.{key_from, some_key}
use Rattle.path_keys.specs.Paths.{below, first_fault, is_key, relative_in}
use Rattle.s3_types.specs.Names.{are_elements, is_element, is_key_path}
use Rattle.std.proofs.Common.{Bool, List, None, Some, ap, append_assoc, arith, drop, false, length, nat_eq, refl, sym, true, ℕ, [], ◌++◌}
use Rattle.std.proofs.Common.{◌<◌, ◌∙◌, ◌∷◌, ◌≡◌, ◌≢◌, ◌≤◌}
use Rattle.std.proofs.lemmas.Bool.{and_parts, false≢true, le-leb}
use Rattle.std.proofs.lemmas.Bool.Decides.{Decides-eqb}
use Rattle.std.proofs.lemmas.List.Folds.{list_all-append}
use Rattle.std.proofs.lemmas.Slice.Eq.{starts_is}
use Rattle.std.specs.List.{list_all, starts_with}

-- Elements, a `/` and elements are elements.
pub elements_append : (front back : List ℕ) → are_elements front ≡ true → are_elements back ≡ true
    → are_elements (front ++ 47 ∷ back) ≡ true
elements_append front back f b =
    ap (list_all is_element) (parts_append 47 front back) ∙ list_all-append is_element (parts_of 47 front) (parts_of 47 back) ∙ rw (f, b)
    refl

pub below_elements : (key relative : List ℕ) → is_key key ≡ true → are_elements relative ≡ true → are_elements (below key relative) ≡ true
below_elements [] relative k h = h
below_elements (x ∷ xs) relative k h = elements_append (x ∷ xs) relative (some_key (x ∷ xs) (omega arith) k).0 h

pub key_below : (key relative : List ℕ) → is_key key ≡ true → None ≡ first_fault (parts_of 47 relative) → length (below key relative) ≤ 1023
    → is_key (below key relative) ≡ true
key_below key relative k h short = key_from (below key relative) (below_elements key relative k (no_fault (parts_of 47 relative) (sym h)))
    short

no_empty_end : (path front : List ℕ) → are_elements path ≡ true → path ≢ front ++ 47 ∷ []
unfolding parts_from
no_empty_end path front h e =
    let all = sym (ap (list_all is_element) (ap (parts_of 47) e ∙ parts_append 47 front []) ∙ list_all-append is_element (parts_of 47 front)
    (parts_of 47 [])) ∙ h in
    absurd (false≢true (and_parts (are_elements front) (are_elements []) all).1)

-- Elements of at most 1,024 bytes are the path of an object's key.
pub key_path_from : (path : List ℕ) → are_elements path ≡ true → length path ≤ 1024 → is_key_path path ≡ true
unfolding parts_from
key_path_from [] h short = absurd (false≢true h)
key_path_from (x ∷ xs) h short =
    all_three _ _ _ (le-leb 1 (length (x ∷ xs)) (omega arith)) (le-leb (length (x ∷ xs)) 1024 short)
    (ap are_elements (sym (no_end (x ∷ xs) (λ front e. no_empty_end (x ∷ xs) front h e))) ∙ h)

begins : (front text rest : List ℕ) → text ≡ front ++ rest → (starts_with nat_eq text front ≡ true) × (drop (length front) text ≡ rest)
begins front text rest e = (
  (starts_is Decides-eqb text front (starts_with nat_eq text front) refl).1 rest e,
  ap (drop (length front)) e ∙
      drop_front front rest,
)

begins_not : (front text : List ℕ) → ((rest : List ℕ) → text ≢ front ++ rest) → starts_with nat_eq text front ≡ false
begins_not front text h = by (starts_with nat_eq text front) refl
  where
    by : (b : Bool) → starts_with nat_eq text front ≡ b → b ≡ false
    by true e = absurd (h (drop (length front) text) ((starts_is Decides-eqb text front (starts_with nat_eq text front) refl).0 e))
    by false e = refl

relative_some : (key text rest : List ℕ) → text ≡ below key [] ++ rest → relative_in key text ≡ Some rest
relative_some key text rest e = let is = begins (below key []) text rest e in rw is.0 (ap Some is.1)

relative_none : (key text : List ℕ) → ((rest : List ℕ) → text ≢ below key [] ++ rest) → relative_in key text ≡ None
relative_none key text h = rw (begins_not (below key []) text h) refl

pub behind_some : (key text more rest : List ℕ) → 0 < length key → text ≡ key ++ more → more ≡ (47 ∷ []) ++ rest
    → relative_in key text ≡ Some rest
behind_some [] text more rest some e m = absurd (omega arith)
behind_some (x ∷ xs) text more rest some e m =
    relative_some (x ∷ xs) text rest (e ∙ ap (λ (l : List ℕ). x ∷ xs ++ l) m ∙ sym (append_assoc (x ∷ xs) (47 ∷ []) rest))

pub behind_none : (key text : List ℕ) → 0 < length key → ((rest : List ℕ) → text ≢ key ++ rest) → relative_in key text ≡ None
behind_none [] text some h = absurd (omega arith)
behind_none (x ∷ xs) text some h = relative_none (x ∷ xs) text (λ rest e. h (47 ∷ rest) (e ∙ append_assoc (x ∷ xs) (47 ∷ []) rest))

pub behind_other : (key text more : List ℕ) → 0 < length key → text ≡ key ++ more → ((rest : List ℕ) → more ≢ (47 ∷ []) ++ rest)
    → relative_in key text ≡ None
behind_other [] text more some e h = absurd (omega arith)
behind_other (x ∷ xs) text more some e h =
    relative_none (x ∷ xs) text (λ rest r. h rest (
    sym (drop_front (x ∷ xs) more) ∙ ap (drop (length (x ∷ xs))) (sym e ∙ r ∙ append_assoc (x ∷ xs) (47 ∷ []) rest) ∙ drop_front (x ∷ xs)
    (47 ∷ rest)))
