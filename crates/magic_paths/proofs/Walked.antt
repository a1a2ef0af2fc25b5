-- A walk over the elements of a text up to a word.
use Rattle.text_and_lists.proofs.Pieces.{parts_append}
use Rattle.text_and_lists.specs.Parts.{parts_of}
use Rattle.magic_paths.specs.Finals.{is_word}
use Rattle.std.proofs.Common.{Bool, List, ap, append_assoc, arith, drop, false, length, length-append, refl, sym, true, ℕ, [], ◌++◌, ◌+◌}
use Rattle.std.proofs.Common.{◌||◌, ◌∙◌, ◌∷◌, ◌≡◌}
use Rattle.std.proofs.Math.Seq.{drop-append_seam, take-append_seam}
use Rattle.std.proofs.lemmas.Bool.{or_parts}
use Rattle.std.proofs.lemmas.List.{append_cancel_right}
use Rattle.std.proofs.lemmas.List.Folds.{list_any-append}
use Rattle.std.specs.List.{after_first, before_first, list_any, position_or_len}

-- A front of the text has been walked. Its elements are known, and none of them is the word.
pub record Walked (word text rest : List ℕ) : Type 0 where
  pub front : List ℕ
  pub seen : List (List ℕ)
  pub whole : text ≡ front ++ rest
  pub parts : (more : List ℕ) → parts_of 47 (front ++ more) ≡ seen ++ parts_of 47 more
  pub none : list_any (is_word word) seen ≡ false

pub begun : (word text : List ℕ) → Walked word text text
begun word text = record { front = []; seen = []; whole = refl; parts = λ more. refl; none = refl }

-- An element before a `/` is one part.
one_element : (rest element after : List ℕ) → parts_of 47 rest ≡ element ∷ parts_of 47 after → rest ≡ element ++ 47 ∷ after
    → parts_of 47 element ≡ element ∷ []
one_element rest element after p e = append_cancel_right (parts_of 47 element) (element ∷ []) (parts_of 47 after)
    (sym (parts_append 47 element after) ∙ ap (parts_of 47) (sym e) ∙ p)

pub stepped : (word text rest element after : List ℕ) → Walked word text rest → parts_of 47 rest ≡ element ∷ parts_of 47 after
    → rest ≡ element ++ 47 ∷ after → is_word word element ≡ false → Walked word text after
stepped word text rest element after w p e n = record {
  front = w.front ++ (element ++ 47 ∷ []);
  seen = w.seen ++ element ∷ [];
  whole = w.whole ∙ ap (λ (l : List ℕ). w.front ++ l) (e ∙ sym (append_assoc element (47 ∷ []) after)) ∙ sym
      (append_assoc w.front (element ++ 47 ∷ []) after);
  parts = λ more.
      ap (parts_of 47) (append_assoc w.front (element ++ 47 ∷ []) more ∙ ap (λ (l : List ℕ). w.front ++ l)
      (append_assoc element (47 ∷ []) more))
      ∙ w.parts (element ++ 47 ∷ more)
      ∙ ap (λ (l : List (List ℕ)). w.seen ++ l) (parts_append 47 element more ∙ ap (λ (l : List (List ℕ)). l ++ parts_of 47 more)
      (one_element rest element after p e))
      ∙ sym (append_assoc w.seen (element ∷ []) (parts_of 47 more));
  none = list_any-append (is_word word) w.seen (element ∷ []) ∙ (rw (w.none, n) refl);
}

-- The elements of the text, once the next one is known.
pub all_elements : (word text rest element : List ℕ) (more : List (List ℕ)) (w : Walked word text rest) → parts_of 47 rest ≡ element ∷ more
    → parts_of 47 text ≡ w.seen ++ element ∷ more
all_elements word text rest element more w p = ap (parts_of 47) w.whole ∙ w.parts rest ∙ ap (λ (l : List (List ℕ)). w.seen ++ l) p

or_true : (a b c : Bool) → b ≡ true → (a || (b || c)) ≡ true
or_true a b c h = grind arith

pub has_word : (word text rest element : List ℕ) (more : List (List ℕ)) → Walked word text rest → parts_of 47 rest ≡ element ∷ more
    → is_word word element ≡ true → list_any (is_word word) (parts_of 47 text) ≡ true
has_word word text rest element more h g e = grind (arith, all_elements, list_any-append, or_true)

place : (word : List ℕ) (seen : List (List ℕ)) (element : List ℕ) (more : List (List ℕ)) → list_any (is_word word) seen ≡ false
    → is_word word element ≡ true → position_or_len (is_word word) (seen ++ element ∷ more) ≡ length seen
place word [] element more n h = rw h refl
place word (x ∷ seen) element more n h =
    let parts = or_parts (is_word word x) (list_any (is_word word) seen) n in
    let old : position_or_len (is_word word) (seen ++ element ∷ more) ≡ length seen = place word seen element more parts.1 h in
    rw parts.0 (omega arith)

before_word : (word : List ℕ) (es seen : List (List ℕ)) (element : List ℕ) (more : List (List ℕ)) → es ≡ seen ++ element ∷ more
    → list_any (is_word word) seen ≡ false → is_word word element ≡ true → before_first (is_word word) es ≡ seen
before_word word es seen element more h g e = grind (arith, place, take-append_seam)

pub front_at : (word text rest element front : List ℕ) (more : List (List ℕ)) → Walked word text rest → parts_of 47 rest ≡ element ∷ more
    → is_word word element ≡ true → text ≡ front ++ rest
    → (next : List ℕ) → parts_of 47 (front ++ next) ≡ before_first (is_word word) (parts_of 47 text) ++ parts_of 47 next
front_at word text rest element front more h g e f next = grind (arith, append_cancel_right, before_word, all_elements)

after_word : (word : List ℕ) (es seen : List (List ℕ)) (element : List ℕ) (more : List (List ℕ)) → es ≡ seen ++ element ∷ more
    → list_any (is_word word) seen ≡ false → is_word word element ≡ true → after_first (is_word word) es ≡ more
after_word word es seen element more e n h =
    let long : position_or_len (is_word word) (seen ++ element ∷ more) + 1 ≡ length (seen ++ element ∷ []) = ap (λ (i : ℕ). i + 1)
    (place word seen element more n h) ∙ sym (length-append seen (element ∷ [])) in
    ap (after_first (is_word word)) e
    ∙ ap (λ (i : ℕ). drop i (seen ++ element ∷ more)) long
    ∙ ap (drop (length (seen ++ element ∷ []))) (sym (append_assoc seen (element ∷ []) more)) ∙ drop-append_seam (seen ++ element ∷ []) more

pub behind_at : (word text rest element : List ℕ) (more : List (List ℕ)) → Walked word text rest → parts_of 47 rest ≡ element ∷ more
    → is_word word element ≡ true → more ≡ after_first (is_word word) (parts_of 47 text)
behind_at word text rest element more w p h = sym (after_word word (parts_of 47 text) w.seen element more
    (all_elements word text rest element more w p) w.none h)
