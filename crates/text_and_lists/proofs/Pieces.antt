-- The parts of a text: joined again; of two texts with a separator between them; and of a text without one.
use Rattle.text_and_lists.proofs.Split.{lone_from}
use Rattle.text_and_lists.specs.Parts.{is_other, parts_from, parts_of}
use Rattle.std.proofs.Common.{Bool, List, ap, append_assoc, arith, false, get_or, length, not, refl, suc, sym, true, ℕ, [], ◌++◌, ◌+◌, ◌<◌}
use Rattle.std.proofs.Common.{◌==◌, ◌∙◌, ◌∷◌, ◌≡◌, ◌≢◌}
use Rattle.std.proofs.lemmas.Bool.{eq-eqb, eqb-true}
use Rattle.std.proofs.lemmas.List.{append-nil}
use Rattle.std.specs.List.{join_with_byte, list_all}

join_more : (s : ℕ) (front part text : List ℕ) → join_with_byte s (front ∷ parts_from s part text) ≡ front ++ s ∷ join_with_byte s
    (parts_from s part text)
unfolding parts_from
join_more s front part [] = refl
join_more s front part (x ∷ xs) = by (x == s) refl (join_more s front (part ++ x ∷ []) xs)
  where
    by : (b : Bool) → (x == s) ≡ b → join_with_byte s (front ∷ parts_from s (part ++ x ∷ []) xs) ≡ front ++ s ∷ join_with_byte s
        (parts_from s (part ++ x ∷ []) xs) → join_with_byte s (front ∷ parts_from s part (x ∷ xs)) ≡ front ++ s ∷ join_with_byte s
        (parts_from s part (x ∷ xs))
    by b h g = grind arith

join_from : (s : ℕ) (part text : List ℕ) → join_with_byte s (parts_from s part text) ≡ part ++ text
unfolding parts_from
join_from s part [] = sym (append-nil part)
join_from s part (x ∷ xs) = by (x == s) refl (join_from s [] xs) (join_from s (part ++ x ∷ []) xs)
  where
    by : (b : Bool) → (x == s) ≡ b → join_with_byte s (parts_from s [] xs) ≡ xs
        → join_with_byte s (parts_from s (part ++ x ∷ []) xs) ≡ (part ++ x ∷ []) ++ xs
        → join_with_byte s (parts_from s part (x ∷ xs)) ≡ part ++ x ∷ xs
    by true e new old = rw e (join_more s part [] xs ∙ ap (λ (l : List ℕ). part ++ s ∷ l) new ∙ ap (λ (y : ℕ). part ++ y ∷ xs)
        (sym (eqb-true x s e)))
    by false e new old = rw e (old ∙ append_assoc part (x ∷ []) xs)

-- The parts of a text, joined, are the text.
pub join_parts : (s : ℕ) (text : List ℕ) → join_with_byte s (parts_of s text) ≡ text
join_parts s text = join_from s [] text

parts_from-append : (s : ℕ) (part front back : List ℕ) → parts_from s part (front ++ s ∷ back) ≡ parts_from s part front ++ parts_of s back
unfolding parts_from
parts_from-append s part [] back = rw (eq-eqb s s refl) refl
parts_from-append s part (x ∷ xs) back = by (x == s) refl (parts_from-append s [] xs back) (parts_from-append s (part ++ x ∷ []) xs back)
  where
    by : (b : Bool) → (x == s) ≡ b → parts_from s [] (xs ++ s ∷ back) ≡ parts_from s [] xs ++ parts_of s back
        → parts_from s (part ++ x ∷ []) (xs ++ s ∷ back) ≡ parts_from s (part ++ x ∷ []) xs ++ parts_of s back
        → parts_from s part (x ∷ xs ++ s ∷ back) ≡ parts_from s part (x ∷ xs) ++ parts_of s back
    by b h g e = grind arith

-- The parts of two texts with a separator between them are the parts of both.
pub parts_append : (s : ℕ) (front back : List ℕ) → parts_of s (front ++ s ∷ back) ≡ parts_of s front ++ parts_of s back
parts_append s front back = parts_from-append s [] front back

other_byte : (s x : ℕ) → x ≢ s → is_other s x ≡ true
other_byte s x n = (elim (x == s) as (λ b. (x == s) ≡ b → is_other s x ≡ true)
    [ true ↦ λ e. absurd (n (eqb-true x s e)) | false ↦ λ e. ap not e ]) refl

-- A text in which no byte is the separator.
pub others_from_bytes : (s : ℕ) (text : List ℕ) → ((i : ℕ) → i < length text → get_or text i 0 ≢ s) → list_all (is_other s) text ≡ true
others_from_bytes s [] h = refl
others_from_bytes s (x ∷ xs) h = rw (other_byte s x (h 0 (omega arith))) (others_from_bytes s xs (λ i lt. h (suc i) (omega arith)))

-- A text without the separator is one part.
pub one_part : (s : ℕ) (text : List ℕ) → list_all (is_other s) text ≡ true → parts_of s text ≡ text ∷ []
one_part s text h = lone_from s [] text h
