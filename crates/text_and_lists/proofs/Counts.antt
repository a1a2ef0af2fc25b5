-- Lines with too many words, and the words of a text joined again.
use Rattle.text_and_lists.specs.Parts.{parts_from, parts_of}
use Rattle.text_and_lists.specs.Shapes.{at_most_one, one, text as text_of_words, two}
use Rattle.text_and_lists.specs.Words.{joined, words_after}
use Rattle.std.proofs.Common.{Bool, Bor, List, ap, append_assoc, cond, false, refl, sym, true, ℕ, [], ◌++◌, ◌==◌, ◌∙◌, ◌∷◌, ◌≡◌}
use Rattle.std.proofs.lemmas.Bool.{eqb-true}
use Rattle.std.proofs.lemmas.List.{append-nil}
use Rattle.std.specs.Prelude.{None, Option, Some, option_map}

some_part_at : (s : ℕ) (b : Bool) (part : List ℕ) (x : ℕ) (xs : List ℕ)
    → ((w : List ℕ) × (ws : List (List ℕ)) × (parts_from s (part ++ x ∷ []) xs ≡ w ∷ ws)) → (w : List ℕ) × (ws : List (List ℕ))
    × (cond b (part ∷ parts_from s [] xs) (parts_from s (part ++ x ∷ []) xs) ≡ w ∷ ws)
some_part_at s true part x xs later = (part, parts_from s [] xs, refl)
some_part_at s false part x xs later = later

-- A text has at least one part.
pub some_part : (s : ℕ) (part text : List ℕ) → (w : List ℕ) × (ws : List (List ℕ)) × (parts_from s part text ≡ w ∷ ws)
unfolding parts_from
some_part s part [] = (part, [], refl)
some_part s part (x ∷ xs) = some_part_at s (x == s) part x xs (some_part s (part ++ x ∷ []) xs)

pub not_one : (w rest : List ℕ) → None ≡ one (w ∷ parts_of 32 rest)
not_one w rest = let s = some_part 32 [] rest in ap (λ (ws : List (List ℕ)). one (w ∷ ws)) (sym s.2)

pub not_two : (s : ℕ) (w v rest : List ℕ) → None ≡ two (w ∷ v ∷ parts_of s rest)
not_two s w v rest = let p = some_part s [] rest in ap (λ (ws : List (List ℕ)). two (w ∷ v ∷ ws)) (sym p.2)

pub not_at_most_one : (w rest : List ℕ) → None ≡ at_most_one (w ∷ parts_of 32 rest)
not_at_most_one w rest = let s = some_part 32 [] rest in ap (λ (ws : List (List ℕ)). at_most_one (w ∷ ws)) (sym s.2)

joined_more : (s : ℕ) (part rest : List ℕ) → joined (part ∷ parts_of 32 rest) ≡ part ++ 32 ∷ joined (parts_of 32 rest)
joined_more s part rest = let p = some_part 32 [] rest in rw p.2 refl

joined_at : (b : Bool) (x : ℕ) (part xs : List ℕ) → x == 32 ≡ b → joined (parts_of 32 xs) ≡ xs
    → joined (parts_from 32 (part ++ x ∷ []) xs) ≡ (part ++ x ∷ []) ++ xs
    → joined (cond b (part ∷ parts_of 32 xs) (parts_from 32 (part ++ x ∷ []) xs)) ≡ part ++ x ∷ xs
joined_at true x part xs e h k = joined_more 32 part xs ∙ ap (λ (l : List ℕ). part ++ 32 ∷ l) h ∙ ap (λ (y : ℕ). part ++ y ∷ xs)
    (sym (eqb-true x 32 e))
joined_at false x part xs e h k = k ∙ append_assoc part (x ∷ []) xs

joined_from : (part xs : List ℕ) → joined (parts_from 32 part xs) ≡ part ++ xs
unfolding parts_from
joined_from part [] = sym (append-nil part)
joined_from part (x ∷ xs) = joined_at (x == 32) x part xs refl (joined_from [] xs) (joined_from (part ++ x ∷ []) xs)

pub text_again : (rest : List ℕ) → Some rest ≡ text_of_words (parts_of 32 rest)
text_again rest =
    let p = some_part 32 [] rest in
    let e : joined (p.0 ∷ p.1) ≡ rest = ap joined (sym p.2) ∙ joined_from [] rest in
    rw p.2 (ap (λ (l : List ℕ). Some l) (sym e))

pub text_known : (rest : Option (Bor (List ℕ))) → option_map (λ t. t.now) rest ≡ text_of_words (words_after (option_map (λ r. r.now) rest))
text_known None = refl
text_known (Some r) = text_again r.now
