-- The first line of a text.
use Rattle.text_and_lists.specs.Lines.{unless_empty}
use Rattle.line_input.specs.LinesOf.{behind_line, first_line, lines_from, lines_of}
use Rattle.std.proofs.Common.{Bool, List, ap, append_assoc, arith, cond, false, length, refl, sym, true, ℕ, [], ◌++◌, ◌+◌, ◌<◌, ◌==◌, ◌∙◌}
use Rattle.std.proofs.Common.{◌∷◌, ◌≡◌}
use Rattle.std.proofs.lemmas.List.{append-nil, length-append}

some_line : (line : List ℕ) → 0 < length line → unless_empty line ≡ line ∷ []
some_line [] h = absurd (omega arith)
some_line (x ∷ xs) h = refl

at_byte : (b : Bool) (line xs front behind : List ℕ) (x : ℕ)
    → lines_from (line ++ x ∷ []) xs ≡ ((line ++ x ∷ []) ++ front) ∷ lines_of behind
    → cond b (line ∷ lines_of xs) (lines_from (line ++ x ∷ []) xs) ≡ (line ++ cond b [] (x ∷ front)) ∷ lines_of (cond b xs behind)
at_byte true line xs front behind x h = ap (λ (l : List ℕ). l ∷ lines_of xs) (sym (append-nil line))
at_byte false line xs front behind x h = h ∙ ap (λ (l : List ℕ). l ∷ lines_of behind) (append_assoc line (x ∷ []) front)

first_from : (line text : List ℕ) → 0 < length line + length text
    → lines_from line text ≡ (line ++ first_line text) ∷ lines_of (behind_line text)
unfolding lines_from first_line behind_line
first_from line [] h = some_line line (omega arith) ∙ ap (λ (l : List ℕ). l ∷ []) (sym (append-nil line))
first_from line (x ∷ xs) h = at_byte (x == 10) line xs (first_line xs) (behind_line xs) x
    (first_from (line ++ x ∷ []) xs (omega (arith, length-append line (x ∷ []))))

pub no_lines : lines_of [] ≡ []
unfolding lines_from
no_lines = refl

pub first_of_lines : (text : List ℕ) → 0 < length text → lines_of text ≡ first_line text ∷ lines_of (behind_line text)
first_of_lines text h = first_from [] text (omega arith)
