-- The last element of a text.
use Rattle.text_and_lists.proofs.Pieces.{one_part}
use Rattle.text_and_lists.specs.Parts.{is_other, parts_of}
use Rattle.path_keys.proofs.Last.{parts_round}
use Rattle.std.proofs.Common.{List, ap, arith, drop, length, length-append, sym, true, ℕ, [], ◌++◌, ◌+◌, ◌-◌, ◌∙◌, ◌∷◌, ◌≡◌}
use Rattle.std.proofs.Math.Seq.{drop-append_seam}
use Rattle.std.specs.List.{list_all}

last_of : (es : List (List ℕ)) (e : List ℕ) → drop (length (es ++ e ∷ []) - 1) (es ++ e ∷ []) ≡ e ∷ []
last_of es e =
    let long : length (es ++ e ∷ []) ≡ length es + 1 = length-append es (e ∷ []) in
    let at : length (es ++ e ∷ []) - 1 ≡ length es = omega arith in
    ap (λ (i : ℕ). drop i (es ++ e ∷ [])) at ∙ drop-append_seam es (e ∷ [])

pub last_behind : (text front back : List ℕ) → text ≡ front ++ 47 ∷ back → list_all (is_other 47) back ≡ true
    → parts_of 47 back ≡ drop (length (parts_of 47 text) - 1) (parts_of 47 text)
last_behind text front back e h =
    one_part 47 back h ∙ sym (last_of (parts_of 47 front) back)
    ∙ ap (λ (l : List (List ℕ)). drop (length l - 1) l) (sym (parts_round text front back e h))

pub last_alone : (text : List ℕ) → list_all (is_other 47) text ≡ true
    → parts_of 47 text ≡ drop (length (parts_of 47 text) - 1) (parts_of 47 text)
last_alone text h = one_part 47 text h ∙ ap (λ (l : List (List ℕ)). drop (length l - 1) l) (sym (one_part 47 text h))
