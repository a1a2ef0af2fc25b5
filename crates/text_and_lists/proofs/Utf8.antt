-- A text in UTF-8 cut at an ASCII byte.
use Rattle.std.proofs.Common.{List, arith, get_or, length, subst, sym, ℕ, [], ◌++◌, ◌+◌, ◌<◌, ◌∷◌}
use Rattle.std.proofs.Math.Seq.{drop-append-add, get_or-append_seam, take-append_seam}
use Rattle.std.proofs.lemmas.Str.{IsCharBoundary-after_ascii, IsCharBoundary-before_ascii, IsUtf8-drop, IsUtf8-take}
use Rattle.std.specs.Str.{IsUtf8}

shorter : (xs : List ℕ) (b : ℕ) (ys : List ℕ) → length xs < length (xs ++ b ∷ ys)
shorter [] b ys = omega arith
shorter (x ∷ xs) b ys = let old = shorter xs b ys in omega (arith, old)

-- The texts on both sides of the byte are UTF-8.
pub utf8_cut : (b : ℕ) (xs ys : List ℕ) → b < 128 → IsUtf8 (xs ++ b ∷ ys) → IsUtf8 xs × IsUtf8 ys
utf8_cut b xs ys small h =
    let fits = shorter xs b ys in
    let at : get_or (xs ++ b ∷ ys) (length xs) 0 < 128 = subst (λ (n : ℕ). n < 128) (sym (get_or-append_seam xs b ys 0)) small in
    let front = IsUtf8-take (xs ++ b ∷ ys) (length xs) h (IsCharBoundary-before_ascii (xs ++ b ∷ ys) (length xs) fits at) in
    let back = IsUtf8-drop (xs ++ b ∷ ys) (length xs + 1) h (IsCharBoundary-after_ascii (xs ++ b ∷ ys) (length xs) h fits at) in
    (subst IsUtf8 (take-append_seam xs (b ∷ ys)) front, subst IsUtf8 (drop-append-add xs (b ∷ ys) 1) back)
