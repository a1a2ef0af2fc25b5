-- Blocks that are cut off what was written.
use Rattle.block_stream.proofs.KeepingLaws.{long_more}
use Rattle.block_stream.specs.Holds.{AreLong}
use Rattle.std.proofs.Common.{List, ap, append_assoc, arith, drop, length, length-append, subst, sym, take, ℕ, [], ◌++◌, ◌+◌, ◌-◌, ◌<◌, ◌∙◌}
use Rattle.std.proofs.Common.{◌∷◌, ◌≡◌}
use Rattle.std.proofs.lemmas.List.{append-nil, take-append-drop}
use Rattle.std.proofs.lemmas.List.Folds.{concat-append}
use Rattle.std.specs.List.{concat}

-- One block more.
pub joined_more : (q : List (List ℕ)) (b rest head tail : List ℕ) → b ≡ rest ++ head
    → concat (q ++ b ∷ []) ++ tail ≡ concat q ++ (rest ++ (head ++ tail))
joined_more q b rest head tail e =
    ap (λ x. x ++ tail) (concat-append q (b ∷ []) ∙ ap (λ x. concat q ++ x) (append-nil b ∙ e))
    ∙ append_assoc (concat q) (rest ++ head) tail
    ∙ ap (λ x. concat q ++ x) (append_assoc rest head tail)

-- The block that is filled up has the full length.
pub filled : (n : ℕ) (b rest head : List ℕ) → b ≡ rest ++ head → length head ≡ n - length rest → length rest < n → length b ≡ n
filled n b rest head e h l = let k : length (rest ++ head) ≡ length rest + length head = length-append rest head in ap length e ∙ omega
    arith

-- One turn of the loop: the rest is filled up to a block, and is then empty.
pub turn : (n at : ℕ) (q q' : List (List ℕ)) (rest left head tail b none whole : List ℕ) → concat q ++ (rest ++ left) ≡ whole → AreLong n q
    → length rest < n → at ≡ n - length rest
    → head ≡ take at left → tail ≡ drop at left → length head ≡ at → b ≡ rest ++ head → q' ≡ q ++ b ∷ [] → none ≡ []
    → (concat q' ++ (none ++ tail) ≡ whole) × AreLong n q' × (length none < n)
turn n at q q' rest left head tail b none whole i long short room first later size block more empty =
    let all : head ++ tail ≡ left = ap (λ x. x ++ tail) first ∙ ap (λ x. take at left ++ x) later ∙ take-append-drop at left in
    let few : length none < n = omega (arith, ap length empty, short) in (
      ap (λ x. concat q' ++ (x ++ tail)) empty ∙ ap (λ x. concat x ++ tail) more ∙ joined_more q b rest head tail block ∙ ap
          (λ x. concat q ++ (rest ++ x)) all ∙ i,
      subst (AreLong n) (sym more) (long_more n q b long (filled n b rest head block (size ∙ room) short)),
      few,
    )
