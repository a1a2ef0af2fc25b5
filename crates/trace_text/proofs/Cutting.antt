-- The parts of a file that is longer than one of them.
use Rattle.s3_types.proofs.Blocks.{one_part, parts_are}
use Rattle.s3_types.specs.Blocks.{blocks, greater, parts_of, quotient_up}
use Rattle.s3_types.specs.Tags.{Spelled, plain_tag}
use Rattle.std.proofs.Common.{List, ap, append_assoc, arith, drop, inl, inr, length, length-drop, map, suc, sym, take, ℕ, [], ◌*◌, ◌++◌}
use Rattle.std.proofs.Common.{◌+◌, ◌-◌, ◌/◌, ◌<◌, ◌∙◌, ◌∷◌, ◌≡◌, ◌≤◌}
use Rattle.std.proofs.Math.Nat.{add-div_right, div-lt_iff_lt-mul}
use Rattle.std.proofs.lemmas.Bool.{cases_lt}
use Rattle.std.proofs.lemmas.Bool.Decides.{nat_tests}

-- There is one part more than in the rest after the first part.
one_more : (n size : ℕ) → 1 ≤ size → size < n → quotient_up n size ≡ quotient_up (n - size) size + 1
one_more n size some longer =
    let e : n + (size - 1) ≡ (n - size + (size - 1)) + size = omega arith in
    ap (λ m. m / size) e ∙ add-div_right (n - size + (size - 1)) some

-- The rest after the first part is not empty.
some_behind : (n size : ℕ) → 1 ≤ size → size < n → 1 ≤ quotient_up (n - size) size
some_behind n size some longer =
    elim (cases_lt ((n - size + (size - 1)) / size) 1) [
      | inl none ↦ let few : n - size + (size - 1) < 1 * size = (div-lt_iff_lt-mul some).0 none in absurd (omega arith)
      | inr h ↦ h
    ]

greater_one : (q : ℕ) → 1 ≤ q → greater 1 (q + 1) ≡ suc (greater 1 q)
greater_one q h = grind (arith, nat_tests)

pub more_parts : (size : ℕ) (bytes : List ℕ) → 1 ≤ size → size < length bytes
    → parts_of size bytes ≡ take size bytes ∷ parts_of size (drop size bytes)
more_parts size bytes some longer =
    let n = length bytes in
    let count : greater 1 (quotient_up n size) ≡ suc (greater 1 (quotient_up (n - size) size)) =
    ap (greater 1) (one_more n size some longer) ∙ greater_one (quotient_up (n - size) size) (some_behind n size some longer) in
    let left : n - size ≡ length (drop size bytes) = sym (length-drop size bytes) in
    parts_are size bytes
    ∙ ap (λ m. blocks m size bytes) count
    ∙ ap (λ m. take size bytes ∷ blocks (greater 1 (quotient_up m size)) size (drop size bytes)) left
    ∙ ap (λ (l : List (List ℕ)). take size bytes ∷ l) (sym (parts_are size (drop size bytes)))

-- The tags of the parts so far, and that of the next one.
pub one_tag : (size : ℕ) (rest front back : List ℕ) (tags next all : List Spelled) → 1 ≤ size → size < length rest
    → front ≡ take size rest → back ≡ drop size rest → next ≡ tags ++ plain_tag front ∷ []
    → tags ++ map plain_tag (parts_of size rest) ≡ all → next ++ map plain_tag (parts_of size back) ≡ all
one_tag size rest front back tags next all some longer f b grows so_far =
    (λ i. grows i ++ map plain_tag (parts_of size back))
    ∙ append_assoc tags (plain_tag front ∷ []) (map plain_tag (parts_of size back))
    ∙ (λ i. tags ++ plain_tag (f i) ∷ map plain_tag (parts_of size (b i)))
    ∙ ap (λ (l : List (List ℕ)). tags ++ map plain_tag l) (sym (more_parts size rest some longer))
    ∙ so_far

-- The tags of all parts, if the rest is the last part.
pub last_tag : (size : ℕ) (rest : List ℕ) (tags next all : List Spelled) → 1 ≤ size → length rest ≤ size
    → next ≡ tags ++ plain_tag rest ∷ [] → tags ++ map plain_tag (parts_of size rest) ≡ all → next ≡ all
last_tag size rest tags next all some short grows so_far =
    grows ∙ ap (λ (l : List (List ℕ)). tags ++ map plain_tag l) (sym (one_part size rest some short)) ∙ so_far
