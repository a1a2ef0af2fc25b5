-- The laws of a file's parts: how many there are, how long each is, and that together they are the file.
use Rattle.text_and_lists.proofs.Lists.{sum_first}
use Rattle.text_and_lists.proofs.Options.{none_some}
use Rattle.s3_types.specs.Blocks.{block_of, blocks, greater, parts_of, quotient_up}
use Rattle.std.proofs.Common.{Bool, List, Some, add-one, ap, arith, cond, drop, false, inl, inr, length, length-append, length-drop}
use Rattle.std.proofs.Common.{length-take-le, map, nat_lt, refl, slice_get, subst, suc, sym, take, true, zero, ℕ, [], ◌*◌, ◌++◌, ◌+◌, ◌-◌}
use Rattle.std.proofs.Common.{◌/◌, ◌<◌, ◌∙◌, ◌∷◌, ◌≡◌, ◌≤◌, ◌⊎◌}
use Rattle.std.proofs.Math.Nat.{div-lt_iff_lt-mul, le_trans, mul-le-mul_left, mul-le-mul_right, mul-suc, mul_comm, suc-mul}
use Rattle.std.proofs.lemmas.Bool.Decides.{nat_tests}
use Rattle.std.proofs.lemmas.List.{drop-drop, nil_from_length, take-append-drop, take_all}
use Rattle.std.proofs.lemmas.Option.{same_Some}
use Rattle.std.specs.List.{flat_map, sum}

-- ---- the definitions, unfolded

pub block_is : (len block minimum : ℕ) → block_of len block minimum ≡ greater (greater block minimum) (greater 1 (quotient_up len 10000))
unfolding block_of
block_is len block minimum = refl

pub parts_are : (size : ℕ) (bytes : List ℕ) → parts_of size bytes ≡ blocks (greater 1 (quotient_up (length bytes) size)) size bytes
unfolding parts_of
parts_are size bytes = refl

-- ---- the greater of two

pub greater_left : (a b : ℕ) → a ≤ greater a b
greater_left a b = grind (arith, nat_tests)

pub greater_right : (a b : ℕ) → b ≤ greater a b
greater_right a b = grind (arith, nat_tests)

pub greater_is : (a b : ℕ) → (greater a b ≡ a) ⊎ (greater a b ≡ b)
greater_is a b = by (nat_lt a b)
  where
    by : (t : Bool) → (cond t b a ≡ a) ⊎ (cond t b a ≡ b)
    by true = inr refl
    by false = inl refl

pub greater_most : (a b m : ℕ) → a ≤ m → b ≤ m → greater a b ≤ m
greater_most a b m h g = elim (greater_is a b) [ inl e ↦ subst (λ n. n ≤ m) (sym e) h | inr e ↦ subst (λ n. n ≤ m) (sym e) g ]

-- ---- quotients rounded up

-- This many blocks hold n bytes.
quotient_enough : (n size : ℕ) → 1 ≤ size → n ≤ quotient_up n size * size
quotient_enough n size some = omega arith

-- One block less does not hold n bytes.
quotient_least : (n size q : ℕ) → 1 ≤ size → quotient_up n size ≡ suc q → size * q < n
quotient_least n size q some e =
    let whole : size * ((n + (size - 1)) / size) ≡ size * q + size = ap (λ x. size * x) e ∙ mul-suc size q in
    omega arith

-- With a size at which 10,000 blocks suffice, there are at most 10,000.
quotient_few : (n size : ℕ) → 1 ≤ size → quotient_up n 10000 ≤ size → quotient_up n size ≤ 10000
quotient_few n size some h =
    let few : n ≤ 10000 * size = omega arith in
    let below : (n + (size - 1)) / size < 10001 = (div-lt_iff_lt-mul some).1 (omega arith) in
    omega arith

few_quotient : (n m : ℕ) → n ≤ m → quotient_up n 10000 ≤ m
few_quotient n m h = omega arith

-- ---- the size of a part

module _ (len block minimum : ℕ) where
  by_size : (P : ℕ → Type 0) → P (greater (greater block minimum) (greater 1 (quotient_up len 10000))) → P (block_of len block minimum)
  by_size P = subst P (sym (block_is len block minimum))

  pub some_size : 1 ≤ block_of len block minimum
  some_size = by_size (λ n. 1 ≤ n)
      (let a = greater_left 1 (quotient_up len 10000) in
      let b = greater_right (greater block minimum) (greater 1 (quotient_up len 10000)) in
      omega (arith, a, b))

  pub large_size : minimum ≤ block_of len block minimum
  large_size = by_size (λ n. minimum ≤ n)
      (let a = greater_right block minimum in
      let b = greater_left (greater block minimum) (greater 1 (quotient_up len 10000)) in
      omega (arith, a, b))

  few_size : quotient_up len 10000 ≤ block_of len block minimum
  few_size = by_size (λ n. quotient_up len 10000 ≤ n)
      (let a = greater_right 1 (quotient_up len 10000) in
      let b = greater_right (greater block minimum) (greater 1 (quotient_up len 10000)) in
      omega (arith, a, b))

  -- A part is no larger than the largest of the numbers from which its size comes.
  pub most_size : (m : ℕ) → 1 ≤ m → len ≤ m → block ≤ m → minimum ≤ m → block_of len block minimum ≤ m
  most_size m one l b h = by_size (λ n. n ≤ m) (greater_most _ _ m (greater_most block minimum m b h)
      (greater_most 1 (quotient_up len 10000) m one (few_quotient len m l)))

-- ---- how many parts there are

length-blocks : (n size : ℕ) (bytes : List ℕ) → length (blocks n size bytes) ≡ n
length-blocks zero size bytes = refl
length-blocks (suc n) size bytes = ap (λ m. suc m) (length-blocks n size (drop size bytes))

pub length-parts : (size : ℕ) (bytes : List ℕ) → length (parts_of size bytes) ≡ greater 1 (quotient_up (length bytes) size)
length-parts size bytes = ap length (parts_are size bytes) ∙ length-blocks (greater 1 (quotient_up (length bytes) size)) size bytes

pub some_parts : (size : ℕ) (bytes : List ℕ) → 1 ≤ length (parts_of size bytes)
some_parts size bytes = subst (λ n. 1 ≤ n) (sym (length-parts size bytes)) (greater_left 1 (quotient_up (length bytes) size))

pub few_parts : (block minimum : ℕ) (bytes : List ℕ) → length (parts_of (block_of (length bytes) block minimum) bytes) ≤ 10000
few_parts block minimum bytes =
    let size = block_of (length bytes) block minimum in
    let few : quotient_up (length bytes) size ≤ 10000 = quotient_few (length bytes) size (some_size (length bytes) block minimum)
    (few_size (length bytes) block minimum) in
    subst (λ n. n ≤ 10000) (sym (length-parts size bytes)) (greater_most 1 (quotient_up (length bytes) size) 10000 (omega arith) few)

-- ---- the bytes after the first i blocks

drop_more : (i size : ℕ) (bytes : List ℕ) → drop (i * size) (drop size bytes) ≡ drop (suc i * size) bytes
drop_more i size bytes = drop-drop (i * size) size bytes ∙ ap (λ n. drop n bytes)
    (let e : size + i * size ≡ suc i * size = omega (arith, suc-mul i size) in e)

drop-blocks : (n size : ℕ) (bytes : List ℕ) (i : ℕ) → i < n
    → drop i (blocks n size bytes) ≡ take size (drop (i * size) bytes) ∷ drop (i + 1) (blocks n size bytes)
drop-blocks zero size bytes i h = absurd (omega arith)
drop-blocks (suc n) size bytes zero h = ap (λ m. take size (drop m bytes) ∷ blocks n size (drop size bytes))
    (let z : 0 ≡ 0 * size = omega arith in z)
drop-blocks (suc n) size bytes (suc i) h =
    let less : i < n = omega arith in
    let old = drop-blocks n size (drop size bytes) i less in
    let front : take size (drop (i * size) (drop size bytes)) ≡ take size (drop (suc i * size) bytes) = ap (take size)
    (drop_more i size bytes) in
    let back : drop (i + 1) (blocks n size (drop size bytes)) ≡ drop (suc i + 1) (blocks (suc n) size bytes) = rw (add-one, add-one) refl in
    old ∙ (ap (λ (x : List ℕ). x ∷ drop (i + 1) (blocks n size (drop size bytes))) front ∙ ap
    (λ (l : List (List ℕ)). take size (drop (suc i * size) bytes) ∷ l) back)

pub drop-parts : (size : ℕ) (bytes : List ℕ) (i : ℕ) → i < length (parts_of size bytes)
    → drop i (parts_of size bytes) ≡ take size (drop (i * size) bytes) ∷ drop (i + 1) (parts_of size bytes)
drop-parts size bytes i h =
    let e = parts_are size bytes in
    ap (drop i) e ∙ (drop-blocks (greater 1 (quotient_up (length bytes) size)) size bytes i (subst (λ n. i < n) (length-parts size bytes) h)
    ∙ ap (λ (l : List (List ℕ)). take size (drop (i * size) bytes) ∷ drop (i + 1) l) (sym e))

-- ---- together they are the file

-- The parts hold the whole file.
parts_enough : (size : ℕ) (bytes : List ℕ) → 1 ≤ size → length bytes ≤ greater 1 (quotient_up (length bytes) size) * size
parts_enough size bytes some = le_trans (quotient_enough (length bytes) size some)
    (mul-le-mul_right size (greater_right 1 (quotient_up (length bytes) size)))

joined_blocks : (n size : ℕ) (bytes : List ℕ) → length bytes ≤ n * size → flat_map (λ b. b) (blocks n size bytes) ≡ bytes
joined_blocks zero size bytes h = sym (nil_from_length bytes (omega arith))
joined_blocks (suc n) size bytes h =
    let more : suc n * size ≡ n * size + size = suc-mul n size in
    let long : length (drop size bytes) ≡ length bytes - size = length-drop size bytes in
    ap (λ l. take size bytes ++ l) (joined_blocks n size (drop size bytes) (omega arith)) ∙ take-append-drop size bytes

pub parts_joined : (size : ℕ) (bytes : List ℕ) → 1 ≤ size → flat_map (λ b. b) (parts_of size bytes) ≡ bytes
parts_joined size bytes some = ap (λ (l : List (List ℕ)). flat_map (λ b. b) l) (parts_are size bytes) ∙ joined_blocks
    (greater 1 (quotient_up (length bytes) size)) size bytes (parts_enough size bytes some)

-- ---- how long the parts are

-- Each block that does not pass the end is whole.
whole_block : (n size : ℕ) (bytes b : List ℕ) (i : ℕ) → slice_get (blocks n size bytes) i ≡ Some b → suc i * size ≤ length bytes
    → length b ≡ size
whole_block zero size bytes b i e h = absurd (none_some e)
whole_block (suc n) size bytes b zero e h =
    let one : suc zero * size ≡ size = suc-mul zero size ∙ omega arith in
    let fits : length (take size bytes) ≡ size = length-take-le size bytes (omega arith) in
    ap length (sym (same_Some _ _ e)) ∙ fits
whole_block (suc n) size bytes b (suc i) e h =
    let more : suc (suc i) * size ≡ suc i * size + size = suc-mul (suc i) size in
    let long : length (drop size bytes) ≡ length bytes - size = length-drop size bytes in
    whole_block n size (drop size bytes) b i e (omega arith)

pub whole_part : (size : ℕ) (bytes b : List ℕ) (i : ℕ) → 1 ≤ size → slice_get (parts_of size bytes) i ≡ Some b
    → suc i < length (parts_of size bytes) → length b ≡ size
whole_part size bytes b i some e h = elim (greater_is 1 (quotient_up (length bytes) size)) [
  | inl one ↦ let n : length (parts_of size bytes) ≡ 1 = length-parts size bytes ∙ one in absurd (omega arith)
  | inr is ↦
      let n : length (parts_of size bytes) ≡ quotient_up (length bytes) size = length-parts size bytes ∙ is in
      let q : quotient_up (length bytes) size ≡ suc (quotient_up (length bytes) size - 1) = omega arith in
      let least : size * (quotient_up (length bytes) size - 1) < length bytes = quotient_least (length bytes) size
      (quotient_up (length bytes) size - 1) some q in
      let up : size * suc i ≤ size * (quotient_up (length bytes) size - 1) = mul-le-mul_left size (omega arith) in
      let turn : suc i * size ≡ size * suc i = mul_comm (suc i) size in
      whole_block (greater 1 (quotient_up (length bytes) size)) size bytes b i (ap (λ l. slice_get l i) (sym (parts_are size bytes)) ∙ e)
      (omega arith)
]

-- ---- the sum of their sizes

sum_blocks : (n size : ℕ) (bytes : List ℕ) → length bytes ≤ n * size → sum (map length (blocks n size bytes)) ≡ length bytes
sum_blocks zero size bytes h = sym (ap length (nil_from_length bytes (omega arith)))
sum_blocks (suc n) size bytes h =
    let more : suc n * size ≡ n * size + size = suc-mul n size in
    let long : length (drop size bytes) ≡ length bytes - size = length-drop size bytes in
    sum_first (length (take size bytes)) (map length (blocks n size (drop size bytes)))
    ∙ (ap (λ m. length (take size bytes) + m) (sum_blocks n size (drop size bytes) (omega arith))
    ∙ (sym (length-append (take size bytes) (drop size bytes)) ∙ ap length (take-append-drop size bytes)))

pub sum_parts : (size : ℕ) (bytes : List ℕ) → 1 ≤ size → sum (map length (parts_of size bytes)) ≡ length bytes
sum_parts size bytes some = ap (λ (l : List (List ℕ)). sum (map length l)) (parts_are size bytes) ∙ sum_blocks
    (greater 1 (quotient_up (length bytes) size)) size bytes (parts_enough size bytes some)

-- ---- a file that fits into one part has one part

pub one_part : (size : ℕ) (bytes : List ℕ) → 1 ≤ size → length bytes ≤ size → parts_of size bytes ≡ bytes ∷ []
one_part size bytes some h =
    let few : quotient_up (length bytes) size ≤ 1 = one_block (length bytes) size some h in
    let count : greater 1 (quotient_up (length bytes) size) ≡ 1 = one_greater (quotient_up (length bytes) size) few in
    parts_are size bytes ∙ (ap (λ n. blocks n size bytes) count ∙ ap (λ (l : List ℕ). l ∷ []) (take_all size bytes h))
  where
    one_greater : (q : ℕ) → q ≤ 1 → greater 1 q ≡ 1
    one_greater q h = grind (arith, nat_tests)

    one_block : (n size : ℕ) → 1 ≤ size → n ≤ size → quotient_up n size ≤ 1
    one_block n size some h =
        let below : (n + (size - 1)) / size < 2 = (div-lt_iff_lt-mul some).1 (omega arith) in
        omega arith
