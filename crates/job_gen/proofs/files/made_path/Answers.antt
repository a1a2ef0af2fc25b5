use Rattle.job_gen.specs.Made.{part_path, three_digits, two_digits}
use Rattle.std.proofs.Common.{ap, arith, false, inl, inr, refl, ℕ, [], ◌%◌, ◌++◌, ◌+◌, ◌-◌, ◌/◌, ◌<◌, ◌^◌, ◌∙◌, ◌∷◌, ◌≡◌, ◌≤◌}
use Rattle.std.proofs.lemmas.Bool.{cases_lt}
use Rattle.std.proofs.lemmas.Fmt.{decimal_digit, decimal_step}
use Rattle.std.proofs.lemmas.Result.{IfOk-weaker}
use Rattle.std.specs.Fmt.{char_count, decimal, format_spec, padded_integral}
use Rattle.std.specs.Prelude.{string_bytes}
use Rattle.job_gen.proofs.files.made_path.Goals as goal

-- ---- numbers with leading zeros

two_are : (n : ℕ) → 10 ≤ n → n < 100 → decimal n ≡ two_digits n
two_are n low high =
    decimal_step n low (omega arith) ∙ ap (λ l. l ++ (48 + n % 10) ∷ []) (decimal_digit (n / 10) (omega arith))

three_are : (n : ℕ) → 100 ≤ n → n < 1000 → decimal n ≡ three_digits n
three_are n h g = grind (arith, decimal_step, two_are)

two_written : (n : ℕ) → n < 100 → padded_integral (format_spec 32 0 4 2 (2 ^ 64 - 1)) false [] (decimal n) ≡ two_digits n
unfolding padded_integral char_count
two_written n small = elim (cases_lt n 10) [
  | inl one ↦ let high : n / 10 ≡ 0 = omega arith in let low : n % 10 ≡ n = omega arith in rw (decimal_digit n one, high, low) refl
  | inr two ↦ rw (two_are n two small) refl
]

three_written : (n : ℕ) → n < 1000 → padded_integral (format_spec 32 0 4 3 (2 ^ 64 - 1)) false [] (decimal n) ≡ three_digits n
unfolding padded_integral char_count
three_written n small = elim (cases_lt n 10) [
  | inl one ↦
      let first : n / 100 ≡ 0 = omega arith in
      let second : n % 100 / 10 ≡ 0 = omega arith in
      let third : n % 100 % 10 ≡ n = omega arith in
      rw (decimal_digit n one, first, second, third) refl
  | inr two ↦ elim (cases_lt n 100) [
    | inl few ↦
        let first : n / 100 ≡ 0 = omega arith in
        let same : n % 100 ≡ n = omega arith in
        rw (two_are n two few, first, same) refl
    | inr more ↦ rw (three_are n more small) refl
  ]
]

pub returns : goal.returns
returns c =
    let three = three_written c.args.task c.requires.task in
    let two = two_written c.args.file c.requires.file in
    let is : string_bytes c.in_ok-format.field-0 ≡ part_path c.args.task c.args.file = c.in_ok-format.ensures.ok ∙ rw
    (c.laid_out.ensures, c.laid_out-2.ensures, three, two) refl in
    IfOk-weaker c.new.result _ (λ path. path ≡ part_path c.args.task c.args.file) (λ path h. h ∙ is) c.new.ensures
