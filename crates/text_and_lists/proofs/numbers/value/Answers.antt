use Rattle.text_and_lists.proofs.Digits.{all_digits, next_digit, one_more_digit, power_fits, power_more}
use Rattle.text_and_lists.specs.Numbers.{digits_from}
use Rattle.std.proofs.Common.{ap, arith, drop, get_or, sym, ℕ, ◌*◌, ◌+◌, ◌-◌, ◌<◌, ◌∙◌, ◌≡◌, ◌≤◌}
use Rattle.text_and_lists.proofs.numbers.value.Goals as goal

pub overflow_mul-n : goal.overflow_mul-n
overflow_mul-n c =
    let i : c.loop-b.b-index < 18 = omega arith in
    omega (arith, power_fits c.loop-b.n c.loop-b.b-index 0 c.loop-b.invariant.small i (omega arith))

pub overflow_add-n : goal.overflow_add-n
overflow_add-n c =
    let i : c.loop-b.b-index < 18 = omega arith in
    let d = next_digit c.args.text.now c.loop-b.b-index c.loop-b-test.true c.loop-b.invariant.digits in
    let small : c.from.result ≤ 9 = omega (arith, d.0, d.1, c.from.ensures) in
    omega (arith, power_fits c.loop-b.n c.loop-b.b-index c.from.result c.loop-b.invariant.small i small)

pub loop-b-preserved : goal.loop-b-preserved
loop-b-preserved c =
    let d = next_digit c.args.text.now c.loop-b.b-index c.loop-b-test.true c.loop-b.invariant.digits in
    let e : c.from.result ≡ get_or c.args.text.now c.loop-b.b-index 0 - 48 = c.from.ensures in
    let small : c.from.result ≤ 9 = omega (arith, d.0, d.1, e) in
    record {
      so_far = ap (λ (x : ℕ). digits_from (c.loop-b.n * 10 + x) (drop (c.loop-b.b-index + 1) c.args.text.now)) e ∙ sym
          (one_more_digit c.loop-b.n c.args.text.now c.loop-b.b-index c.loop-b-test.true) ∙ c.loop-b.invariant.so_far;
      digits = d.2;
      small = power_more c.loop-b.n c.loop-b.b-index c.from.result c.loop-b.invariant.small small;
    }

pub returns : goal.returns
returns c = all_digits c.loop-b.n c.args.text.now c.loop-b.b-index c.loop-b-test.false ∙ c.loop-b.invariant.so_far
