-- Comparisons of numbers as tests.
use Rattle.std.proofs.Common.{Bool, arith, cond, false, nat_eq, nat_le, nat_lt, suc, true, zero, ℕ, ◌*◌, ◌+◌, ◌<◌, ◌==◌, ◌||◌, ◌≡◌, ◌≤◌}
use Rattle.std.proofs.lemmas.Bool.Decides.{nat_tests}
use Rattle.std.specs.Ordering.{nat_cmp}
use Rattle.std.specs.declared.cmp.Ordering.TheVariants.{Greater, Less}

pub not_below : (j k : ℕ) → k ≤ j → nat_lt j k ≡ false
not_below j k h = grind (arith, nat_tests)

pub greater_is : (a b : ℕ) → nat_cmp a b ≡ Greater → b < a
greater_is a b h = grind (arith, nat_tests, h)

pub next_most : (t : Bool) (n : ℕ) → n ≤ cond t (n + 1) n
next_most true n = omega arith
next_most false n = omega arith

pub suc_same : (i j : ℕ) → nat_eq (suc i) (suc j) ≡ nat_eq i j
suc_same i j = grind (arith, nat_tests)

pub zero_not : (j : ℕ) → nat_eq zero (suc j) ≡ false
zero_not j = grind (arith, nat_tests)

pub suc_not : (i : ℕ) → nat_eq (suc i) zero ≡ false
suc_not i = grind (arith, nat_tests)

pub above_zero : {n : ℕ} → 1 ≤ n → 0 < n
above_zero h = omega arith

pub dot_not : (b : ℕ) → (nat_eq b 95 || nat_eq b 46) ≡ false → (b == 46) ≡ false
dot_not b h = grind (arith, nat_tests)

pub no_less : (n k : ℕ) → k ≤ n → false ≡ nat_lt n k
no_less n k h = grind (arith, nat_tests)

pub more_times : (a b n : ℕ) → a < b → a * (n + 1) + (n + 1) ≤ b * (n + 1)
more_times a b n h = grind arith

pub no_more_times : (a b n : ℕ) → a ≤ b → a * (n + 1) ≤ b * (n + 1)
no_more_times a b n h = grind arith

pub below_is : (a b : ℕ) → nat_lt a b ≡ true → a < b
below_is a b h = grind (arith, nat_tests)

pub below_so : (a b : ℕ) → a < b → nat_lt a b ≡ true
below_so a b h = grind (arith, nat_tests)

pub below_not : (a b : ℕ) → nat_lt a b ≡ false → b ≤ a
below_not a b h = grind (arith, nat_tests)

pub at_most_is : (a b : ℕ) → nat_le a b ≡ true → a ≤ b
at_most_is a b h = grind (arith, nat_tests)

pub at_most_so : (a b : ℕ) → a ≤ b → nat_le a b ≡ true
at_most_so a b h = grind (arith, nat_tests)

pub at_most_not : (a b : ℕ) → nat_le a b ≡ false → b < a
at_most_not a b h = grind (arith, nat_tests)

pub above_so : (a b : ℕ) → b < a → nat_le a b ≡ false
above_so a b h = grind (arith, nat_tests)

pub less_is : (a b : ℕ) → nat_cmp a b ≡ Less → a < b
less_is a b h = grind (arith, nat_tests, h)

pub positive : (n : ℕ) → (n == 0) ≡ false → 0 < n
positive n h = grind (arith, nat_tests)
