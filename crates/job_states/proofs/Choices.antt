-- The choice of the next sender in a mix.
use Rattle.job_spec.specs.Turns.{draw, place}
use Rattle.std.proofs.Common.{List, Some, ap, arith, false, get_or, length, slice_get, true, ℕ, ◌%◌, ◌*◌, ◌+◌, ◌/◌, ◌<◌, ◌==◌, ◌^◌, ◌≡◌}
use Rattle.std.proofs.lemmas.Bool.Decides.{nat_tests}
use Rattle.std.proofs.lemmas.Nat.{mod_below}
use Rattle.std.proofs.lemmas.Option.{slice_get-get_or}

pub next_drawn : (seed n drawn : ℕ) → drawn ≡ draw seed n → (1103515245 * drawn + 12345) % 2147483648 ≡ draw seed (n + 1)
next_drawn seed n drawn h = grind arith

pub place_is : (seed n drawn m : ℕ) → drawn ≡ draw seed n → (1103515245 * drawn + 12345) % 2147483648 / 65536 % m ≡ place seed (n + 1) m
place_is seed n drawn m e = ap (λ v. v / 65536 % m) (next_drawn seed n drawn e)

pub next_small : (drawn : ℕ) → (1103515245 * drawn + 12345) % 2147483648 < 2 ^ 31
next_small drawn = mod_below (1103515245 * drawn + 12345) 2147483648 (omega arith)

pub is_zero : (n : ℕ) → true ≡ (n == 0) → n ≡ 0
is_zero n h = grind (arith, nat_tests)

not_zero : (n : ℕ) → false ≡ (n == 0) → 0 < n
not_zero n h = grind (arith, nat_tests)

-- The element at a place modulo the length exists.
pub picked : (busy : List ℕ) (l n x a : ℕ) → l ≡ length busy → false ≡ (l == 0) → n ≡ l → a ≡ get_or busy (x % n) a
    → slice_get busy (x % n) ≡ Some a
picked busy l n x a h g e f = grind (arith, not_zero, mod_below, slice_get-get_or)
