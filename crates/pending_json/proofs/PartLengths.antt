-- Each part of a file is at most as long as the file.
use Rattle.text_and_lists.proofs.Lists.{sum_first}
use Rattle.pending_json.specs.Pending.{fit}
use Rattle.std.proofs.Common.{List, arith, length, true, ℕ, [], ◌<◌, ◌==◌, ◌^◌, ◌∷◌, ◌≡◌, ◌≤◌}
use Rattle.std.proofs.lemmas.Bool.{and_parts, eqb-true}
use Rattle.std.specs.List.{AllByRecursion, sum}

-- No number is above a bound on the sum of all.
below_all : (ns : List ℕ) (most : ℕ) → sum ns ≤ most → most < 2 ^ 64 → AllByRecursion (λ n. n < 2 ^ 64) ns
below_all [] most h k = tt
below_all (n ∷ ns) most h k = let s = sum_first n ns in (omega (arith, s, h, k), below_all ns most (omega (arith, s, h)) k)

-- The length of each part of a file is below 2^64.
pub each_below : (ns : List ℕ) (count total : ℕ) → fit ns count total ≡ true → total < 2 ^ 64 → AllByRecursion (λ n. n < 2 ^ 64) ns
each_below ns count total h k =
    let e = eqb-true (sum ns) total (and_parts (length ns == count) _ h).1 in
    below_all ns total (omega (arith, e)) k
