-- Definitions beside those of `Numbers` that no public contract cites.
use Rattle.s3a_words.specs.Numbers.{number_in}
use Rattle.std.specs.Fmt.{decimal}
use Rattle.std.specs.Prelude.{List, Some, ℕ, ◌<◌, ◌^◌, ◌↔◌, ◌≡◌}

-- Holds if the word writes a number exactly when it is the decimal text of one below 10^18.
abbrev pub WritesDecimals : List ℕ → Type 0
WritesDecimals word = (n : ℕ) → (number_in word ≡ Some n) ↔ ((n < 10 ^ 18) × (decimal n ≡ word))
