-- Numbers among the program's words.
use Rattle.s3_types.specs.declared.limits.TheConstants.{MOST_MINIMUM}
use Rattle.std.specs.Prelude.{Bool, List, None, Option, Some, if◌then◌else◌, length, nat_le, not, option_and_then, slice_index, ℕ, ◌&&◌}
use Rattle.std.specs.Prelude.{◌==◌, ◌||◌}
use Rattle.std.specs.Str.{all_ascii_digits}
use Rattle.std.specs.Str.Parse.{digits_value}

-- True if the word is 1 to 18 decimal digits. The first digit is 0 only if it is the only one.
abbrev pub is_number : List ℕ → Bool
is_number word = nat_le 1 (length word) && nat_le (length word) 18 && all_ascii_digits word &&
    (length word == 1 || not (slice_index word 0 == 48))

-- The number that a word writes, if it writes one.
unfoldable pub number_in : List ℕ → Option ℕ
number_in word = if is_number word then Some (digits_value 10 word) else None

-- True for 1 to 5,242,880, the bytes that the least size of a part may have.
abbrev pub is_minimum : ℕ → Bool
is_minimum n = nat_le 1 n && nat_le n MOST_MINIMUM

-- The least size of a part that a word writes, if it writes one.
unfoldable pub minimum_in : List ℕ → Option ℕ
minimum_in word = option_and_then (λ n. if is_minimum n then Some n else None) (number_in word)

-- The number that a word writes, if it is from `least` to `most`.
unfoldable pub number_within : ℕ → ℕ → List ℕ → Option ℕ
number_within least most word = option_and_then (λ n. if nat_le least n && nat_le n most then Some n else None) (number_in word)
