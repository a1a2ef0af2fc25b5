-- The numbers that words write.
use Rattle.std.specs.List.{list_all}
use Rattle.std.specs.Prelude.{Bool, List, None, Option, Some, if◌then◌else◌, length, nat_le, option_and_then, ℕ, [], ◌&&◌, ◌*◌, ◌+◌, ◌-◌}
use Rattle.std.specs.Prelude.{◌∷◌}

-- True if the byte is a decimal digit.
abbrev pub is_digit : ℕ → Bool
is_digit b = nat_le 48 b && nat_le b 57

-- The value of the digits n followed by these digits.
unfoldable pub digits_from : ℕ → List ℕ → ℕ
digits_from n [] = n
digits_from n (d ∷ ds) = digits_from (n * 10 + (d - 48)) ds

-- The number that 1 to 18 digits write.
abbrev pub number_of : List ℕ → Option ℕ
number_of text = if nat_le 1 (length text) && nat_le (length text) 18 && list_all is_digit text then Some (digits_from 0 text) else None

-- The number n, if it is from low to high.
abbrev pub within : ℕ → ℕ → ℕ → Option ℕ
within low high n = if nat_le low n && nat_le n high then Some n else None

-- The number that the digits write, if it is from low to high.
abbrev pub number_in : ℕ → ℕ → List ℕ → Option ℕ
number_in low high text = option_and_then (within low high) (number_of text)
