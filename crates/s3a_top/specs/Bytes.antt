-- The bytes that were read from the input and written to the output.
use Rattle.s3_types.specs.declared.limits.TheConstants.{MOST_SCRIPT_BYTES}
use Rattle.devices.specs.Devices.{Appends}
use Rattle.std.specs.Prelude.{List, None, Option, Some, drop, take, ℕ, ◌+◌, ◌≡◌, ◌≤◌}

-- Holds if all bytes left in the input were taken, but at most `MOST_SCRIPT_BYTES + 1`. For an input whose bytes are not known it only says
-- that they stay unknown.
abbrev pub IsTaken : (left rest : Option (List ℕ)) → Type 0
IsTaken None rest = rest ≡ None
IsTaken (Some left) rest = rest ≡ Some (drop (MOST_SCRIPT_BYTES + 1) left)

-- Holds if these are the bytes that were left in the input, at most `MOST_SCRIPT_BYTES + 1`, and they were taken. Of an unknown input it
-- says nothing about the bytes.
abbrev pub IsRead : Option (List ℕ) → Option (List ℕ) → List ℕ → Type 0
IsRead None after all = IsTaken None after
IsRead (Some left) after all = (all ≡ take (MOST_SCRIPT_BYTES + 1) left) × IsTaken (Some left) after

-- Holds if some first bytes were taken from the input, at most `MOST_SCRIPT_BYTES + 1`.
abbrev pub TakesPart : (left rest : Option (List ℕ)) → Type 0
TakesPart None rest = rest ≡ None
TakesPart (Some left) rest = (n : ℕ) × ((n ≤ MOST_SCRIPT_BYTES + 1) × (rest ≡ Some (drop n left)))

-- Holds if some first bytes of the text were appended to what was written before.
abbrev pub WritesSome : Option (List ℕ) → Option (List ℕ) → List ℕ → Type 0
WritesSome before after text = (n : ℕ) × Appends before after (take n text)
