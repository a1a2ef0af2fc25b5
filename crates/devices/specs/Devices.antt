-- What sources and sinks hold and give. A device may show its bytes to contracts, or show nothing.
use Rattle.std.specs.Prelude.{◌≡◌, ℕ, ◌<◌, ◌≤◌, ◌^◌, ◌-◌, ◌⊎◌, List, [], ◌++◌, Option, Some, None, length, take, drop, Bool}
use Rattle.devices.specs.declared.calls.Calls.{Calls}

-- The count of faults rose, or it was 2^64 - 1 already and stays there.
abbrev pub Rose : ℕ → ℕ → Type 0
Rose before after = (before < after) ⊎ ((2 ^ 64 - 1 ≤ before) × (after ≡ before))

-- The read took the first n bytes that were left: they are at the front of the buffer, and `rest` follows them. If n is 0 and the buffer
-- has room, the input is at its end.
pub record TakesFirst (left rest : List ℕ) (n : ℕ) (buffer : List ℕ) : Type 0 where
  pub within : n ≤ length left
  pub front : take n buffer ≡ take n left
  pub others : rest ≡ drop n left
  pub ends : n ≡ 0 → 0 < length buffer → left ≡ []

-- What one read of a source takes, if the source shows the bytes that are left.
abbrev pub Takes : Option (List ℕ) → Option (List ℕ) → ℕ → List ℕ → Type 0
Takes None rest n buffer = rest ≡ None
Takes (Some left) None n buffer = ⊥
Takes (Some left) (Some rest) n buffer = TakesFirst left rest n buffer

-- The piece was appended to the bytes written before, if the sink shows them.
abbrev pub Appends : Option (List ℕ) → Option (List ℕ) → List ℕ → Type 0
Appends None after piece = after ≡ None
Appends (Some before) after piece = after ≡ Some (before ++ piece)

-- A source in memory: the bytes that are left, and the counts of its calls.
pub record Left : Type 0 where
  pub bytes : List ℕ
  pub calls : Calls

-- A sink in memory: the bytes that were written, how many of them have gone out, and the counts of its calls.
pub record Written : Type 0 where
  pub bytes : List ℕ
  pub out : ℕ
  pub calls : Calls

-- A sink over a writer: whether everything written has gone out, and the count of its faults.
pub record Streamed : Type 0 where
  pub is_out : Bool
  pub faults : ℕ
