-- Definitions beside those of `Buffers` that no public contract cites.
use Rattle.line_input.specs.inner.Reading.{IsOver}
use Rattle.line_input.specs.declared.buffer.Buffer.{Buffer}
use Rattle.std.specs.List.{list_all}
use Rattle.std.specs.Prelude.{List, None, Option, Some, drop, length, slice_index, suc, take, true, ℕ, [], ◌<◌, ◌≡◌, ◌≤◌, ◌⊎◌}
use Rattle.text_and_lists.specs.Parts.{is_other}

-- The given bytes come before those that are held, and both lie within the buffer.
pub record IsSound (b : Buffer) : Type 0 where
  pub given : b.given ≤ b.filled
  pub filled : b.filled ≤ length b.bytes.items

-- The first line feed of the bytes is at n.
pub record IsLineEnd (bytes : List ℕ) (n : ℕ) : Type 0 where
  pub within : n < length bytes
  pub before : list_all (is_other 10) (take n bytes) ≡ true
  pub at : slice_index bytes n ≡ 10

-- The bytes have no line feed, and there are more than `most` of them, or the source has no more.
pub record IsOpen (most : ℕ) (bytes : List ℕ) (left : Option (List ℕ)) : Type 0 where
  pub free : list_all (is_other 10) bytes ≡ true
  pub ends : (most < length bytes) ⊎ IsOver left

-- The first line among the held bytes ends at n; or, for None, it does not end there.
abbrev pub IsEnd : ℕ → List ℕ → Option (List ℕ) → Option ℕ → Type 0
IsEnd most held left None = IsOpen most held left
IsEnd most held left (Some n) = IsLineEnd held n

-- The line that ends there, or all bytes.
abbrev pub line_at : List ℕ → Option ℕ → List ℕ
line_at held None = held
line_at held (Some n) = take n held

-- The bytes after that line and its line feed.
abbrev pub rest_at : List ℕ → Option ℕ → List ℕ
rest_at held None = []
rest_at held (Some n) = drop (suc n) held
