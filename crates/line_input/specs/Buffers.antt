-- A buffer of bytes that were read, and the end of a line in it.
use Rattle.line_input.specs.declared.buffer.Buffer.{Buffer}
use Rattle.std.specs.Prelude.{List, slice_range, ℕ}

-- The bytes that were read and not given yet.
abbrev pub held_in : Buffer → List ℕ
held_in b = slice_range b.bytes.items b.given b.filled
