-- What is read of an input whose lines are given one by one.
use Rattle.line_input.specs.LinesOf.{behind_line, first_line}
use Rattle.std.specs.Prelude.{Bool, List, None, Option, Some, false, length, take, true, ℕ, [], ◌++◌, ◌<◌, ◌≡◌, ◌⊎◌}

-- The line that was given last, the bytes that were read and not given yet, and the size of the buffer in bytes.
pub record ReadAhead : Type 0 where
  pub line : List ℕ
  pub held : List ℕ
  pub kept : ℕ

-- The bytes that are not given yet: those that are held and those left of the source, if it shows them.
abbrev pub unread : List ℕ → Option (List ℕ) → Option (List ℕ)
unread held None = None
unread held (Some left) = Some (held ++ left)

-- The line is the first of the text, and the bytes after it are unread.
pub record IsWhole (text line : List ℕ) (after : Option (List ℕ)) : Type 0 where
  pub first : line ≡ first_line text
  pub behind : after ≡ Some (behind_line text)

-- The line is a front of the text's first line, and has more than `most` bytes.
pub record IsCut (most : ℕ) (text line : List ℕ) : Type 0 where
  pub long : most < length line
  pub front : line ≡ take (length line) (first_line text)

-- What a call gives of the unread bytes: a line, or that there is none.
abbrev pub Gives : Bool → ℕ → Option (List ℕ) → List ℕ → Option (List ℕ) → Type 0
Gives more most None line after = after ≡ None
Gives true most (Some text) line after = (0 < length text) × (IsWhole text line after ⊎ IsCut most text line)
Gives false most (Some text) line after = (text ≡ []) × (after ≡ Some [])
