-- The text of a line with its members.
use Rattle.std.specs.Prelude.{ℕ, List, [], ◌∷◌, ◌++◌}
use Rattle.serde_json.specs.Data.{object}
use Rattle.serde_json.specs.Written.{compact_text}
use Rattle.trace_lines.specs.Members.{members_of}
use Rattle.trace_lines.specs.declared.line.Line.{Line}

-- The text of a line.
abbrev pub text_of : Line → List ℕ
text_of line = compact_text (object (members_of line)) ++ 10 ∷ []
