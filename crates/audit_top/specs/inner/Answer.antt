-- Definitions beside those of `Answer` that no public contract cites.
use Rattle.audit_top.specs.declared.answer.Words.{Words}
use Rattle.std.specs.Prelude.{List, string_bytes, ℕ}
use Rattle.audit_top.specs.declared.answer.Words.TheVariants as words

-- The bytes of a text.
abbrev pub text_of : Words → List ℕ
text_of (words.Made text) = string_bytes text
text_of (words.Fixed text) = text.now
