-- Definitions beside those of `Audited` that no public contract cites.
use Rattle.audit_top.specs.Answer.{IsAnswer}
use Rattle.audit_top.specs.inner.Answer.{text_of}
use Rattle.audit_top.specs.Progress.{OfLines}
use Rattle.audit_top.specs.declared.answer.Words.{Words}
use Rattle.exit_status.specs.declared.statuses.Status.{Status}
use Rattle.std.specs.Prelude.{List, Option, ℕ}

-- The text is the answer to the lines of the input with this status.
abbrev pub Answers : Option (List ℕ) → Status → Words → Type 0
Answers left due text = OfLines left (IsAnswer due (text_of text))
