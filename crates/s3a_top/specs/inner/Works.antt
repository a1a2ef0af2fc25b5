-- The text that is written for an answer.
use Rattle.std.specs.Prelude.{◌≡◌, ℕ, List}
use Rattle.exit_status.specs.Statuses.{written_text}
use Rattle.durable_store.specs.declared.work.CommandAnswer.{CommandAnswer}

-- Holds if this text is written: the answer's own, or else the text of its status.
abbrev pub IsWritten : CommandAnswer → List ℕ → Type 0
IsWritten answer text = written_text answer.due answer.text ≡ text
