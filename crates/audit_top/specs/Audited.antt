-- The text that an audit wrote.
use Rattle.audit_top.specs.Answer.{IsAnswer}
use Rattle.audit_top.specs.Progress.{OfLines}
use Rattle.devices.specs.Devices.{Appends}
use Rattle.exit_status.specs.declared.statuses.Status.{Status}
use Rattle.exit_status.specs.declared.statuses.Status.TheVariants.{WriteFault}
use Rattle.std.specs.Prelude.{List, Option, take, ℕ, ◌≡◌, ◌≢◌}

-- The output has grown by some first bytes of the text.
abbrev pub WritesSome : Option (List ℕ) → Option (List ℕ) → List ℕ → Type 0
WritesSome before after text = (n : ℕ) × Appends before after (take n text)

-- The text went out whole, or its first bytes did and the output failed.
pub record Writes (status : Status) (before after : Option (List ℕ)) (text : List ℕ) : Type 0 where
  pub whole : status ≢ WriteFault → Appends before after text
  pub partly : status ≡ WriteFault → WritesSome before after text

-- A text was written that is the answer to the lines of the input with this status.
pub record Audited (left : Option (List ℕ)) (due : Status) (writes : List ℕ → Type 0) : Type 0 where
  pub text : List ℕ
  pub answer : OfLines left (IsAnswer due text)
  pub written : writes text
