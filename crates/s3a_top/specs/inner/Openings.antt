-- Definitions beside those of `Openings` that no public contract cites.
use Rattle.s3a_top.specs.Bytes.{TakesPart}
use Rattle.s3a_top.specs.Openings.{reads_jobs}
use Rattle.s3a_words.specs.declared.command.Command.{Command}
use Rattle.std.specs.Prelude.{List, Option, true, ℕ, ◌≡◌, ◌⊎◌}

-- Holds if nothing was taken from the input, or the command reads its jobs from there and some first bytes were taken.
abbrev pub TakesIfRead : Command → (left rest : Option (List ℕ)) → Type 0
TakesIfRead command left rest = (rest ≡ left) ⊎ ((reads_jobs command ≡ true) × TakesPart left rest)
