-- Definitions beside those of `Held` that no public contract cites.
use Rattle.job_protocol.specs.Rechecks.{Check, CheckOver, probing}
use Rattle.std.specs.Prelude.{List, None, Option, Some, ℕ}
use Rattle.job_model.specs.declared.ends.CheckEnd.TheVariants as ends

-- The check that found a key below this partition, or has these partitions left to check.
abbrev pub after_key : Option (List ℕ) → List (List ℕ) → Check
after_key (Some d) ds = CheckOver (ends.Conflict d)
after_key None ds = probing ds
