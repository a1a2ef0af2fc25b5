-- Definitions beside those of `Undoing` that no public contract cites.
use Rattle.job_model.specs.declared.ends.TaskEnd.{TaskEnd}
use Rattle.std.specs.Prelude.{Bool, None, Option, Some, if◌then◌else◌}
use Rattle.job_model.specs.declared.ends.TaskEnd.TheVariants as ends

-- Kept if the attempt has sent its publishing request, else None.
abbrev pub kept_if : Bool → Option TaskEnd
kept_if b = if b then Some ends.Kept else None
