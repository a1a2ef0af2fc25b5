-- Definitions beside those of `Writing` that no public contract cites.
use Rattle.job_model.specs.declared.ends.TaskEnd.{TaskEnd}
use Rattle.s3_types.specs.declared.request.Request.{Request}
use Rattle.std.specs.Prelude.{None, Option, Some}
use Rattle.job_model.specs.declared.ends.TaskEnd.TheVariants as ends

-- The end of a write that has no next request: Done.
abbrev pub ended_by : Option Request → Option TaskEnd
ended_by (Some r) = None
ended_by None = Some ends.Done
