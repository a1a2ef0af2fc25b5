-- Whether an attempt's operation failed, by its end.
use Rattle.job_model.specs.declared.ends.TaskEnd.{TaskEnd}
use Rattle.machine.specs.Standing.{Broken, Faulted, Fine, Standing}
use Rattle.std.specs.Prelude.{None, Option, Some}
use Rattle.job_model.specs.declared.ends.TaskEnd.TheVariants as ends

-- Whether an operation that ended so hit a fault of the store, or ran out of memory.
abbrev pub standing_of : TaskEnd → Standing
standing_of ends.StoreFault = Faulted
standing_of ends.NoMemory = Broken
standing_of _ = Fine

-- The same for an operation that may still be running, which is fine.
abbrev pub standing_by : Option TaskEnd → Standing
standing_by (Some end) = standing_of end
standing_by None = Fine
