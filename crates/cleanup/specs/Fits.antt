-- The replies that fit a clean, and whether it has failed.
use Rattle.job_model.specs.declared.ends.CleanEnd.{CleanEnd}
use Rattle.job_model.specs.declared.ends.CleanEnd.TheVariants.{Done, NoMemory, StoreFault}
use Rattle.job_protocol.specs.AtWork.{Driving}
use Rattle.job_protocol.specs.Cleanups.{Clean, CleanOver, Sweeping, Walking}
use Rattle.list_walk.specs.Fitting.{FitsSweep, FitsUploads}
use Rattle.machine.specs.Standing.{Broken, Faulted, Fine, Standing}
use Rattle.s3_types.specs.declared.reply.Reply.{Reply}
use Rattle.std.specs.Prelude.{Bool}

-- The bucket exists, and an unfolded page lists keys only.
abbrev pub FitsClean : Clean → Reply → Type 0
FitsClean (Walking found) r = FitsUploads r
FitsClean (Sweeping s) r = FitsSweep s r
FitsClean _ r = Unit {0}

-- A reply that a plan's clean may receive.
abbrev pub FitsDriving : Driving Clean → Reply → Bool → Type 0
FitsDriving m r repeated = FitsClean m.operation r

-- Whether a clean that ended so hit a fault of the store, or ran out of memory.
abbrev pub standing_at : CleanEnd → Standing
standing_at Done = Fine
standing_at StoreFault = Faulted
standing_at NoMemory = Broken

-- Whether a clean failed, by its end.
abbrev pub standing_of : Clean → Standing
standing_of (CleanOver end) = standing_at end
standing_of _ = Fine

-- Whether a plan's clean failed, by its end.
abbrev pub standing : Driving Clean → Standing
standing m = standing_of m.operation
