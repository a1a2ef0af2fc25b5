-- The replies that fit a check before a commit, and whether it has failed.
use Rattle.conflict.specs.Rechecks.{PlannedCheck}
use Rattle.job_model.specs.declared.ends.CheckEnd.{CheckEnd}
use Rattle.job_model.specs.declared.ends.CheckEnd.TheVariants.{NoMemory, StoreFault}
use Rattle.job_protocol.specs.Rechecks.{Check, CheckOver, Looking, Probing}
use Rattle.job_protocol.specs.Setup.{lacks_bucket}
use Rattle.list_walk.specs.Fitting.{FitsPage}
use Rattle.machine.specs.Standing.{Broken, Faulted, Fine, Standing}
use Rattle.s3_types.specs.declared.reply.Reply.{Reply}
use Rattle.std.specs.Prelude.{Bool, false, ◌≡◌}

-- The bucket exists, and an unfolded page that a check lists has keys only.
abbrev pub FitsLook : Check → Reply → Type 0
FitsLook (Looking keys) r = FitsPage r
FitsLook (Probing d ds) r = lacks_bucket r ≡ false
FitsLook (CheckOver end) r = Unit {0}

-- A reply that a plan's check may receive.
abbrev pub FitsCheck : PlannedCheck → Reply → Bool → Type 0
FitsCheck m r repeated = FitsLook m.operation r

-- Whether a check that ended so hit a fault of the store, or ran out of memory.
abbrev pub standing_at : CheckEnd → Standing
standing_at StoreFault = Faulted
standing_at NoMemory = Broken
standing_at _ = Fine

-- Whether a check failed, by its end.
abbrev pub standing_of : Check → Standing
standing_of (CheckOver end) = standing_at end
standing_of _ = Fine

-- Whether a plan's check failed, by its end.
abbrev pub standing : PlannedCheck → Standing
standing m = standing_of m.operation
