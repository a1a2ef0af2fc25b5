-- The replies that fit a set-up, and whether it has failed.
use Rattle.job_model.specs.declared.ends.SetupEnd.{SetupEnd}
use Rattle.job_model.specs.declared.ends.SetupEnd.TheVariants.{NoMemory, StoreFault}
use Rattle.job_protocol.specs.AtWork.{Driving}
use Rattle.job_protocol.specs.Setup.{Checking, Setup, SetupOver, Sweeping, lacks_bucket}
use Rattle.list_walk.specs.Fitting.{FitsPage, FitsSweep}
use Rattle.machine.specs.Standing.{Broken, Faulted, Fine, Standing}
use Rattle.s3_types.specs.declared.reply.Reply.{Reply}
use Rattle.std.specs.Prelude.{Bool, true, ◌≡◌, ◌⊎◌}

-- An unfolded page lists keys only. A reply that the bucket does not exist fits every request.
abbrev pub FitsSetup : Setup → Reply → Type 0
FitsSetup (Checking keys) r = FitsPage r ⊎ (lacks_bucket r ≡ true)
FitsSetup (Sweeping s) r = FitsSweep s r ⊎ (lacks_bucket r ≡ true)
FitsSetup _ r = Unit {0}

-- A reply that a plan's set-up may receive.
abbrev pub FitsDriving : Driving Setup → Reply → Bool → Type 0
FitsDriving m r repeated = FitsSetup m.operation r

-- Whether a set-up that ended so hit a fault of the store, or ran out of memory.
abbrev pub standing_at : SetupEnd → Standing
standing_at StoreFault = Faulted
standing_at NoMemory = Broken
standing_at _ = Fine

-- Whether a set-up failed, by its end.
abbrev pub standing_of : Setup → Standing
standing_of (SetupOver end) = standing_at end
standing_of _ = Fine

-- Whether a plan's set-up failed, by its end.
abbrev pub standing : Driving Setup → Standing
standing m = standing_of m.operation
