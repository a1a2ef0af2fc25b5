-- The replies that fit a sparing clean, and whether it has failed.
use Rattle.cleanup.specs.Fits.{standing_at}
use Rattle.job_protocol.specs.AtWork.{Driving}
use Rattle.job_protocol.specs.Sparing.{Reading, Sparing, SparingOver, Walking, set_names}
use Rattle.list_walk.specs.Fitting.{FitsPage}
use Rattle.machine.specs.Standing.{Fine, Standing}
use Rattle.s3_types.specs.declared.reply.Reply.{Reply}
use Rattle.s3_types.specs.declared.reply.Reply.TheVariants.{ClusterBytes}
use Rattle.std.specs.Prelude.{Bool, length, ℕ, ◌≤◌}
use Rattle.pending_json.specs.Reading as reading

-- The most uploads that a set names: those of an attempt's files.
abbrev pub most_commits : ℕ
most_commits = 20000

-- A set that was read names at most `most_commits` uploads.
abbrev pub NamesFew : Reply → Type 0
NamesFew (ClusterBytes bytes) = length (set_names (reading.set_of bytes)) ≤ most_commits
NamesFew _ = Unit {0}

-- The bucket exists, an unfolded page lists keys only, and a set names at most `most_commits` uploads.
abbrev pub FitsSparing : Sparing → Reply → Type 0
FitsSparing (Walking keys) r = FitsPage r
FitsSparing (Reading named p ps all) r = NamesFew r
FitsSparing _ r = Unit {0}

-- A reply that a plan's sparing clean may receive.
abbrev pub FitsSparingDriving : Driving Sparing → Reply → Bool → Type 0
FitsSparingDriving m r repeated = FitsSparing m.operation r

-- Whether a sparing clean failed, by its end.
abbrev pub sparing_standing_of : Sparing → Standing
sparing_standing_of (SparingOver end) = standing_at end
sparing_standing_of _ = Fine

-- Whether a plan's sparing clean failed, by its end.
abbrev pub sparing_standing : Driving Sparing → Standing
sparing_standing m = sparing_standing_of m.operation
