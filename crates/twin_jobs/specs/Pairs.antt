-- Two sides with what they share.
use Rattle.job_model.specs.declared.ends.Pick.{Pick}
use Rattle.job_run.specs.Events.{picks_in}
use Rattle.job_run.specs.declared.body.Shared.{Shared}
use Rattle.std.specs.Prelude.{Bool, List, Option, slice_get}
use Rattle.twin_jobs.specs.Worlds.{JobRun, Run}
use Rattle.twin_jobs.specs.declared.pair.Pair.{Pair}
use Rattle.twin_script.specs.declared.turns.Side.{Side}
use Rattle.twin_script.specs.declared.turns.Side.TheVariants.{First, Second}
use Rattle.job_run.specs.declared.body.JobRun as body

-- Of the moving side a and the other side b: the one with the name given first, if the moving one has the name given second.
abbrev pub side_by : {X : Type 0} → Side → Side → X → X → X
side_by First First a b = a
side_by Second Second a b = a
side_by First Second a b = b
side_by Second First a b = b

-- The side of a pair with this name.
abbrev pub side_in : {W : Type 0} → Side → Pair W → body.JobRun W
side_in side p = side_by side p.moving p.body.side p.other

-- ---- nothing has happened

-- ---- what callers see

-- What callers see of one side.
abbrev pub job_in : {W : Type 0} → (W → Option (List Pick)) → body.JobRun W → JobRun
job_in picks_of s = record { script = s.script; picks = picks_in picks_of s.picks (slice_get s.hands.items 0); ends = s.ends.items }

-- What callers see of two sides.
abbrev pub run_of : {W : Type 0} → (W → Option (List Pick)) → List Side → body.JobRun W → body.JobRun W → Shared → Bool → Run
run_of picks_of sides s t shared stuck = record {
  first = job_in picks_of s;
  second = job_in picks_of t;
  sides = sides;
  opening =
      shared.opening;
  journal = shared.journal.entries;
  stuck = stuck;
}
