-- Definitions beside those of `Standing` that no public contract cites.
use Rattle.job_model.specs.declared.ends.OpEnd.{OpEnd}
use Rattle.job_model.specs.declared.events.Op.{Op}
use Rattle.job_spec.specs.States.{dead, ended, idle, is_committing, is_done, restarted, stage_begun}
use Rattle.job_states.specs.declared.standing.Standing.{Standing}
use Rattle.s3_types.specs.declared.request.Actor.{Actor}
use Rattle.std.specs.Prelude.{None, Some, false, ◌&&◌, ◌||◌}
use Rattle.job_model.specs.declared.states.Life.TheVariants as lives
use Rattle.job_model.specs.declared.states.ActorStage.TheVariants as stages

-- The standing of an actor that has begun nothing.
abbrev pub fresh : Standing
fresh = record { state = idle stages.New; begun = None; reported = false }

-- The standing of an actor that begins an operation.
abbrev pub begun_in : Actor → Op → Standing → Standing
begun_in a op s = record {
  state = record { life = lives.Busy; stage = stage_begun a op s.state.stage };
  begun = Some op;
  reported =
      s.reported;
}

-- The standing of an actor after the end of its operation.
abbrev pub ended_in : OpEnd → Standing → Standing
ended_in end s = record {
  state = ended end s.state.stage;
  begun = s.begun;
  reported = s.reported ||
      (is_committing s.state.stage && is_done end);
}

-- The standing of an actor that was killed.
abbrev pub killed_in : Standing → Standing
killed_in s = record s { state = dead s.state.stage }

-- The standing of a new driver in place of the old one.
abbrev pub renewed_in : Standing → Standing
renewed_in s = record s { state = idle (restarted s.state.stage) }

-- The standing of an actor whose reports are forgotten.
abbrev pub unreported_in : Standing → Standing
unreported_in s = record s { reported = false }
