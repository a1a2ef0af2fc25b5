-- What a run of allowed steps is at each point between two events.
use Rattle.job_model.specs.Legal.{IsLegal}
use Rattle.job_protocol.specs.Operations.{Setting}
use Rattle.job_spec.specs.Follows.{Plays}
use Rattle.job_spec.specs.States.{past}
use Rattle.script_steps.specs.Transitions.{Play, Reachable}
use Rattle.s3_types.specs.Moment.{IsHonest}
use Rattle.s3_types.specs.Store.{Content}
use Rattle.std.specs.Prelude.{None, ◌≡◌}

-- The run is as its script's events say, by its journal and its ends alone; each outcome was due; and its states are those that follow from
-- its ends.
pub record IsPlayed (g : Setting) (opening : Content) (x : Play) : Type 0 where
  pub plays : Plays g x.ends x.journal
  pub honest : IsHonest opening x.journal
  pub past : x.past ≡ past g.script x.ends
  pub live : x.live ≡ x.past

-- At each point between two events, a run of allowed steps is as its script's events say.
abbrev pub HappeningsPlay : Type 0
HappeningsPlay = (g : Setting) (opening : Content) (x : Play) → IsLegal g.script → Reachable g opening x → x.now ≡ None
    → IsPlayed g opening x
