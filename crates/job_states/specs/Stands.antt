-- The state of a run as `States` keeps it.
use Rattle.job_model.specs.Attempts.{is_known}
use Rattle.job_model.specs.JobScript.{Script}
use Rattle.job_spec.specs.States.{Past, actors, is_committing, is_reported, same_actor}
use Rattle.job_states.specs.Standing.{decision, standing}
use Rattle.job_states.specs.declared.standing.Decision.{Decision}
use Rattle.job_states.specs.declared.standing.Standing.{Standing}
use Rattle.s3_types.specs.declared.request.Actor.{Actor}
use Rattle.std.specs.List.{range_with_len}
use Rattle.std.specs.Prelude.{Bool, IfSome, List, None, Option, Some, false, is_some, length, map, nat_eq, slice_get, ℕ, ◌<◌, ◌≡◌}

-- What is kept: the number of events, the standing of each actor, the number of the job attempt, whether each task is reported, and what is
-- known of the last set-up and of the commit.
pub record Kept : Type 0 where
  pub events : ℕ
  pub actors : List Standing
  pub attempt : ℕ
  pub reported : List Bool
  pub setup : Decision
  pub commit : Decision

-- The results of a test for the tasks, as a list.
abbrev pub tested : ℕ → (ℕ → Bool) → List Bool
tested tasks f = map f (range_with_len 0 tasks)

-- Holds if what is kept is the state `p` of a run of the script.
pub record Stands (w : Script) (k : Kept) (p : Past) : Type 0 where
  pub events : k.events ≡ p.events
  -- The driver, and then the attempts in script order.
  pub actors : k.actors ≡ map (standing p) (actors w)
  pub attempt : k.attempt ≡ p.attempt
  pub reported : k.reported ≡ tested w.tasks (is_reported w p.reported)
  pub setup : k.setup ≡ decision p.setup
  pub commit : k.commit ≡ decision p.commit
  -- An actor outside the job is not kept, and never commits.
  pub others : (a : Actor) → is_known w.attempts a ≡ false → is_committing (p.state a).stage ≡ false

-- ---- places

-- True if this is the place.
abbrev pub is_at : Option ℕ → ℕ → Bool
is_at None j = false
is_at (Some i) j = nat_eq i j

-- Holds if this is the place of an actor. It is none exactly if the actor does not belong to the job.
pub record IsPlace (w : Script) (a : Actor) (place : Option ℕ) : Type 0 where
  pub known : is_some place ≡ is_known w.attempts a
  pub within : IfSome place (λ i. i < length (actors w))
  pub only : (j : ℕ) (b : Actor) → slice_get (actors w) j ≡ Some b → same_actor b a ≡ is_at place j

-- ---- searches
