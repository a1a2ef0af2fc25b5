-- The picks of a job's commit during a run.
use Rattle.job_model.specs.Legal.{IsLegal}
use Rattle.job_model.specs.declared.ends.EventEnd.{EventEnd}
use Rattle.job_model.specs.declared.ends.Pick.{Pick}
use Rattle.job_model.specs.declared.events.Event.{Event}
use Rattle.job_protocol.specs.Operations.{Operation, Running, Setting, TheCheck, TheCommit}
use Rattle.job_spec.specs.Promise.{all_picks}
use Rattle.job_spec.specs.States.{begins_commit, is_commit}
use Rattle.script_steps.specs.Running.{Ahead}
use Rattle.script_steps.specs.Transitions.{MayOpen, Play, Reachable}
use Rattle.protocol_runs.specs.Runs.{IsOpening}
use Rattle.s3_types.specs.Store.{Content}
use Rattle.s3_types.specs.declared.journal.Entry.{Entry}
use Rattle.s3_types.specs.declared.request.Actor.TheVariants.{Driver}
use Rattle.std.specs.Prelude.{Bool, List, None, Option, Some, false, true, [], ◌++◌, ◌∷◌, ◌≡◌}

-- These are the picks that the journal shows so far, however the run goes on.
abbrev pub ArePicksOf : Setting → Content → Play → List Pick → Type 0
ArePicksOf g opening x ps = (xs : List EventEnd) → Ahead x xs → ps ≡ all_picks g.script opening x.journal xs

-- If an operation has picks, they are those that the journal shows.
abbrev pub HasPicked : Setting → Content → Play → Option (List Pick) → Type 0
HasPicked g opening x (Some ps) = ArePicksOf g opening x ps
HasPicked g opening x None = Unit {0}

-- The entry changes none of the picks that the journal shows so far, however the run goes on.
abbrev pub LeavesPicks : Setting → Content → Play → Entry → Type 0
LeavesPicks g opening x e = (xs : List EventEnd) → Ahead x xs
    → all_picks g.script opening (x.journal ++ e ∷ []) xs ≡ all_picks g.script opening x.journal xs

-- The operation is the job's commit, or the check that goes on as the commit.
abbrev pub is_job_commit : Operation → Bool
is_job_commit (TheCommit c) = true
is_job_commit (TheCheck t) = true
is_job_commit _ = false

-- The operation that an actor began last is the job's commit.
abbrev pub is_committing : Option Running → Bool
is_committing None = false
is_committing (Some m) = is_job_commit m.operation

-- How the picks of a job's commit come about.
pub record PicksGo : Type 0 where
  -- The driver is in the job's commit exactly if the events say that it began that last.
  pub doing : (g : Setting) (opening : Content) (x : Play) → IsLegal g.script → Reachable g opening x
      → is_committing (x.running Driver) ≡ is_commit (x.live.doing Driver)
  -- When the job's commit may begin, nothing was picked yet.
  pub none_before : (g : Setting) (opening : Content) (x : Play) → IsLegal g.script → IsOpening g opening → Reachable g opening x
      → (ev : Event) → begins_commit ev ≡ true → MayOpen g x ev None → ArePicksOf g opening x []
