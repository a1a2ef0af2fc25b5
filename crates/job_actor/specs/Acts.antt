-- The laws of an operation that an actor is running, beside the contracts of its calls.
use Rattle.job_model.specs.declared.ends.OpEnd.{OpEnd}
use Rattle.job_spec.specs.Turns.{is_memory}
use Rattle.s3_types.specs.Answer.{answer, apply}
use Rattle.s3_types.specs.Moment.{IsHonestOutcome, effect}
use Rattle.s3_types.specs.Store.{Scene}
use Rattle.s3_types.specs.declared.journal.Outcome.{Outcome}
use Rattle.s3_types.specs.declared.request.Request.{Request}
use Rattle.std.specs.Prelude.{Bool, None, Option, Some, false, is_some, not, true, ℕ, ◌+◌, ◌<◌, ◌≡◌, ◌≤◌}
use Rattle.job_model.specs.declared.ends.SetupEnd.TheVariants as setups
use Rattle.job_model.specs.declared.ends.CheckEnd.TheVariants as checks
use Rattle.job_model.specs.declared.ends.TaskEnd.TheVariants as tasks
use Rattle.job_model.specs.declared.ends.CommitEnd.TheVariants as commits
use Rattle.job_model.specs.declared.ends.OpEnd.TheVariants as ends

-- The end names a path: a conflict, a path that two tasks write, or what is gone.
abbrev pub names_path : OpEnd → Bool
names_path (ends.Setup (setups.Conflict path)) = true
names_path (ends.Check (checks.Conflict path)) = true
names_path (ends.Task (tasks.Conflict partition)) = true
names_path (ends.Task (tasks.Gone name)) = true
names_path (ends.Commit (commits.SamePath path first second)) = true
names_path _ = false

-- The operation has ended, and its end names a path.
abbrev pub ends_with_path : Option OpEnd → Bool
ends_with_path (Some end) = names_path end
ends_with_path None = false

-- The operation has ended because memory ran out.
abbrev pub ends_wanting : Option OpEnd → Bool
ends_wanting (Some end) = is_memory end
ends_wanting None = false

-- Memory ran out in the operation: it asks no request, and its end says so.
pub record EndsWanting (asked : Option Request) (end : Option OpEnd) : Type 0 where
  pub none : asked ≡ None
  pub wanting : ends_wanting end ≡ true

-- The laws of an operation: it asks a request until it has ended, and it ends.
pub record ActLaws {A : Type 0} (wants : A → Option Request) (tells : A → Outcome → A) (fits : A → Outcome → Type 0)
    (end_of : A → Option OpEnd) (left : A → Scene → ℕ) (rise : A → Request → ℕ) : Type 0 where
  -- It asks a request exactly until it has ended.
  pub goes_on : (a : A) → is_some (wants a) ≡ not (is_some (end_of a))
  -- What it has left falls with each send of its own, whatever the outcome.
  pub falls : (a : A) (s : Scene) (r : Request) (o : Outcome) → wants a ≡ Some r → fits a o → IsHonestOutcome o (answer s r)
      → left (tells a o) (effect s r o) < left a s
  -- A request of another actor raises what it has left by at most this number.
  pub others : (a : A) (s : Scene) (r : Request) → left a (apply s r) ≤ left a s + rise a r
