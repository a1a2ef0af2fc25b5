-- The laws of the operations of a job's actors.
use Rattle.job_actor.specs.Plans.{IsPlanOf}
use Rattle.job_model.specs.Known.{Known}
use Rattle.job_operations.specs.Acts.{end_of, tells_of, wants_of}
use Rattle.job_operations.specs.Plans.{AsksSo, GoesSo, IsOf, plan_of, running_of}
use Rattle.job_operations.specs.declared.act.Act.{Act}
use Rattle.job_protocol.specs.Operations.{Setting, advance, over, wants}
use Rattle.s3_types.specs.declared.journal.Outcome.{Outcome}
use Rattle.s3_types.specs.declared.request.Actor.{Actor}
use Rattle.std.specs.Prelude.{None, ◌≡◌}

-- ---- how they go on

-- The operations of a job's actors go on as the script says.
pub record ActorsGo : Type 0 where
  -- With its plan, the operation sends what the script's operation sends, and goes on as that does; what is known goes on so too.
  pub wants : (g : Setting) (a : Actor) (k : Known) (act : Act) → IsOf g a act → AsksSo g.script act
      → wants_of act ≡ wants g a (running_of k act)
  pub goes : (g : Setting) (a : Actor) (k : Known) (act : Act) (o : Outcome) → IsOf g a act → AsksSo g.script act → GoesSo g.script act o
      → running_of (advance g a (running_of k act) o).known (tells_of act o) ≡ advance g a (running_of k act) o
  pub stays : (g : Setting) (a : Actor) (act : Act) (o : Outcome) → IsOf g a act → IsOf g a (tells_of act o)
  -- It ends as the script's operation does.
  pub ends : (k : Known) (act : Act) → end_of act ≡ over (running_of k act).operation
  -- After it has no more requests, its plan is the one that the script gives an actor who knows this.
  pub plans : (g : Setting) (a : Actor) (k : Known) (act : Act) → IsOf g a act → wants_of act ≡ None
      → IsPlanOf g a (running_of k act).known (plan_of act)

-- ---- how they begin
