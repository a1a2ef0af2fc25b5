use Rattle.job_model.specs.Jobs.{Task}
use Rattle.std.proofs.Common.{ap, arith, length}
use Rattle.task_magic.proofs.stepping.next_place.Goals as goal

pub overflow_add-result : goal.overflow_add-result
overflow_add-result c = omega (arith, c.plan.invariant.few_files, ap (λ (t : Task). length t.files) c.plan.view_is)
