use Rattle.std.proofs.Common.{ap, ◌∙◌}
use Rattle.task_magic.proofs.Whole.{start_is}
use Rattle.task_requests.specs.Writing.{write_by}
use Rattle.task_requests.specs.declared.stage.WriteStage.TheVariants.{Creating}
use Rattle.task_magic.proofs.write.WritingTaskStateTheWrite.begin.Goals as goal

pub returns-clause-start : goal.returns-clause-start
returns-clause-start c = ap (write_by c.args.plan.now 0 Creating) c.done_if_none.ensures ∙ start_is c.args.plan.now c.requires
