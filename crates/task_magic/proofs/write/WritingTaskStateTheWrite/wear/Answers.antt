use Rattle.std.proofs.Common.{ap, ◌∙◌}
use Rattle.task_operation.specs.Tasks.{at}
use Rattle.task_magic.proofs.Whole.{worn_told}
use Rattle.task_magic.specs.Writing.{operation_of}
use Rattle.task_magic.specs.declared.write.Writing.{Writing}
use Rattle.task_magic.proofs.write.WritingTaskStateTheWrite.wear.Goals as goal

pub returns-clause-told : goal.returns-clause-told
returns-clause-told c =
    let t = c.args.plan.now in
    ap (λ (w : Writing). at t (operation_of t w)) c.finish.ensures ∙ worn_told t (operation_of t c.args.self.now)
