use Rattle.std.proofs.Common.{ap, ◌∙◌}
use Rattle.task_staging.proofs.Staged.{worn_told}
use Rattle.task_staging.specs.inner.Staging.{seen}
use Rattle.task_staging.specs.declared.staging.Staging.{Staging}
use Rattle.task_staging.proofs.staging.StagingTaskStateTheCommit.wear.Goals as goal

pub returns-clause-told : goal.returns-clause-told
returns-clause-told c = let h = c.args.self.now in ap (λ (x : Staging). seen c.tell_sent.new.plan x) c.finish.ensures ∙ worn_told
    c.args.plan.now _ h.stage h.checks h.place h.end c.tell_sent.ensures
