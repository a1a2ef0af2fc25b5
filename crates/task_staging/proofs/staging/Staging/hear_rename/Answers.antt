use Rattle.std.proofs.Common.{ap, ◌∙◌}
use Rattle.task_staging.proofs.Staged.{rename_told}
use Rattle.task_staging.specs.inner.Staging.{seen}
use Rattle.task_staging.specs.declared.staging.Staging.{Staging}
use Rattle.task_staging.proofs.staging.Staging.hear_rename.Goals as goal

pub returns-clause-told : goal.returns-clause-told
returns-clause-told c =
    let t = c.args.plan.now in
    let h = c.args.self.now in
    ap (λ (x : Staging). seen c.tell_rename.new.plan x) c.finish.ensures ∙ rename_told t h.stage h.checks h.place h.end c.args.reply.now
    c.args.repeated c.in_ok-end.end _ c.tell_rename.ensures c.requires.end c.requires.stage c.in_ok-end.ensures
