use Rattle.job_model.specs.Jobs.{Task}
use Rattle.std.proofs.Common.{ap, length, true, ◌∙◌, ◌≡◌}
use Rattle.task_staging.proofs.Staged.{stores_all, stores_not}
use Rattle.task_staging.proofs.staging.Staging.stores.Goals as goal

pub returns-then-not-is_over : goal.returns-then-not-is_over
returns-then-not-is_over c = let h = c.args.self.now in stores_not h.checks c.args.plan.now.files h.place c.is_over.result c.is_over.ensures
    c.if-not-is_over.true

pub returns : goal.returns
returns c =
    let h = c.args.self.now in
    let over : c.is_over.result ≡ true = let n = c.if-not-is_over.false in cc in
    stores_all h.checks c.args.plan.now.files c.len.result h.place c.is_over.result c.is_over.ensures over
    (c.len.ensures ∙ ap (λ (t : Task). length t.files) c.plan.view_is)
