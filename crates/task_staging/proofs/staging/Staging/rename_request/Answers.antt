use Rattle.s3_types.specs.declared.request.Request.{Request}
use Rattle.std.proofs.Common.{Some, ap}
use Rattle.task_staging.proofs.Staged.{asks_rename}
use Rattle.task_staging.proofs.staging.Staging.rename_request.Goals as goal

pub returns-in-Ok : goal.returns-in-Ok
returns-in-Ok c = let h = c.args.self.now in asks_rename c.args.plan.now h.stage h.checks h.place h.end c.in-Ok.request c.requires.end
    c.requires.stage (ap (λ (r : Request). Some r) c.in-Ok.ensures)
