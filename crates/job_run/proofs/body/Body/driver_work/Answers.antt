use Rattle.job_run.proofs.Beginning.{works_of}
use Rattle.job_run.specs.Events.{knows_of}
use Rattle.job_run.specs.Holds.{setting_of}
use Rattle.s3_types.specs.declared.request.Actor.TheVariants.{Driver}
use Rattle.job_run.proofs.body.Body.driver_work.Goals as goal

pub returns : goal.returns
returns g c =
    let k = c.args.self.now in
    let t = c.in_ok-told.ensures in
    works_of _ _ _ k Driver c.args.op t.tells c.begin.result (c.begin.ensures (setting_of k) (knows_of k Driver) t.tells t.is
    c.requires.legal c.in_ok-plan.ensures c.requires.op) (λ p s. t.same p (knows_of k Driver) s)
