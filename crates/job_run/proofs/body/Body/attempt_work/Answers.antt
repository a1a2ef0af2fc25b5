use Rattle.job_run.proofs.Beginning.{works_of}
use Rattle.job_run.proofs.Reported.{told_nothing}
use Rattle.job_run.specs.Events.{knows_of}
use Rattle.job_run.specs.Holds.{setting_of}
use Rattle.job_run.proofs.body.Body.attempt_work.Goals as goal

pub returns : goal.returns
returns g c =
    let b = c.args.self.now in
    let a = c.args.actor in
    let t = told_nothing b a c.args.op _ (λ d o. c.requires.attempt d) c.untold-none.ensures in
    works_of _ _ _ b a c.args.op t.tells c.begin.result (c.begin.ensures (setting_of b) (knows_of b a) t.tells t.is c.requires.legal
    c.requires.plan c.requires.op) (λ p s. t.same p (knows_of b a) s)
