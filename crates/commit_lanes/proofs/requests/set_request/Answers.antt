use Rattle.commit_lanes.proofs.ReadFiles.{staged_asked, stored_asked}
use Rattle.job_model.specs.Jobs.{Job}
use Rattle.std.proofs.Common.{ap}
use Rattle.commit_lanes.proofs.requests.set_request.Goals as goal

pub returns-in-Magic : goal.returns-in-Magic
returns-in-Magic c = stored_asked c.stored_set.result c.args.plan.now c.args.task c.plan.inside.committer c.in-Magic.is
    (ap (λ (j : Job). j.committer) c.plan.view_is) c.stored_set.ensures

pub returns-in_default : goal.returns-in_default
returns-in_default c = staged_asked c.staged_set.result c.args.plan.now c.args.task c.plan.inside.committer c.in_default.not-Magic
    (ap (λ (j : Job). j.committer) c.plan.view_is) c.staged_set.ensures
