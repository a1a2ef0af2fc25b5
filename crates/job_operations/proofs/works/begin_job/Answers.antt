use Rattle.job_operations.proofs.Beginnings.{commit_starts, starts_if}
use Rattle.job_operations.specs.Plans.{IsOf, picks_of, running_of}
use Rattle.job_actor.specs.Reports.{IsReport}
use Rattle.job_actor.specs.Works.{Starts}
use Rattle.std.proofs.Common.{IfOk, subst, sym}
use Rattle.job_model.specs.declared.events.Op.TheVariants as ops
use Rattle.job_operations.proofs.works.begin_job.Goals as goal

pub returns-in-Commit : goal.returns-in-Commit
returns-in-Commit c g a k r report legal plan op =
    let j = c.args.plan in
    let x = c.args.reported in
    subst (λ o. IfOk c.begin_commit.result (λ act. Starts IsOf running_of picks_of g a o r k act)) (sym c.in-Commit.is)
    (starts_if ops.Commit j x _ (commit_starts j x) c.begin_commit.result c.begin_commit.ensures.act g a k r
    (subst (λ o. IsReport g a o x r) c.in-Commit.is report) legal plan)
