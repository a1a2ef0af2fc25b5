use Rattle.job_operations.proofs.Beginnings.{commit_begun_if}
use Rattle.job_operations.specs.inner.Begins.{commit_by}
use Rattle.commit_lanes.specs.Fitting.{least_missing}
use Rattle.std.proofs.Common.{IfOk, subst, sym, ◌≡◌}
use Rattle.job_operations.proofs.begun.begin_commit.Goals as goal

pub returns-in-Some-clause-begins : goal.returns-in-Some-clause-begins
returns-in-Some-clause-begins c =
    let j = c.args.plan in
    let x = c.args.reported in
    commit_begun_if c.begin_shared.result j x
    (subst (λ o. IfOk c.begin_shared.result (λ act. act ≡ commit_by j x.tasks o j.mode (least_missing j.tasks x.tasks))) (sym c.in-Some.is)
    c.begin_shared.ensures)
