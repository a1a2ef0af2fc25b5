use Rattle.job_run.proofs.Reported.{told_commit, told_nothing}
use Rattle.job_run.proofs.body.Body.told.Goals as goal

pub returns-in_ok-partitions-in-Commit : goal.returns-in_ok-partitions-in-Commit
returns-in_ok-partitions-in-Commit g c =
    rw c.in-Commit.is (told_commit c.args.self.now _ _ (λ p s. c.in_ok-tasks-in-Commit.ensures.missing c.args.self.now.side.script p s)
    c.in_ok-partitions-in-Commit.ensures)

pub returns-in_default : goal.returns-in_default
returns-in_default g c = told_nothing c.args.self.now _ c.args.op _ (λ d. c.in_default.not-Commit) c.untold.ensures
