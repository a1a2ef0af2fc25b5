use Rattle.job_commit.proofs.Goings.{more_read, picks_of_more}
use Rattle.job_protocol.specs.JobCommits.{set_read}
use Rattle.job_commit.proofs.basis.Basis.hear_set.Goals as goal

pub fetching-requires-clause-each : goal.fetching-requires-clause-each
fetching-requires-clause-each c = more_read c.args.self.now.plan c.args.self.now.sets c.push.new.self c.in_ok-set.set
    (set_read c.args.reply.now) c.requires.reads c.requires.fits c.in_ok-set.ensures c.in_ok-push.ensures.ok

pub returns-in-Ok-clause-picks : goal.returns-in-Ok-clause-picks
returns-in-Ok-clause-picks c =
    picks_of_more c.args.self.now c.push.new.self c.fetching.new.self c.args.picks.now c.push-2.new.self c.in_ok-set.set
    c.task_at-task.result c.in_ok-set.set.attempt c.in_ok-push.ensures.ok c.fetching.ensures.rest c.task_at-task.ensures
    c.in-Ok.ensures.ok c.requires.reads c.requires.picks
