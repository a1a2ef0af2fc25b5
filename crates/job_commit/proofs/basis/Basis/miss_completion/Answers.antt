use Rattle.job_commit.proofs.Tables.{again_still}
use Rattle.job_commit.proofs.basis.Basis.miss_completion.Goals as goal

pub completing-requires-clause-within : goal.completing-requires-clause-within
completing-requires-clause-within c = again_still c.args.self.now.sets c.args.lanes c.go_on.new.self c.in-Some.turn c.again.result
    c.args.lost c.in-Some.ensures c.again.ensures c.in_ok-go_on-in-Some.ensures c.requires.within
