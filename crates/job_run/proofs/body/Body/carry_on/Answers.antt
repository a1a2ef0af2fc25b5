use Rattle.std.proofs.Common.{arith}
use Rattle.job_run.proofs.Standings.{placed}
use Rattle.job_run.proofs.TakingUp.{goes_then}
use Rattle.job_run.proofs.EventTurns.{ran_all}
use Rattle.job_run.proofs.body.Body.carry_on.Goals as goal

pub run-requires-clause-going : goal.run-requires-clause-going
run-requires-clause-going g c = (goes_then c.args.place c.args.actor c.args.self.now c.args.goes_on c.if-goes_on.true c.requires.taken).0

pub run-requires-clause-room : goal.run-requires-clause-room
run-requires-clause-room g c = omega (
  arith,
  (goes_then c.args.place c.args.actor c.args.self.now c.args.goes_on c.if-goes_on.true
      c.requires.taken).2,
)

pub returns-then-goes_on-clause-all : goal.returns-then-goes_on-clause-all
returns-then-goes_on-clause-all g c =
    ran_all g.W.Acts.left g.W.Works.rise c.args.place c.args.actor c.args.self.now _ (placed _ _ _ c.requires.actor) c.requires.fresh
    (goes_then c.args.place c.args.actor c.args.self.now c.args.goes_on c.if-goes_on.true c.requires.taken).1 c.run.ensures.ran
