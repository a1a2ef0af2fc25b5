use Rattle.job_states.proofs.AloneTurns.{going_begins, goes_on, has_ended}
use Rattle.job_states.proofs.alone.run.Goals as goal

pub turns-init : goal.turns-init
turns-init g c = (c.requires.holds, g.met.A.Actors.laws.self _, going_begins _ _ c.requires.going)

pub turns-preserved : goal.turns-preserved
turns-preserved g c =
    let i = c.turns.invariant in
    let t = c.in-GoesOn.ensures in
    (t.holds, g.met.A.Actors.laws.chain _ _ _ i.1 t.keeps, goes_on i.2 t.turned)

pub returns-in-Ended-clause-ran : goal.returns-in-Ended-clause-ran
returns-in-Ended-clause-ran g c = has_ended c.turns.invariant.2 c.in-Ended.ensures.turned
