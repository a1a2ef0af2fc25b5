use Rattle.std.proofs.Common.{refl, sym}
use Rattle.durable_job.proofs.Paces.{stepped, stays, stays_so, left_so, none_left}
use Rattle.durable_job.proofs.moves.WorldMoves.step.Goals as goal

pub returns-in-None-clause-keeps : goal.returns-in-None-clause-keeps
returns-in-None-clause-keeps g c = record { script = refl; count = refl }

pub returns-in-None-clause-ok : goal.returns-in-None-clause-ok
returns-in-None-clause-ok g c = (none_left c.args.self.now (sym c.in-None.ensures), refl)

pub returns-in-Ok-clause-keeps : goal.returns-in-Ok-clause-keeps
returns-in-Ok-clause-keeps g c = stays c.args.self.now c.event.new.self c.in-Some.event (sym c.in-Some.ensures) c.in-Ok.ensures.ok

pub returns-in-Ok-clause-ok : goal.returns-in-Ok-clause-ok
returns-in-Ok-clause-ok g c = stepped c.args.self.now c.event.new.self c.in-Some.event (sym c.in-Some.ensures) c.in-Ok.ensures.ok

pub returns-in-Err-clause-keeps : goal.returns-in-Err-clause-keeps
returns-in-Err-clause-keeps g c = stays_so c.args.self.now c.event.new.self c.in-Err.ensures.err

pub returns-in-Err-clause-short : goal.returns-in-Err-clause-short
returns-in-Err-clause-short g c = left_so c.args.self.now c.event.new.self c.in-Some.event (sym c.in-Some.ensures) c.in-Err.ensures.err
