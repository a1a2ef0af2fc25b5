use Rattle.std.proofs.Common.{refl, sym, ◌∙◌}
use Rattle.durable_job.proofs.Turns.{turn_opening, turn_stays, turn_steps, none_opening, none_sent, none_short, none_stays, none_next}
use Rattle.durable_job.proofs.Turns.{self_stays}
use Rattle.durable_job.proofs.moves.TwinWorldMoves.step.Goals as goal

pub returns-in-Ok-clause-origin : goal.returns-in-Ok-clause-origin
returns-in-Ok-clause-origin g c = turn_opening c.args.self.now c.turn.new.self c.in-Ok.turned c.in-Ok.ensures.ok

pub returns-in-Ok-clause-keeps : goal.returns-in-Ok-clause-keeps
returns-in-Ok-clause-keeps g c = turn_stays c.args.self.now c.turn.new.self c.in-Ok.turned c.in-Ok.ensures.ok

pub returns-in-Ok-clause-ok : goal.returns-in-Ok-clause-ok
returns-in-Ok-clause-ok g c = turn_steps c.args.self.now c.turn.new.self c.in-Ok.turned c.is_turn.result c.is_turn.ensures
    c.in-Ok.ensures.ok

pub returns-in-Err-clause-origin : goal.returns-in-Err-clause-origin
returns-in-Err-clause-origin g c = none_opening c.args.self.now c.turn.new.self c.in-Err.ensures.err

pub returns-in-Err-clause-keeps : goal.returns-in-Err-clause-keeps
returns-in-Err-clause-keeps g c = none_stays c.args.self.now c.turn.new.self c.in-Err.ensures.err

pub returns-in-Err-clause-err : goal.returns-in-Err-clause-err
returns-in-Err-clause-err g c = none_sent c.args.self.now c.turn.new.self c.in-Err.ensures.err

pub returns-in-Err-clause-short : goal.returns-in-Err-clause-short
returns-in-Err-clause-short g c = none_short c.args.self.now c.turn.new.self c.in-Err.ensures.err _ (sym c.next.ensures ∙ c.in-Some.is)

pub returns-in_default-clause-keeps : goal.returns-in_default-clause-keeps
returns-in_default-clause-keeps g c = self_stays c.args.self.now

pub returns-in_default-clause-ok : goal.returns-in_default-clause-ok
returns-in_default-clause-ok g c = (none_next c.args.self.now (sym c.next.ensures ∙ c.in_default.is), refl)
