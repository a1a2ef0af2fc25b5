use Rattle.job_spec.specs.States.{after_event, end_ops, open_event, told}
use Rattle.job_states.proofs.FoldLemmas.{after_played}
use Rattle.std.proofs.Common.{ap}
use Rattle.job_states.proofs.states.States.play.Goals as goal

pub returns-in-Refused-clause-stands : goal.returns-in-Refused-clause-stands
returns-in-Refused-clause-stands c = λ p h. (p, h, ap (after_event c.args.script.now p c.args.event) c.in-Refused.is)

pub returns-in_default-clause-stands : goal.returns-in_default-clause-stands
returns-in_default-clause-stands c = λ p h.
    let w = c.args.script.now in
    let ev = c.args.event in
    let opened = c.open.ensures.stands p h in (
      end_ops (open_event w p ev) (told ev c.args.end.now),
      c.finish.ensures.stands (open_event w p ev) opened,
      after_played w p ev
          c.args.end.now c.in_default.not-Refused,
    )
