use Rattle.job_model.specs.Attempts.{Declared}
use Rattle.job_model.specs.JobScript.{Script}
use Rattle.job_model.specs.Legal.{AreEvents}
use Rattle.job_model.specs.declared.events.Event.{Event}
use Rattle.job_spec.specs.States.{after_event, past_from}
use Rattle.job_states.proofs.FoldLemmas.{event_at, left_from}
use Rattle.std.proofs.Common.{List, ap, arith, subst, sym, ◌∙◌}
use Rattle.job_states.proofs.states.States.after.Goals as goal

pub pass-requires-clause-event : goal.pass-requires-clause-event
pass-requires-clause-event c =
    let w = c.args.script.now in
    let events = c.as_slice-events.result.now in
    let h = c.in-Some.ensures.lookup in
    event_at w.attempts events c.loop-index.index c.in-Some.event.now
    (subst (λ (evs : List Event). AreEvents w.attempts evs) (sym c.as_slice-events.ensures)
    (subst (λ (ds : List Declared). AreEvents ds c.script.inside.events) (ap (λ (s : Script). s.attempts) c.script.view_is)
    c.script.invariant.events))
    h.3.0 h.1

pub loop-index-preserved : goal.loop-index-preserved
loop-index-preserved c =
    let w = c.args.script.now in
    let so_far = c.loop-index.invariant.stands in
    let h = c.in-Some.ensures.lookup in
    let x = c.index-ends-index.result in
    let ev = c.in-Some.event.now in
    let event_left = left_from c.as_slice-events.result.now c.loop-index.index ev h.3.0 h.1 in
    let end_left = left_from c.args.ends.now c.loop-index.index x c.loop-index-test.true c.index-ends-index.is in record {
      stands = (
        after_event w so_far.0 ev x,
        c.pass.ensures.stands so_far.0 so_far.1,
        sym
            (λ j. past_from w so_far.0 (event_left j) (end_left j)) ∙ so_far.2,
      );
      attempt = omega arith;
      events = omega arith;
    }
