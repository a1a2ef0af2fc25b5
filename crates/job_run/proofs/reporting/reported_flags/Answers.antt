use Rattle.std.proofs.Common.{ap, arith, length}
use Rattle.job_run.proofs.Reported.{no_flags, more_flags, all_flags, is_declared}
use Rattle.job_run.proofs.reporting.reported_flags.Goals as goal

pub loop-place-init : goal.loop-place-init
loop-place-init c = no_flags c.args.script.now c.args.states.now c.new-flags.result.items c.new-flags.ensures.items

pub has_reported-requires : goal.has_reported-requires
has_reported-requires c =
    let count = ap (λ w. length w.attempts) c.script.view_is in
    is_declared c.args.script.now c.loop-place.place c.actor_at-actor.result (omega
    (arith, count, c.len-place-end.ensures, c.loop-place-test.true)) c.actor_at-actor.ensures

pub loop-place-preserved : goal.loop-place-preserved
loop-place-preserved c =
    let count = ap (λ w. length w.attempts) c.script.view_is in
    more_flags c.args.script.now c.loop-place.place c.actor_at-actor.result (omega
    (arith, count, c.len-place-end.ensures, c.loop-place-test.true)) c.actor_at-actor.ensures c.args.states.now _ _ _
    c.loop-place.invariant c.has_reported.ensures c.in_ok-push.ensures.items

pub returns : goal.returns
returns c =
    let count = ap (λ w. length w.attempts) c.script.view_is in
    all_flags c.args.script.now c.args.states.now c.loop-place.place _ (omega
    (arith, count, c.len-place-end.ensures, c.loop-place-test.false)) c.loop-place.invariant
