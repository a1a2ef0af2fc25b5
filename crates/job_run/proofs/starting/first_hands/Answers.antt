use Rattle.std.proofs.Common.{length, ap, arith}
use Rattle.job_run.proofs.Firsts.{no_hands, more_hands, all_hands}
use Rattle.job_run.proofs.starting.first_hands.Goals as goal

pub loop-place-init : goal.loop-place-init
loop-place-init g c = no_hands c.args.script.now c.args.minimum c.new-hands.result.items _ c.new-hands.ensures.items
    c.in_ok-push.ensures.items

pub loop-place-preserved : goal.loop-place-preserved
loop-place-preserved g c = more_hands c.args.script.now c.args.minimum c.loop-place.place c.in_ok-plan.plan _ _ c.in_ok-plan.ensures
    c.loop-place.invariant c.in_ok-push-2.ensures.items

pub returns : goal.returns
returns g c =
    let count = ap (λ w. length w.attempts) c.script.view_is in
    all_hands c.args.script.now c.args.minimum c.loop-place.place _ (omega (arith, count, c.len-place-end.ensures, c.loop-place-test.false))
    c.loop-place.invariant
