use Rattle.std.proofs.Common.{arith, ap, Some, ◌∙◌, ◌≡◌, ◌+◌, ◌-◌}
use Rattle.job_model.specs.declared.ends.TaskEnd.TheVariants as ends
use Rattle.task_magic.proofs.Listed.{least_seen, least_other, gone_least}
use Rattle.task_magic.proofs.listing.missing.Goals as goal

pub loop-left-preserved-then-not-seen-left : goal.loop-left-preserved-then-not-seen-left
loop-left-preserved-then-not-seen-left c =
    let i = c.loop-left.left - 1 in
    let n : c.loop-left.left ≡ i + 1 = omega (arith, c.loop-left-test.true) in
    record {
      within = omega (arith, c.loop-left.invariant.within);
      least = least_other c.args.plan.now c.args.seen.now c.loop-left.left i c.loop-left.least n c.loop-left.invariant.within c.requires
          c.loop-left.invariant.least c.in-Ok.key c.lesser.result c.if-not-seen-left.true c.in-Ok.ensures c.lesser.ensures;
    }

pub loop-left-preserved : goal.loop-left-preserved
loop-left-preserved c =
    let i = c.loop-left.left - 1 in
    let n : c.loop-left.left ≡ i + 1 = omega (arith, c.loop-left-test.true) in
    record {
      within = omega (arith, c.loop-left.invariant.within);
      least = least_seen c.args.plan.now c.args.seen.now c.loop-left.left i c.loop-left.least n c.loop-left.invariant.within c.requires
          c.loop-left.invariant.least c.if-not-seen-left.false;
    }

pub returns-in_ok-name-in-Some : goal.returns-in_ok-name-in-Some
returns-in_ok-name-in-Some c = ap (λ name. Some (ends.Gone name)) c.in_ok-name-in-Some.ensures ∙ gone_least c.args.plan.now c.args.seen.now
    c.loop-left.left c.loop-left.least _ (omega (arith, c.loop-left-test.false)) c.loop-left.invariant.least c.in-Some.is

pub returns-in-None : goal.returns-in-None
returns-in-None c = gone_least c.args.plan.now c.args.seen.now c.loop-left.left c.loop-left.least _ (omega (arith, c.loop-left-test.false))
    c.loop-left.invariant.least c.in-None.is
