use Rattle.std.proofs.Common.{arith}
use Rattle.trace_text.proofs.Unsent.{all_unsent, none_unsent, one_unsent}
use Rattle.trace_text.proofs.counts.unsent.Goals as goal

pub losses-init : goal.losses-init
losses-init c = record { low = omega arith; left = omega (arith, all_unsent c.args.fates.now c.args.sent) }

pub overflow_add-count : goal.overflow_add-count
overflow_add-count c =
    let first = c.in-Some.ensures.first in
    let most = (c.requires.fates c.in-Some.number c.in-Some.field-0-1 first.1).1 in
    omega (arith, first.0, most, c.losses.invariant.low)

pub overflow_add-from-in-Some : goal.overflow_add-from-in-Some
overflow_add-from-in-Some c =
    let most = (c.requires.fates c.in-Some.number c.in-Some.field-0-1 c.in-Some.ensures.first.1).1 in
    omega (arith, most)

pub losses-smaller : goal.losses-smaller
losses-smaller c =
    let first = c.in-Some.ensures.first in
    let most = (c.requires.fates c.in-Some.number c.in-Some.field-0-1 first.1).1 in
    omega (arith, first.0, most)

pub losses-preserved : goal.losses-preserved
losses-preserved c =
    let first = c.in-Some.ensures.first in
    let one = one_unsent c.args.fates.now c.losses.from c.in-Some.number c.in-Some.field-0-1 first in
    record { low = omega (arith, first.0, c.losses.invariant.low); left = omega (arith, one, c.losses.invariant.left) }

pub returns : goal.returns
returns c = omega (arith, none_unsent c.args.fates.now c.losses.from c.in_default.ensures.first, c.losses.invariant.left)
