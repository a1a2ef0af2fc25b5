use Rattle.std.proofs.Common.{arith}
use Rattle.job_script.proofs.LossLines.{all_losses, next_loss, no_loss}
use Rattle.job_script.proofs.print_losses.put_losses.Goals as goal

pub loop-sending-init : goal.loop-sending-init
loop-sending-init c = record {
  room = omega arith;
  text = all_losses c.args.fates.now _ (λ n fate h. (c.requires n fate h).0);
}

pub loop-sending-preserved : goal.loop-sending-preserved
loop-sending-preserved c =
    let first = c.in-Some.ensures.first in
    let most = (c.requires c.in-Some.sending c.in-Some.fate first.1).1 in
    record {
      room = omega (arith, most);
      text = next_loss c.args.fates.now c.loop-sending.from c.in-Some.sending c.in-Some.fate _ _ _ first c.in_ok-put_loss.ensures
          c.loop-sending.invariant.text;
    }

pub returns : goal.returns
returns c = no_loss c.args.fates.now c.loop-sending.from _ _ c.in_default.ensures.first c.loop-sending.invariant.text

pub overflow_add-from : goal.overflow_add-from
overflow_add-from c =
    let most = (c.requires c.in-Some.sending c.in-Some.fate c.in-Some.ensures.first.1).1 in
    omega (arith, most)

pub loop-sending-smaller : goal.loop-sending-smaller
loop-sending-smaller c =
    let first = c.in-Some.ensures.first in
    let most = (c.requires c.in-Some.sending c.in-Some.fate first.1).1 in
    omega (arith, first.0, most)
