use Rattle.twin_script.proofs.Pair.{turns_end, turns_sound}
use Rattle.twin_script.proofs.reading.paired.Goals as goal

pub returns-in-Err : goal.returns-in-Err
returns-in-Err c = record {
  exact = turns_end c.args.first c.args.second c.args.order.now c.in-Err.fault c.in-Err.ensures.exact;
  told =
      c.in-Err.ensures.told;
}

pub invariant_of-result : goal.invariant_of-result
invariant_of-result c = turns_sound c.args.first c.args.second c.args.order.now c.in-Ok.order c.in-Ok.ensures.exact
