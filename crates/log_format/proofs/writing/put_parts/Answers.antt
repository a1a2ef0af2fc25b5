use Rattle.log_format.proofs.Loop.{one_legal, one_written}
use Rattle.log_format.specs.Change.{IsNamed}
use Rattle.log_format.specs.Log.{named}
use Rattle.log_format.proofs.writing.put_parts.Goals as goal

pub loop-part-preserved : goal.loop-part-preserved
loop-part-preserved c = record {
  so_far = one_written c.args.parts.now c.loop-part.part-index c.part-item.result c.loop-part-test.true c.part-item.is named
      c.loop-part.out.items _ _ c.in_ok-put_named.ensures.text c.loop-part.invariant.so_far;
  legal = one_legal c.args.parts.now c.loop-part.part-index c.part-item.result c.loop-part-test.true c.part-item.is IsNamed
      c.in_ok-put_named.ensures.legal c.loop-part.invariant.legal;
}
