use Rattle.log_format.proofs.Loop.{one_legal, one_written}
use Rattle.log_format.specs.Change.{IsKey}
use Rattle.log_format.specs.Log.{block}
use Rattle.log_format.proofs.writing.put_keys.Goals as goal

pub loop-key-preserved : goal.loop-key-preserved
loop-key-preserved c = record {
  so_far = one_written c.args.keys.now c.loop-key.key-index c.key-item.result c.loop-key-test.true c.key-item.is block c.loop-key.out.items
      _ _ c.in_ok-put_key.ensures.text c.loop-key.invariant.so_far;
  legal = one_legal c.args.keys.now c.loop-key.key-index c.key-item.result c.loop-key-test.true c.key-item.is IsKey
      c.in_ok-put_key.ensures.legal c.loop-key.invariant.legal;
}
