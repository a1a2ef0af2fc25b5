use Rattle.std.proofs.Common.{length}
use Rattle.log_format.proofs.Loop.{change_more}
use Rattle.log_format.proofs.reading.add_changes.Goals as goal

pub loop-preserved : goal.loop-preserved
loop-preserved c = change_more (length c.args.bytes.now) c.loop.counter c.args.whole _ _ _ _ _ _ _ _ _ c.loop-test.true c.place_of.ensures
    c.in_ok-gate.ensures c.if-gate-ne1.false c.place_of-in-loop.ensures c.in_ok-rest.ensures c.loop.invariant
