use Rattle.std.proofs.Common.{◌+◌, arith}
use Rattle.commit_lanes.proofs.Numbers.{number_more}
use Rattle.commit_lanes.proofs.reverting.numbers_in.Goals as goal

pub loop-number-preserved : goal.loop-number-preserved
loop-number-preserved c = λ q. number_more c.args.numbers.now c.loop-number.number-index (c.loop-number.number-index + 1) q _ _
    (omega arith) (omega arith) (c.in_ok-insert.ensures.updates.0 q) (c.loop-number.invariant q)
