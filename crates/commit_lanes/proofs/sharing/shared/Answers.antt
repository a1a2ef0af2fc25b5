use Rattle.text_and_lists.specs.Order.{text_eq}
use Rattle.commit_lanes.proofs.Searching.{adds_set}
use Rattle.std.proofs.Common.{arith, ◌+◌}
use Rattle.std.specs.HashMap.{get}
use Rattle.commit_lanes.proofs.sharing.shared.Goals as goal

pub loop-n-preserved : goal.loop-n-preserved
loop-n-preserved c = adds_set c.args.sets.now c.loop-n.n (c.loop-n.n + 1) c.index-sets-n.result c.as_slice.result.now
    (get text_eq c.loop-n.search.owners) (get text_eq c.add_all.new.search.owners) c.loop-n.search.best c.add_all.new.search.best
    (omega arith) (omega arith) c.index-sets-n.is c.as_slice.ensures c.in_ok-add_all.ensures c.loop-n.invariant
