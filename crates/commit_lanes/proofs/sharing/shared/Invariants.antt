use Rattle.text_and_lists.specs.Order.{text_eq}
use Rattle.commit_lanes.specs.Clashes.{items_from}
use Rattle.commit_lanes.specs.inner.Clashes.{Finds}
use Rattle.std.proofs.Common.{take}
use Rattle.std.specs.HashMap.{get}
use Rattle.commit_lanes.proofs.sharing.shared.Given as goal

abbrev pub invariant-loop-n : goal.invariant-loop-n
invariant-loop-n l = Finds (items_from 0 (take l.n l.sets)) (get text_eq l.search.owners) l.search.best
