use Rattle.block_stream.specs.Holds.{AreLong}
use Rattle.std.proofs.Common.{length, ◌++◌, ◌<◌, ◌≡◌}
use Rattle.std.specs.List.{concat}
use Rattle.block_stream.proofs.cutting.cut.Given as goal

abbrev pub invariant-filling : goal.invariant-filling
invariant-filling l = (concat l.queue ++ (l.rest.items ++ l.left) ≡ l.fn.first ++ l.fn.piece) × AreLong l.fn.block l.queue
    × (length l.rest.items < l.fn.block)

abbrev pub decreases-filling : goal.decreases-filling
decreases-filling l = length l.left
