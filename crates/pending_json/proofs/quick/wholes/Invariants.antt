use Rattle.std.proofs.Common.{length}
use Rattle.pending_json.proofs.quick.wholes.Given as goal

abbrev pub decreases-loop-item : goal.decreases-loop-item
decreases-loop-item l = length l.rest
