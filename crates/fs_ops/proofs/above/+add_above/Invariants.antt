use Rattle.std.proofs.Common.{length}
use Rattle.fs_ops.proofs.above.+add_above.Given as goal

-- proposed from what the function passes where it calls itself
abbrev pub decreases-add_above : goal.decreases-add_above
decreases-add_above l = length l.key.now
