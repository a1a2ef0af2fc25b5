use Rattle.job_protocol.specs.Conflicts.{partitions}
use Rattle.std.proofs.Common.{drop, length, ◌≡◌, ◌≤◌}
use Rattle.conflict.proofs.dirs.ordered_dirs.Given as goal

abbrev pub invariant-loop-n : goal.invariant-loop-n
invariant-loop-n l = (l.n ≤ length l.paths) × (l.dirs.keys ≡ partitions (drop l.n l.paths))

abbrev pub decreases-loop-n : goal.decreases-loop-n
decreases-loop-n l = l.n
