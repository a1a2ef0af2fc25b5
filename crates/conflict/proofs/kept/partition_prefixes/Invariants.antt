use Rattle.job_protocol.specs.Conflicts.{prefix_below}
use Rattle.std.proofs.Common.{map, take, ◌≡◌}
use Rattle.conflict.proofs.kept.partition_prefixes.Given as goal

abbrev pub invariant-loop-partition : goal.invariant-loop-partition
invariant-loop-partition l = l.prefixes ≡ map (prefix_below l.dest) (take l.partition-index l.partitions)
