use Rattle.conflict.proofs.SamePartitions.{partitions_of_ordered}
use Rattle.conflict.proofs.laws.partitions_tell.Goals as goal

pub returns : goal.returns
returns c = record { ordered = partitions_of_ordered }
