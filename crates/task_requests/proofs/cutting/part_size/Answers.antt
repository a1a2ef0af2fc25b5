use Rattle.s3_types.specs.Blocks.{block_of}
use Rattle.std.proofs.Common.{arith}
use Rattle.std.proofs.lemmas.Grind.{common_steps}
use Rattle.task_requests.proofs.cutting.part_size.Goals as goal

pub returns : goal.returns
unfolding block_of
returns c = grind (arith, common_steps)
