use Rattle.s3_types.specs.Blocks.{block_of}
use Rattle.std.proofs.Common.{arith}
use Rattle.std.proofs.lemmas.Grind.{common_steps}
use Rattle.block_stream.proofs.block.block_of.Goals as goal

pub returns : goal.returns
unfolding block_of
returns c = grind (arith, common_steps)
