use Rattle.block_stream.proofs.Written.{start_holds}
use Rattle.block_stream.proofs.stream.BlockStream.start.Goals as goal

pub returns-clause-holds : goal.returns-clause-holds
returns-clause-holds x = λ s c there least.
    start_holds x.args.mode x.args.bucket x.args.key x.args.block x.new-queue.result x.new-rest.result.items x.new-tags.result
    x.new-queue.ensures x.new-rest.ensures.items x.new-tags.ensures s c x.requires there least
