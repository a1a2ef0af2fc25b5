use Rattle.block_stream.proofs.Written.{holds_written, asked_written}
use Rattle.block_stream.proofs.stream.BlockStream.write.Goals as goal

pub returns-in-Ok-clause-holds : goal.returns-in-Ok-clause-holds
returns-in-Ok-clause-holds c = holds_written c.args.self.now c.add.new.self c.args.piece.now c.requires c.in-Ok.ensures.ok
    c.in-Ok.ensures.few

pub returns-in-Ok-clause-asked : goal.returns-in-Ok-clause-asked
returns-in-Ok-clause-asked c = asked_written c.args.self.now c.add.new.self c.args.piece.now c.requires c.in-Ok.ensures.ok
