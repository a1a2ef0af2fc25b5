use Rattle.block_stream.proofs.Invariant.{part_in}
use Rattle.block_stream.specs.Stream.{parted, settled, stage}
use Rattle.std.proofs.Common.{ap, ◌∙◌}
use Rattle.block_stream.proofs.stream.BlockStream.part.Goals as goal

pub invariant_of-self : goal.invariant_of-self
invariant_of-self c =
    let s = c.self.inside in
    (part_in s.output.mode s.output.bucket s.output.key s.output.block s.queue s.rest.items s.upload s.tags s.count s.closed s.end s.asked
    c.put.new.place c.args.tag (c.in-Ok.asked, c.in-Ok.end) c.drop_first.new.self c.advance.new.tags
    c.self.invariant (ap stage c.self.view_is ∙ c.requires) c.drop_first.ensures c.in-Ok.ensures.tags c.put.ensures c.in-Ok.ensures.next).1

pub returns-in-Ok-clause-ok : goal.returns-in-Ok-clause-ok
returns-in-Ok-clause-ok c =
    let s = c.self.inside in
    (part_in s.output.mode s.output.bucket s.output.key s.output.block s.queue s.rest.items s.upload s.tags s.count s.closed s.end s.asked
    c.put.new.place c.args.tag (c.in-Ok.asked, c.in-Ok.end) c.drop_first.new.self c.advance.new.tags
    c.self.invariant (ap stage c.self.view_is ∙ c.requires) c.drop_first.ensures c.in-Ok.ensures.tags c.put.ensures c.in-Ok.ensures.next).0
    ∙ ap (λ m. settled (parted m c.args.tag)) c.self.view_is
