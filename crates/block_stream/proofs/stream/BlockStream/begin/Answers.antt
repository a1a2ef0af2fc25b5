use Rattle.block_stream.proofs.Invariant.{begin_kept}
use Rattle.block_stream.specs.Stream.{stage}
use Rattle.std.proofs.Common.{ap, ◌∙◌}
use Rattle.block_stream.proofs.stream.BlockStream.begin.Goals as goal

pub invariant_of-self : goal.invariant_of-self
invariant_of-self c =
    let s = c.self.inside in
    begin_kept s.output.mode s.output.bucket s.output.key s.output.block s.queue s.rest.items s.upload s.tags s.count s.closed s.end s.asked
    c.put.new.place c.args.upload
    c.self.invariant (ap stage c.self.view_is ∙ c.requires) (c.put.ensures ∙ c.in_ok-asked.ensures)
