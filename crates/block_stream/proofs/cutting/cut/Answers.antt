use Rattle.std.proofs.Common.{◌-◌, ap, ◌∙◌}
use Rattle.block_stream.proofs.Blocks.{turn}
use Rattle.block_stream.proofs.cutting.cut.Goals as goal

pub filling-preserved : goal.filling-preserved
filling-preserved c =
    let l = c.filling in
    let i = l.invariant in
    turn c.args.block (c.args.block - c.len.result) c.filling.queue c.push.new.self l.rest.items l.left.now c.split_at.result.0.now
    c.split_at.result.1.now c.in_ok-new.field-0 c.new-rest.result.items _
    i.0 i.1 i.2 (ap (λ k. c.args.block - k) (c.len.ensures ∙ l.rest.ok.0)) c.split_at.ensures.front c.split_at.ensures.back
    c.split_at.ensures.front_len
    (c.in_ok-new.ensures ∙ c.in_ok-extend_from_slice-2.ensures.items) c.in_ok-push.ensures.ok c.new-rest.ensures.items
