use Rattle.std.proofs.Common.{◌<◌, ◌∙◌, length, arith}
use Rattle.folder_log.proofs.Choices.{fill_next}
use Rattle.folder_log.proofs.state.torn_file.Goals as goal

pub loop-range-preserved : goal.loop-range-preserved
loop-range-preserved c =
    let below : c.loop-range.range-index < length c.args.ranges.now = omega arith in
    fill_next c.args.byte c.args.ranges.now c.loop-range.range-index _ c.loop-range.torn c.in_ok-torn-2.torn c.deref.result.now below
    c.in_ok-torn-2.ensures (c.deref.ensures.value ∙ c.in_ok-bytes.ensures.items_if_clones_equal (λ y is. is)) ∙ c.loop-range.invariant
