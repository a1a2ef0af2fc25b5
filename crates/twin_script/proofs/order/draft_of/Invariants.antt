use Rattle.text_and_lists.specs.Lines.{lines_of}
use Rattle.std.proofs.Common.{length, ◌+◌, ◌≡◌, ◌≤◌}
use Rattle.twin_script.specs.Order.{lines_at, nothing}
use Rattle.twin_script.proofs.order.draft_of.Given as goal

abbrev pub invariant-loop-rest : goal.invariant-loop-rest
invariant-loop-rest l = record {
  so_far : lines_at l.line l.draft (lines_of l.rest) ≡ lines_at 1 (nothing l.fn.first l.fn.second) (lines_of l.bytes);
  count : l.line + length l.rest ≤ 1 + length l.bytes;
}

abbrev pub decreases-loop-rest : goal.decreases-loop-rest
decreases-loop-rest l = length l.rest
