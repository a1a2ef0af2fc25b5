use Rattle.std.proofs.Common.{◌∙◌, sym}
use Rattle.twin_script.proofs.OrderLines.{at_end}
use Rattle.twin_script.proofs.order.draft_of.Goals as goal

pub returns : goal.returns
returns c = record {
  exact = sym c.loop-rest.invariant.so_far ∙ at_end c.loop-rest.line c.loop-rest.draft c.loop-rest.rest.now
      c.is_empty.ensures c.loop-rest-test.false;
  told = tt;
}
