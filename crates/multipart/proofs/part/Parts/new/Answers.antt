use Rattle.multipart.proofs.Numbered.{numbered_none}
use Rattle.multipart.proofs.Rows.{none_sorted}
use Rattle.multipart.proofs.part.Parts.new.Goals as goal

pub invariant_of-result : goal.invariant_of-result
invariant_of-result c = (
  none_sorted c.in_ok-with_capacity.field-0.items c.in_ok-with_capacity.ensures.items,
  numbered_none c.in_ok-with_capacity.field-0.items
      c.in_ok-with_capacity.ensures.items,
)
