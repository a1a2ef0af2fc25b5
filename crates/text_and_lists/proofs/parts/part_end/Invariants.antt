use Rattle.text_and_lists.specs.Parts.{is_other}
use Rattle.std.proofs.Common.{take, true, ◌≡◌}
use Rattle.std.specs.List.{list_all}
use Rattle.text_and_lists.proofs.parts.part_end.Given as goal

abbrev pub invariant-loop-i : goal.invariant-loop-i
invariant-loop-i l = list_all (is_other l.separator) (take l.i l.text) ≡ true
