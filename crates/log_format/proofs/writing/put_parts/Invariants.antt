use Rattle.log_format.specs.Change.{IsNamed}
use Rattle.log_format.specs.Log.{counted, named}
use Rattle.std.proofs.Common.{drop, ◌++◌, ◌≡◌}
use Rattle.std.specs.List.{AllByRecursion, flat_map}
use Rattle.log_format.proofs.writing.put_parts.Given as goal

abbrev pub invariant-loop-part : goal.invariant-loop-part
invariant-loop-part l = record {
  so_far : l.out.items ++ flat_map named (drop l.part-index l.parts) ≡ l.fn.out.items ++ counted named l.parts;
  legal : AllByRecursion IsNamed (drop l.part-index l.parts) → AllByRecursion IsNamed l.parts;
}
