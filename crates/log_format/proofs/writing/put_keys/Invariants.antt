use Rattle.log_format.specs.Change.{IsKey}
use Rattle.log_format.specs.Log.{block, counted}
use Rattle.std.proofs.Common.{drop, ◌++◌, ◌≡◌}
use Rattle.std.specs.List.{AllByRecursion, flat_map}
use Rattle.log_format.proofs.writing.put_keys.Given as goal

abbrev pub invariant-loop-key : goal.invariant-loop-key
invariant-loop-key l = record {
  so_far : l.out.items ++ flat_map block (drop l.key-index l.keys) ≡ l.fn.out.items ++ counted block l.keys;
  legal : AllByRecursion IsKey (drop l.key-index l.keys) → AllByRecursion IsKey l.keys;
}
