use Rattle.list_walk.specs.Fitting.{AreKeys}
use Rattle.std.proofs.Common.{drop, ◌++◌, ◌≡◌}
use Rattle.list_walk.proofs.key_walk.add_entries.Given as goal

-- The entries so far and those that are left are all.
abbrev pub invariant-loop-entry : goal.invariant-loop-entry
invariant-loop-entry l = record {
  told : l.found ++ drop l.entry-index l.entries ≡ l.fn.found ++ l.entries;
  keys : AreKeys l.found;
  fit : AreKeys (drop l.entry-index l.entries);
}
