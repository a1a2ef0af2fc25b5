use Rattle.list_walk.specs.Fitting.{AreKeys}
use Rattle.list_walk.specs.Walks.{keys_on}
use Rattle.std.proofs.Common.{drop, ◌++◌, ◌≡◌}
use Rattle.list_walk.proofs.key_walk.keys_in.Given as goal

-- The keys so far and those that are left are all.
abbrev pub invariant-loop-entry : goal.invariant-loop-entry
invariant-loop-entry l = record {
  told : l.keys ++ keys_on (drop l.entry-index l.entries) ≡ keys_on l.entries;
  fit : AreKeys (drop l.entry-index l.entries);
}
