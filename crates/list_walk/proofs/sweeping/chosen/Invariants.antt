use Rattle.list_walk.specs.Fitting.{AreKeys}
use Rattle.list_walk.specs.Walks.{keys_on}
use Rattle.std.proofs.Common.{drop, ◌++◌, ◌≡◌}
use Rattle.std.specs.List.{filter}
use Rattle.list_walk.proofs.sweeping.chosen.Given as goal

-- The keys so far and those that are left are all.
abbrev pub invariant-loop-entry : goal.invariant-loop-entry
invariant-loop-entry g l = record {
  told : l.chosen ++ filter (g.T.KeyTest.goes l.test) (keys_on (drop l.entry-index l.entries)) ≡ filter (g.T.KeyTest.goes l.test)
      (keys_on l.entries);
  fit : AreKeys (drop l.entry-index l.entries);
}
