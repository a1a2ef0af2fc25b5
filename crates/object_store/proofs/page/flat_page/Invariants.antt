use Rattle.object_store.specs.inner.Flat.{Follows, below}
use Rattle.object_store.specs.inner.Held.{AreOwn}
use Rattle.std.proofs.Common.{length, ◌++◌, ◌≡◌, ◌≤◌}
use Rattle.object_store.proofs.page.flat_page.Given as goal

-- The entries so far and those that are left are all.
abbrev pub invariant-loop-text : goal.invariant-loop-text
invariant-loop-text l = record {
  told : l.entries.items ++ below l.prefix l.rest ≡ below l.prefix l.fn.rest;
  follows : Follows l.prefix l.rest;
  own : AreOwn l.rest;
  fits : length l.entries.items ≤ l.limit;
}

abbrev pub decreases-loop-text : goal.decreases-loop-text
decreases-loop-text l = length l.rest
