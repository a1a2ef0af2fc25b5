use Rattle.std.proofs.Common.{length, true, ◌++◌, ◌-◌, ◌≡◌, ◌≤◌}
use Rattle.store_frame.specs.inner.Walk.{walked}
use Rattle.std.specs.FinMap as map
use Rattle.object_store.proofs.objects.Objects.walk.Given as goal

-- The entries so far and those after the last of them are all.
abbrev pub invariant-loop-last : goal.invariant-loop-last
invariant-loop-last l = record {
  told : l.entries.items ++ walked l.prefix true l.last (map.entries l.self) ≡ walked l.prefix true l.after (map.entries l.self);
  fits : length l.entries.items ≤ l.limit;
}

abbrev pub decreases-loop-last : goal.decreases-loop-last
decreases-loop-last l = l.limit - length l.entries.items
