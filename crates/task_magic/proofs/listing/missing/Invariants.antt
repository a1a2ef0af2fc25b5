use Rattle.std.proofs.Common.{drop, length, map, ◌≡◌, ◌≤◌}
use Rattle.task_magic.specs.Committing.{record_of}
use Rattle.task_magic.specs.inner.Committing.{least_unseen}
use Rattle.task_magic.proofs.listing.missing.Given as goal

abbrev pub invariant-loop-left : goal.invariant-loop-left
invariant-loop-left l = record {
  within : l.left ≤ length l.seen;
  least : l.least ≡ least_unseen (drop l.left l.seen) (drop l.left (map (record_of l.plan) l.plan.files));
}

abbrev pub decreases-loop-left : goal.decreases-loop-left
decreases-loop-left l = l.left
