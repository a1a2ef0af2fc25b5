use Rattle.journal_log.specs.Changes.{content_after}
use Rattle.journal_log.specs.Made.{IsMade}
use Rattle.std.proofs.Common.{drop, ◌≡◌}
use Rattle.std.specs.List.{AllByRecursion}
use Rattle.durable_store.proofs.folding.follow_all.Given as goal

abbrev pub invariant-loop-change : goal.invariant-loop-change
invariant-loop-change l = record {
  after : content_after l.service (drop l.change-index l.changes) ≡ content_after l.fn.service l.changes;
  made : AllByRecursion IsMade (drop l.change-index l.changes) → AllByRecursion IsMade l.changes;
}
