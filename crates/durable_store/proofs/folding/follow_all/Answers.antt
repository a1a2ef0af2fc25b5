use Rattle.durable_store.proofs.Following.{high}
use Rattle.journal_log.specs.Changes.{content_after}
use Rattle.std.proofs.Common.{drop}
use Rattle.durable_store.proofs.folding.follow_all.Goals as goal

pub returns-then-not-is_few-clause-many : goal.returns-then-not-is_few-clause-many
returns-then-not-is_few-clause-many c =
    let rs = c.args.changes.now in
    λ e. high c.loop-change.service (content_after c.args.service.now rs) (drop c.loop-change.change-index rs) c.loop-change.invariant.after
    (c.is_few.ensures.no c.if-not-is_few.true)
