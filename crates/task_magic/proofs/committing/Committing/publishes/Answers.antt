use Rattle.list_walk.specs.Walks.{keys_on}
use Rattle.task_magic.proofs.Committed.{publishes_by}
use Rattle.task_magic.proofs.committing.Committing.publishes.Goals as goal

pub returns-then-not-self : goal.returns-then-not-self
returns-then-not-self c = let h = c.args.self.now in publishes_by c.args.plan.now.files h.listing (keys_on h.walk) h.places h.at
    c.len.result h.end c.in-None.is c.if-not-self.true c.len.ensures
