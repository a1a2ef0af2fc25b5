use Rattle.std.proofs.Common.{subst, sym}
use Rattle.task_magic.proofs.Committed.{keeps_sent}
use Rattle.task_magic.specs.Committing.{Keeps}
use Rattle.task_magic.proofs.committing.CommittingTaskStateTheCommit.wear.Goals as goal

pub returns-clause-keeps : goal.returns-clause-keeps
returns-clause-keeps c =
    let h = c.args.self.now in
    subst (Keeps c.tell_sent.new.plan) (sym c.finish.ensures) (keeps_sent c.args.plan.now c.tell_sent.new.plan c.publishes.result h.places
    h.records h.at c.tell_sent.ensures c.requires.keeps)
