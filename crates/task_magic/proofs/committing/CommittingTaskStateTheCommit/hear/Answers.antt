use Rattle.task_magic.proofs.Committed.{keeps_sent, told_as, next_as}
use Rattle.task_magic.proofs.committing.CommittingTaskStateTheCommit.hear.Goals as goal

pub returns-in-Ok-clause-told : goal.returns-in-Ok-clause-told
returns-in-Ok-clause-told c = told_as c.args.plan.now c.tell_sent.new.plan c.args.self.now c.go_on.new.self c.args.reply.now
    c.publishes-publishes.result c.tell_sent.ensures c.publishes-publishes.ensures c.in_ok-go_on.ensures.goes c.args.repeated

pub returns-in-Ok-clause-next : goal.returns-in-Ok-clause-next
returns-in-Ok-clause-next c = next_as c.args.plan.now c.tell_sent.new.plan c.go_on.new.self c.publishes-publishes.result c.in-Ok.next
    c.tell_sent.ensures c.in-Ok.ensures

pub returns-in-Ok-clause-keeps : goal.returns-in-Ok-clause-keeps
returns-in-Ok-clause-keeps c = keeps_sent c.args.plan.now c.tell_sent.new.plan c.publishes-publishes.result c.go_on.new.self.places
    c.go_on.new.self.records c.go_on.new.self.at c.tell_sent.ensures c.in_ok-go_on.ensures.keeps
