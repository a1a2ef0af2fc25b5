use Rattle.list_walk.specs.Walks.{keys_on}
use Rattle.std.proofs.Common.{ap, refl, ◌∙◌}
use Rattle.task_magic.proofs.Committed.{page_looked}
use Rattle.task_requests.specs.Publishing.{picked}
use Rattle.task_magic.proofs.committing.Committing.hear_page.Goals as goal

pub returns-clause-goes : goal.returns-clause-goes
returns-clause-goes c = page_looked c.args.plan.now (keys_on c.args.self.now.walk) (keys_on c.hear.new.self) (keys_on c.hear.new.self)
    c.args.reply.now c.in_ok-hear.field-0 _ c.as_slice.result.now c.in_ok-hear.ensures.keys c.if-branch.false
    refl (c.as_slice.ensures.value ∙ c.in_ok-places.ensures.seen) refl
    (picked c.args.plan.now.files c.put.new.place) (keys_on c.hear.new.self) c.put-3.new.place
    (ap (picked c.args.plan.now.files) c.put.ensures ∙ c.in_ok-places.ensures.files) (c.put-3.ensures ∙ c.in_ok-end.ensures)
