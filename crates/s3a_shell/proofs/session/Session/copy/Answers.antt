use Rattle.copy_tree.specs.Public.{CopiesIn, CopySends, StandsCopied, most_copies}
use Rattle.fs_rename.specs.Between.{Route}
use Rattle.s3a_shell.proofs.Asking.{between_asked}
use Rattle.s3a_shell.proofs.Few.{between_few}
use Rattle.s3a_shell.proofs.Joining.{sent_as}
use Rattle.s3a_shell.proofs.Performing.{asked, between_if, on_ok, sent}
use Rattle.s3a_shell.specs.Moving.{route, said_of_copy}
use Rattle.std.proofs.Common.{subst}
use Rattle.s3a_shell.proofs.session.Session.copy.Goals as goal

pub returns-in-Ok-clause-did : goal.returns-in-Ok-clause-did
returns-in-Ok-clause-did c =
    let z = c.args.self.now.store.scene in
    let s = c.perform.new.store.scene in
    between_if said_of_copy c.args.from.now c.args.to.now z s c.in-Ok.answer c.copy_said.result
    (subst (λ (r : Route). CopiesIn r z c.in-Ok.answer s) c.in_ok-copy.ensures c.in-Ok.ensures.copies) c.copy_said.ensures

pub returns-in-Ok-clause-sent : goal.returns-in-Ok-clause-sent
returns-in-Ok-clause-sent c =
    let z = c.args.self.now.store.scene in
    on_ok c.copy_said.result
    (sent_as (StandsCopied c.in_ok-copy.copy z) (StandsCopied (route c.args.from.now c.args.to.now) z) _ _
    (λ s h. subst (λ (r : Route). StandsCopied r z s) c.in_ok-copy.ensures h)
    (sent _ _ _ _ _ c.requires c.in-Ok.ensures.performed))

pub returns-in-Ok-clause-asked : goal.returns-in-Ok-clause-asked
returns-in-Ok-clause-asked c =
    on_ok c.copy_said.result
    (between_asked CopySends c.args.from.now c.args.to.now c.in_ok-copy.copy c.args.self.now.store.scene _ _ c.in_ok-copy.ensures
    (asked _ _ _ _ _ c.in-Ok.ensures.performed) c.in-Ok.ensures.unsent)

pub returns-in-Ok-clause-few : goal.returns-in-Ok-clause-few
returns-in-Ok-clause-few c =
    let done = c.in-Ok.ensures.performed in
    on_ok c.copy_said.result
    (between_few most_copies c.args.from.now c.args.to.now c.in_ok-copy.copy c.args.self.now.store.scene _ _ c.in_ok-copy.ensures
    c.in-Ok.ensures.few done.part done.appended)
