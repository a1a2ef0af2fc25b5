use Rattle.durable_store.proofs.Keeping.{saved_answer}
use Rattle.durable_store.specs.Outcomes.{IsAnswer}
use Rattle.durable_store.specs.inner.Outcomes.{text_at}
use Rattle.durable_store.specs.Works.{Saves}
use Rattle.exit_status.specs.declared.statuses.Status.{Status}
use Rattle.std.proofs.Common.{List, Option, subst, sym, ℕ}
use Rattle.durable_store.proofs.answers.keep.Goals as goal

pub returns-clause-answer : goal.returns-clause-answer
returns-clause-answer g c =
    let c0 = c.args.opening.now in
    let es = c.args.sent.entries in
    let text = c.args.text in
    subst (λ (t : Option (List ℕ)). IsAnswer (Saves c0 text es) c.status_of-due.result t es) (sym c.text_at.ensures)
    (subst (λ (s : Status). IsAnswer (Saves c0 text es) s (text_at s text) es) (sym c.status_of-due.ensures)
    (saved_answer c.save.result c0 text es))
