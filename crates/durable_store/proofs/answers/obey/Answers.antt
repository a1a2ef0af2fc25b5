use Rattle.durable_store.proofs.Keeping.{not_failed}
use Rattle.durable_store.specs.Outcomes.IsAnswer.{said}
use Rattle.std.proofs.Common.{refl}
use Rattle.durable_store.proofs.answers.obey.Goals as goal

pub returns-in-Says-clause-answer : goal.returns-in-Says-clause-answer
returns-in-Says-clause-answer g c = rw c.in-Says.is (said c.in-Says.answer.due c.in-Says.answer.text c.in-Says.answer.sent.entries)

pub returns-in-Says-clause-counted : goal.returns-in-Says-clause-counted
returns-in-Says-clause-counted g c =
    let plain = rw c.in-Says.is at c.requires.plain in
    record { rose = λ e. absurd (not_failed c.in-Says.answer.due plain e); stands = λ n. refl }
