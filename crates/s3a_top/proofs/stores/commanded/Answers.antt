use Rattle.durable_store.specs.Doing.{work_in}
use Rattle.durable_store.specs.Outcomes.{Tells}
use Rattle.durable_store.specs.declared.work.CommandAnswer.{CommandAnswer}
use Rattle.exit_status.specs.Statuses.{code}
use Rattle.s3a_top.proofs.Obeying.{answer_own, over_of, wanting_reason}
use Rattle.s3a_top.proofs.Telling.{counted_bytes, counted_done, counted_none}
use Rattle.s3a_top.specs.inner.Statuses.{IsWorked}
use Rattle.s3a_top.specs.declared.stop.Stop.TheVariants.{NoMemory}
use Rattle.std.proofs.Common.{List, refl, subst, sym, ℕ}
use Rattle.s3a_top.proofs.stores.commanded.Goals as goal

pub returns-in-Err-clause-store : goal.returns-in-Err-clause-store
returns-in-Err-clause-store g c = (c.in-Err.ensures.stop, refl)

pub returns-in-Err-clause-counted : goal.returns-in-Err-clause-counted
returns-in-Err-clause-counted g c =
    counted_bytes (List ℕ) c.in-Err.stop c.args.asked.command.now c.args.held (g.Q.Source.left c.args.input.now)
    (g.Q.Source.left c.read_bytes.new.input) (g.Q.Source.faults c.args.input.now) (g.Q.Source.faults c.read_bytes.new.input)
    (g.F.Shelf.faults c.args.shelf.now) c.in-Err.ensures.stop c.in-Err.ensures.counted

pub returns-in-Ok-work_of-clause-store : goal.returns-in-Ok-work_of-clause-store
returns-in-Ok-work_of-clause-store g c =
    let e = c.obey.ensures in
    over_of g.F.Shelf.sight c.args.asked.command.now c.args.held (g.Q.Source.left c.args.input.now) (g.Q.Source.left c.read_bytes.new.input)
    c.in-Ok.bytes (work_in c.in-Ok-work_of.work) c.args.shelf.now c.obey.new.shelf c.obey.result c.quiet.result
    c.in-Ok.ensures.read c.in-Ok-work_of.ensures.work e.answer e.held e.any_moment e.durable e.images e.calls c.quiet.ensures.answer
    c.quiet.ensures.quiet

pub returns-in-Ok-work_of-clause-counted : goal.returns-in-Ok-work_of-clause-counted
returns-in-Ok-work_of-clause-counted g c =
    let b = g.F.Shelf.faults c.args.shelf.now in
    let a = g.F.Shelf.faults c.obey.new.shelf in
    let answer = c.obey.result in
    counted_done c.quiet.result (g.Q.Source.faults c.args.input.now) (g.Q.Source.faults c.read_bytes.new.input) b a
    (subst (λ (x : CommandAnswer). IsWorked x.due) (sym c.quiet.ensures.answer)
    (answer_own (work_in c.in-Ok-work_of.work) answer.due answer.text
    answer.sent.entries c.obey.ensures.answer c.in-Ok-work_of.ensures.plain)) c.in-Ok.ensures.counted
    (subst (λ (x : CommandAnswer). Tells 5 (code x.due) b a) (sym c.quiet.ensures.answer) c.obey.ensures.counted)

pub returns-in-Err-work_of-clause-store : goal.returns-in-Err-work_of-clause-store
returns-in-Err-work_of-clause-store g c = (
  wanting_reason c.args.asked.command.now c.args.held (g.Q.Source.left c.args.input.now) (g.Q.Source.left c.read_bytes.new.input)
      c.in-Ok.bytes c.in-Ok.ensures.read,
  refl,
)

pub returns-in-Err-work_of-clause-counted : goal.returns-in-Err-work_of-clause-counted
returns-in-Err-work_of-clause-counted g c =
    let n = g.F.Shelf.faults c.args.shelf.now in
    counted_none NoMemory (g.Q.Source.faults c.args.input.now) (g.Q.Source.faults c.read_bytes.new.input) n n (λ e. cc) (λ e. cc)
    c.in-Ok.ensures.counted refl
