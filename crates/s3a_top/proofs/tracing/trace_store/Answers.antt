use Rattle.s3a_top.proofs.Obeying.{reason_of, wanting_reason}
use Rattle.s3a_top.proofs.Showing.{shown_counts}
use Rattle.s3a_top.proofs.Telling.{counted_bytes, counted_none}
use Rattle.s3a_top.specs.inner.Tracings.{AnswerShown}
use Rattle.s3a_top.specs.declared.stop.Stop.TheVariants.{NoMemory}
use Rattle.std.proofs.Common.{List, refl, subst, sym, ℕ}
use Rattle.s3a_top.proofs.tracing.trace_store.Goals as goal

pub returns-in-Err-clause-shows : goal.returns-in-Err-clause-shows
returns-in-Err-clause-shows g c told found =
    reason_of c.in-Err.stop c.args.asked.command.now told c.args.held (g.Q.Source.left c.args.input.now)
    (g.Q.Source.left c.read_bytes.new.input) found c.in-Err.ensures.stop

pub returns-in-Err-clause-counted : goal.returns-in-Err-clause-counted
returns-in-Err-clause-counted g c n =
    counted_bytes (List ℕ) c.in-Err.stop c.args.asked.command.now c.args.held (g.Q.Source.left c.args.input.now)
    (g.Q.Source.left c.read_bytes.new.input) (g.Q.Source.faults c.args.input.now) (g.Q.Source.faults c.read_bytes.new.input) n
    c.in-Err.ensures.stop c.in-Err.ensures.counted

pub returns-in-Ok-show_store-clause-shows : goal.returns-in-Ok-show_store-clause-shows
returns-in-Ok-show_store-clause-shows g c told found = record {
  before = c.args.held;
  found = found;
  bytes = c.in-Ok.bytes;
  input = c.in-Ok.ensures.read;
  shown = subst (AnswerShown c.args.asked.command.now c.in-Ok.bytes c.args.held) (sym c.quiet.ensures.answer) c.in-Ok-show_store.ensures;
  quiet = c.quiet.ensures.quiet;
}

pub returns-in-Ok-show_store-clause-counted : goal.returns-in-Ok-show_store-clause-counted
returns-in-Ok-show_store-clause-counted g c n =
    shown_counts c.args.asked.command.now c.in-Ok.bytes c.args.held c.in-Ok-show_store.answer c.quiet.result
    (g.Q.Source.faults c.args.input.now) (g.Q.Source.faults c.read_bytes.new.input) n c.quiet.ensures.answer c.in-Ok-show_store.ensures
    c.in-Ok.ensures.counted

pub returns-in-Err-show_store-clause-shows : goal.returns-in-Err-show_store-clause-shows
returns-in-Err-show_store-clause-shows g c told found =
    let command = c.args.asked.command.now in
    let left = g.Q.Source.left c.args.input.now in
    let rest = g.Q.Source.left c.read_bytes.new.input in
    reason_of NoMemory command told c.args.held left rest found
    (wanting_reason command c.args.held left rest c.in-Ok.bytes c.in-Ok.ensures.read)

pub returns-in-Err-show_store-clause-counted : goal.returns-in-Err-show_store-clause-counted
returns-in-Err-show_store-clause-counted g c n =
    counted_none NoMemory (g.Q.Source.faults c.args.input.now) (g.Q.Source.faults c.read_bytes.new.input) n n (λ e. cc) (λ e. cc)
    c.in-Ok.ensures.counted refl
