use Rattle.durable_store.specs.declared.shelf_state.ShelfState.{ShelfState}
use Rattle.s3a_top.proofs.Crashing.{as_found}
use Rattle.s3a_top.proofs.Halting.{load_halted}
use Rattle.s3a_top.proofs.Obeying.{load_stopped}
use Rattle.s3a_top.proofs.Showing.{job_traced, load_ended, store_traced, traces_job, traces_store}
use Rattle.s3a_top.proofs.Telling.{counted_shelf, load_counts, reads_less}
use Rattle.s3a_top.specs.inner.Tracings.{Traces}
use Rattle.s3a_top.specs.inner.Workings.{Counted}
use Rattle.s3a_top.specs.declared.stop.Stop.{Stop}
use Rattle.std.proofs.Common.{Err, inr, refl, subst, sym, ℕ, ◌∙◌}
use Rattle.s3a_top.proofs.tracing.trace_command.Goals as goal

pub returns-then-plays-clause-traces : goal.returns-then-plays-clause-traces
returns-then-plays-clause-traces g c =
    let s = g.F.Shelf.sight in
    let e = c.in-Ok.ensures in
    let command = c.args.asked.command.now in
    let left = g.Q.Source.left c.args.input.now in
    let rest = g.Q.Source.left c.trace_job.new.input in
    let old = c.args.shelf.now in
    let new = c.load.new.shelf in
    let loaded = e.answered (λ z. cc) in
    let shows = c.trace_job.ensures.shows (s.held old) (as_found (s.held old) c.in-Ok.held e.exact) in
    traces_job s command left rest old new c.trace_job.result (sym c.plays.ensures ∙ c.if-plays.true) (inr (inr loaded))
    (job_traced s command left rest old new c.trace_job.result e.same loaded e.any_moment shows)

pub returns-then-plays-clause-counted : goal.returns-then-plays-clause-counted
returns-then-plays-clause-counted g c =
    let a = g.F.Shelf.faults c.load.new.shelf in
    subst (λ (n : ℕ). Counted c.trace_job.result (g.Q.Source.faults c.args.input.now) (g.Q.Source.faults c.trace_job.new.input) n a)
    c.in-Ok.ensures.counted (c.trace_job.ensures.counted a)

pub returns-else-plays-clause-traces : goal.returns-else-plays-clause-traces
returns-else-plays-clause-traces g c =
    let s = g.F.Shelf.sight in
    let e = c.in-Ok.ensures in
    let command = c.args.asked.command.now in
    let left = g.Q.Source.left c.args.input.now in
    let rest = g.Q.Source.left c.trace_store.new.input in
    let old = c.args.shelf.now in
    let new = c.load.new.shelf in
    let loaded = e.answered (λ z. cc) in
    let shows = c.trace_store.ensures.shows (s.held old) (as_found (s.held old) c.in-Ok.held e.exact) in
    traces_store s command left rest old new c.trace_store.result (sym c.plays.ensures ∙ c.if-plays.false) (inr (inr loaded))
    (store_traced s command left rest old new c.trace_store.result e.same loaded e.any_moment shows)

pub returns-else-plays-clause-counted : goal.returns-else-plays-clause-counted
returns-else-plays-clause-counted g c =
    let a = g.F.Shelf.faults c.load.new.shelf in
    subst (λ (n : ℕ). Counted c.trace_store.result (g.Q.Source.faults c.args.input.now) (g.Q.Source.faults c.trace_store.new.input) n a)
    c.in-Ok.ensures.counted (c.trace_store.ensures.counted a)

pub returns-else-plays-clause-unread : goal.returns-else-plays-clause-unread
returns-else-plays-clause-unread g c e = c.trace_store.ensures.unread (reads_less c.args.asked.command.now e)

pub returns-in-Err-clause-traces : goal.returns-in-Err-clause-traces
returns-in-Err-clause-traces g c =
    let s = g.F.Shelf.sight in
    let e = c.in-Err.ensures in
    let command = c.args.asked.command.now in
    let left = g.Q.Source.left c.args.input.now in
    let old = c.args.shelf.now in
    let new = c.load.new.shelf in
    subst (λ (t : Stop). Traces s command left left old new (Err t)) (sym c.of_shelf.ensures)
    (record {
      job = λ p. load_halted s command left left old new c.in-Err.stop refl e.same e.any_moment e.answered e.broken;
      store = λ p. load_stopped s command left left old new c.in-Err.stop refl e.same e.any_moment e.answered e.broken;
      loaded = load_ended s old new c.in-Err.stop e.answered e.broken;
    })

pub returns-in-Err-clause-counted : goal.returns-in-Err-clause-counted
returns-in-Err-clause-counted g c =
    let i = g.Q.Source.faults c.args.input.now in
    let b = g.F.Shelf.faults c.args.shelf.now in
    let a = g.F.Shelf.faults c.load.new.shelf in
    subst (λ (t : Stop). Counted (Err t) i i b a) (sym c.of_shelf.ensures)
    (counted_shelf c.in-Err.stop i i b a refl (load_counts ShelfState c.in-Err.stop b a c.in-Err.ensures.counted))
