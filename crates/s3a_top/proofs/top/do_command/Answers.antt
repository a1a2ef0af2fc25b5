use Rattle.durable_store.specs.declared.shelf_state.ShelfState.{ShelfState}
use Rattle.s3a_top.proofs.Coming.{goes_job, goes_store, job_from}
use Rattle.s3a_top.proofs.Crashing.{as_found}
use Rattle.s3a_top.proofs.Halting.{load_halted}
use Rattle.s3a_top.proofs.Obeying.{load_stopped, store_from}
use Rattle.s3a_top.proofs.Telling.{counted_shelf, load_counts, reads_less}
use Rattle.s3a_top.specs.inner.Workings.{Counted, Goes}
use Rattle.s3a_top.specs.declared.stop.Stop.{Stop}
use Rattle.std.proofs.Common.{Err, refl, subst, sym, ℕ, ◌∙◌}
use Rattle.s3a_top.proofs.top.do_command.Goals as goal

pub job-requires-clause-found : goal.job-requires-clause-found
job-requires-clause-found g c = as_found (g.F.Shelf.sight.held c.load.new.shelf) c.in-Ok.held
    (λ x is. c.in-Ok.ensures.exact x (sym c.in-Ok.ensures.same ∙ is))

pub returns-then-plays-clause-goes : goal.returns-then-plays-clause-goes
returns-then-plays-clause-goes g c =
    let s = g.F.Shelf in
    let e = c.in-Ok.ensures in
    let command = c.args.asked.command.now in
    let left = g.Q.Source.left c.args.input.now in
    let rest = g.Q.Source.left c.job.new.input in
    goes_job s.sight command left rest c.job.result c.args.shelf.now c.job.new.shelf (sym c.plays.ensures ∙ c.if-plays.true)
    (job_from s.sight command left rest c.job.result g.met.F.Shelf.timed c.args.shelf.now c.load.new.shelf c.job.new.shelf e.same
    (e.answered (λ z. cc)) e.any_moment c.job.ensures.job)

pub returns-then-plays-clause-counted : goal.returns-then-plays-clause-counted
returns-then-plays-clause-counted g c =
    subst (λ (n : ℕ). Counted c.job.result (g.Q.Source.faults c.args.input.now) (g.Q.Source.faults c.job.new.input) n
    (g.F.Shelf.faults c.job.new.shelf)) c.in-Ok.ensures.counted c.job.ensures.counted

pub returns-else-plays-clause-goes : goal.returns-else-plays-clause-goes
returns-else-plays-clause-goes g c =
    let s = g.F.Shelf in
    let e = c.in-Ok.ensures in
    let command = c.args.asked.command.now in
    let left = g.Q.Source.left c.args.input.now in
    let rest = g.Q.Source.left c.commanded.new.input in
    goes_store s.sight command left rest c.commanded.result c.args.shelf.now c.commanded.new.shelf (sym c.plays.ensures ∙ c.if-plays.false)
    (store_from s.sight command left rest c.commanded.result g.met.F.Shelf.timed c.in-Ok.held c.args.shelf.now c.load.new.shelf
    c.commanded.new.shelf (as_found (s.sight.held c.args.shelf.now) c.in-Ok.held e.exact) e.sound e.same (e.answered (λ z. cc))
    e.any_moment e.durable c.commanded.ensures.store)

pub returns-else-plays-clause-counted : goal.returns-else-plays-clause-counted
returns-else-plays-clause-counted g c =
    subst (λ (n : ℕ). Counted c.commanded.result (g.Q.Source.faults c.args.input.now) (g.Q.Source.faults c.commanded.new.input) n
    (g.F.Shelf.faults c.commanded.new.shelf)) c.in-Ok.ensures.counted c.commanded.ensures.counted

pub returns-else-plays-clause-unread : goal.returns-else-plays-clause-unread
returns-else-plays-clause-unread g c e = c.commanded.ensures.unread (reads_less c.args.asked.command.now e)

pub returns-in-Err-clause-goes : goal.returns-in-Err-clause-goes
returns-in-Err-clause-goes g c =
    let s = g.F.Shelf in
    let e = c.in-Err.ensures in
    let command = c.args.asked.command.now in
    let left = g.Q.Source.left c.args.input.now in
    let old = c.args.shelf.now in
    let new = c.load.new.shelf in
    subst (λ (t : Stop). Goes s.sight command left left old new (Err t)) (sym c.of_shelf.ensures)
    (record {
      job = λ p. load_halted s.sight command left left old new c.in-Err.stop refl e.same e.any_moment e.answered e.broken;
      store = λ p. load_stopped s.sight command left left old new c.in-Err.stop refl e.same e.any_moment e.answered e.broken;
    })

pub returns-in-Err-clause-counted : goal.returns-in-Err-clause-counted
returns-in-Err-clause-counted g c =
    let i = g.Q.Source.faults c.args.input.now in
    let b = g.F.Shelf.faults c.args.shelf.now in
    let a = g.F.Shelf.faults c.load.new.shelf in
    subst (λ (t : Stop). Counted (Err t) i i b a) (sym c.of_shelf.ensures) (counted_shelf c.in-Err.stop i i b a refl
    (load_counts ShelfState c.in-Err.stop b a c.in-Err.ensures.counted))
