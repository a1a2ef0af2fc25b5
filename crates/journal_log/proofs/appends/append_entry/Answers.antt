use Rattle.journal_log.proofs.Leaving.{around, widened, started, at_first}
use Rattle.journal_log.proofs.Steps.{nothing, appended_by, stopped_by}
use Rattle.journal_log.proofs.appends.append_entry.Goals as goal

pub returns-in-Some-clause-ok : goal.returns-in-Some-clause-ok
returns-in-Some-clause-ok g c =
    rw c.in-Some.ensures.0
    (appended_by g.F.Shelf.sight c.append.result c.args.shelf.now c.append.new.self c.in-Some.change.now c.append.ensures.grown
    c.append.ensures.durable c.append.ensures.answered)

pub returns-in-Some-clause-err : goal.returns-in-Some-clause-err
returns-in-Some-clause-err g c =
    let e = c.append.ensures in
    rw c.in-Some.ensures.0 (stopped_by g.F.Shelf.sight c.append.result c.args.shelf.now c.append.new.self c.in-Some.change.now e.same
    e.one_of e.starved e.broken)

pub returns-in-Some-clause-any_moment : goal.returns-in-Some-clause-any_moment
returns-in-Some-clause-any_moment g c =
    let s = g.F.Shelf.sight in
    rw c.in-Some.ensures.0 (widened s c.args.shelf.now c.append.new.self _ _ c.append.ensures.any_moment
    (around (s.held c.args.shelf.now) c.in-Some.change.now))

pub returns-in-None-clause-ok : goal.returns-in-None-clause-ok
returns-in-None-clause-ok g c = rw c.in-None.ensures (nothing g.F.Shelf.sight c.args.shelf.now c.requires.durable)

pub returns-in-None-clause-any_moment : goal.returns-in-None-clause-any_moment
returns-in-None-clause-any_moment g c =
    let s = g.F.Shelf.sight in
    let old = c.args.shelf.now in
    rw c.in-None.ensures (started s old _ (λ h left. at_first (s.held old) (s.may_leave old) h c.requires.durable
    (g.met.F.Shelf.timed.only_now old h left)))
