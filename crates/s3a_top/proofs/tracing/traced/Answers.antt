use Rattle.s3a_top.proofs.Showing.{shows_of, usage_shows, wanting_shows}
use Rattle.s3a_top.proofs.tracing.traced.Goals as goal

pub returns-in-Ok-clause-shows : goal.returns-in-Ok-clause-shows
returns-in-Ok-clause-shows g c =
    let new = c.trace_command-done.new in
    shows_of g.F.Shelf.sight _ (g.Q.Source.left c.args.input.now) (g.Q.Source.left new.input) c.args.shelf.now new.shelf
    (g.Q.Source.faults c.args.input.now) (g.Q.Source.faults new.input) (g.F.Shelf.faults c.args.shelf.now) (g.F.Shelf.faults new.shelf)
    c.in-Ok.command c.trace_command-done.result c.answered.result c.in-Ok.ensures.exact c.trace_command-done.ensures.traces
    c.trace_command-done.ensures.counted c.answered.ensures

pub returns-in-Err-Usage-clause-shows : goal.returns-in-Err-Usage-clause-shows
returns-in-Err-Usage-clause-shows g c =
    let none = rw c.in-Err-Usage.field-0-is at c.in-Err-Usage.ensures.exact in
    usage_shows g.F.Shelf.sight _ (g.Q.Source.left c.args.input.now) c.args.shelf.now (g.Q.Source.faults c.args.input.now)
    (g.F.Shelf.faults c.args.shelf.now) c.stopped.result none c.stopped.ensures

pub returns-in-Err-NoMemory-clause-shows : goal.returns-in-Err-NoMemory-clause-shows
returns-in-Err-NoMemory-clause-shows g c =
    wanting_shows g.F.Shelf.sight _ (g.Q.Source.left c.args.input.now) c.args.shelf.now (g.Q.Source.faults c.args.input.now)
    (g.F.Shelf.faults c.args.shelf.now) c.stopped-in-Err-NoMemory.result g.met.F.Shelf.timed c.stopped-in-Err-NoMemory.ensures
