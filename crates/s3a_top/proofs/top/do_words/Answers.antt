use Rattle.s3a_top.proofs.Coming.{comes_of, usage_comes, wanting_comes}
use Rattle.s3a_top.proofs.top.do_words.Goals as goal

pub returns-in-Ok-clause-comes : goal.returns-in-Ok-clause-comes
returns-in-Ok-clause-comes g c =
    comes_of g.F.Shelf.sight _ (g.Q.Source.left c.args.input.now) (g.Q.Source.left c.do_command-done.new.input) c.args.shelf.now
    c.do_command-done.new.shelf (g.Q.Source.faults c.args.input.now) (g.Q.Source.faults c.do_command-done.new.input)
    (g.F.Shelf.faults c.args.shelf.now)
    (g.F.Shelf.faults c.do_command-done.new.shelf) c.in-Ok.command c.do_command-done.result c.answered.result c.in-Ok.ensures.exact
    c.do_command-done.ensures.goes c.do_command-done.ensures.counted c.answered.ensures

pub returns-in-Err-Usage-clause-comes : goal.returns-in-Err-Usage-clause-comes
returns-in-Err-Usage-clause-comes g c =
    let none = rw c.in-Err-Usage.field-0-is at c.in-Err-Usage.ensures.exact in
    usage_comes g.F.Shelf.sight _ (g.Q.Source.left c.args.input.now) c.args.shelf.now (g.Q.Source.faults c.args.input.now)
    (g.F.Shelf.faults c.args.shelf.now) c.stopped.result none c.stopped.ensures

pub returns-in-Err-NoMemory-clause-comes : goal.returns-in-Err-NoMemory-clause-comes
returns-in-Err-NoMemory-clause-comes g c =
    wanting_comes g.F.Shelf.sight _ (g.Q.Source.left c.args.input.now) c.args.shelf.now (g.Q.Source.faults c.args.input.now)
    (g.F.Shelf.faults c.args.shelf.now) c.stopped-in-Err-NoMemory.result g.met.F.Shelf.timed c.stopped-in-Err-NoMemory.ensures
