use Rattle.std.proofs.Common.{Err, ap, ◌∙◌}
use Rattle.durable_store.proofs.Found.{found_nothing, found_held, found_bad, found_large}
use Rattle.durable_store.proofs.shelf_state.load.Goals as goal

pub returns-in-Ok-None-clause-exact : goal.returns-in-Ok-None-clause-exact
returns-in-Ok-None-clause-exact g c s e =
    let loaded = rw c.in-Ok-None.field-0-is at c.in-Ok-None.ensures.loaded in
    found_nothing (g.F.Shelf.sight.held c.args.shelf.now) s loaded e

pub returns-in-Ok-clause-exact : goal.returns-in-Ok-clause-exact
returns-in-Ok-clause-exact g c s e =
    let loaded = rw c.in-Ok-Some.field-0-is at c.in-Ok-Some.ensures.loaded in
    c.in-Ok.ensures.exact ∙ found_held (g.F.Shelf.sight.held c.args.shelf.now) c.in-Ok-Some.kept s loaded e

pub returns-in-Err-TooLarge-clause-exact : goal.returns-in-Err-TooLarge-clause-exact
returns-in-Err-TooLarge-clause-exact g c s e =
    found_large (g.F.Shelf.sight.held c.args.shelf.now) s (c.in-Err-TooLarge.ensures.large (ap Err c.in-Err-TooLarge.field-0-is)) e

pub returns-in-Err-BadLog-clause-exact : goal.returns-in-Err-BadLog-clause-exact
returns-in-Err-BadLog-clause-exact g c s e =
    let bad = rw c.in-Err-BadLog.field-0-is at c.in-Err-BadLog.ensures.bad in
    rw c.in-Err-BadLog.field-0-is (found_bad (g.F.Shelf.sight.held c.args.shelf.now) c.in-Err-BadLog.place s bad e)
