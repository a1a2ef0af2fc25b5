use Rattle.list_walk.proofs.Batches.{batch_last, batch_next}
use Rattle.list_walk.specs.inner.Kept.{next_from}
use Rattle.list_walk.specs.Walks.{keys_on}
use Rattle.std.proofs.Common.{None, Some, false, length, rules, sym, ◌≡◌}
use Rattle.list_walk.proofs.sweeping.Sweep.hear.Goals as goal

pub returns-in-Some : goal.returns-in-Some
returns-in-Some g c =
    let f : c.self.inside.listing ≡ false = search rules in
    let e : next_from c.self.inside.from (length c.self.inside.keys) ≡ Some c.in-Some.from = search rules in
    rw (sym c.self.view_is) (batch_next (g.T.KeyTest.goes c.args.test.now) c.args.reply.now c.self.inside.listing
    (keys_on c.self.inside.walk) c.self.inside.keys c.self.inside.from c.in-Some.from f e)

pub returns-in-None : goal.returns-in-None
returns-in-None g c =
    let f : c.self.inside.listing ≡ false = search rules in
    let e : next_from c.self.inside.from (length c.self.inside.keys) ≡ None = search rules in
    rw (sym c.self.view_is) (batch_last (g.T.KeyTest.goes c.args.test.now) c.args.reply.now c.self.inside.listing
    (keys_on c.self.inside.walk) c.self.inside.keys c.self.inside.from f (c.self.invariant f) e)
