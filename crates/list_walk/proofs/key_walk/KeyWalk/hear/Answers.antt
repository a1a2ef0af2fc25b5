use Rattle.std.proofs.Common.{sym}
use Rattle.list_walk.proofs.Keys.{heard_keys}
use Rattle.list_walk.proofs.key_walk.KeyWalk.hear.Goals as goal

pub returns-clause-keys : goal.returns-clause-keys
returns-clause-keys c = rw (sym c.self.view_is) (heard_keys c.self.inside.entries c.add_page.new.found c.args.reply.now c.add_page.result
    c.add_page.ensures.added)
