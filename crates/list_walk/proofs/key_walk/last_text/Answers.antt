use Rattle.std.proofs.Common.{rules}
use Rattle.list_walk.proofs.Lasts.{last_text_is}
use Rattle.list_walk.proofs.key_walk.last_text.Goals as goal

pub returns-in-Some : goal.returns-in-Some
returns-in-Some c = rw (last_text_is c.args.entries.now c.in-Some.entry.now c.in-Some.ensures.value) (search rules)
