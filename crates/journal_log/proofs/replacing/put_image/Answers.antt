use Rattle.std.proofs.Common.{◌∙◌}
use Rattle.journal_log.proofs.Replaces.{replaced}
use Rattle.journal_log.proofs.replacing.put_image.Goals as goal

pub returns-in-Ok-replace-clause-ok : goal.returns-in-Ok-replace-clause-ok
returns-in-Ok-replace-clause-ok g c =
    let e = c.in-Ok-replace.ensures in
    replaced g.F.Shelf.sight c.args.shelf.now c.replace.new.self c.args.store.now c.as_slice.result.now
    (c.as_slice.ensures.value ∙ c.in-Ok.ensures) e.replaced e.durable e.any_moment e.answered
