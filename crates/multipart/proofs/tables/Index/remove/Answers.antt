use Rattle.text_and_lists.proofs.Tree.{made_remove}
use Rattle.multipart.proofs.Keyed.{exact_refs, refs_total}
use Rattle.std.proofs.Common.{ap, ◌∙◌}
use Rattle.std.specs.FinMap as fin
use Rattle.multipart.proofs.tables.Index.remove.Goals as goal

pub returns : goal.returns
returns c =
    made_remove refs_total exact_refs c.self.inside.held.entries c.remove.new.self.entries c.args.place.now c.remove.ensures.updates.0
    ∙ ap (λ m. fin.remove m c.args.place.now) c.self.view_is
