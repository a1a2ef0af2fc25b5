use Rattle.text_and_lists.proofs.Tree.{made_insert}
use Rattle.multipart.proofs.Keyed.{exact_refs, refs_total}
use Rattle.std.proofs.Common.{ap, ◌∙◌}
use Rattle.std.specs.FinMap as fin
use Rattle.multipart.proofs.tables.Index.insert.Goals as goal

pub returns-clause-ok : goal.returns-clause-ok
returns-clause-ok c =
    made_insert refs_total exact_refs c.self.inside.held.entries c.insert.new.self.entries c.args.place c.args.key
    c.in_ok-insert.ensures.updates.0
    ∙ ap (λ m. fin.insert m c.args.place c.args.key) c.self.view_is
