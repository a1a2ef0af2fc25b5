use Rattle.text_and_lists.proofs.Tree.{get_made, made_remove}
use Rattle.std.proofs.Common.{ap, sym, ◌∙◌}
use Rattle.std.proofs.lemmas.Map.Lookups.{exact_unsigned}
use Rattle.std.specs.Cmp.{nat_cmp_total}
use Rattle.std.specs.FinMap as fin
use Rattle.multipart.proofs.tables.Lives.remove.Goals as goal

pub returns-clause-value : goal.returns-clause-value
returns-clause-value c =
    c.remove.ensures.value ∙ sym (get_made nat_cmp_total c.self.inside.held.entries c.args.upload) ∙ ap (λ m. fin.get m c.args.upload)
    c.self.view_is

pub returns-clause-removed : goal.returns-clause-removed
returns-clause-removed c =
    made_remove nat_cmp_total exact_unsigned c.self.inside.held.entries c.remove.new.self.entries c.args.upload c.remove.ensures.updates.0
    ∙ ap (λ m. fin.remove m c.args.upload) c.self.view_is
