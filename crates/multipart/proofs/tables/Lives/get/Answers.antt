use Rattle.text_and_lists.proofs.Tree.{get_made}
use Rattle.std.proofs.Common.{ap, sym, ◌∙◌}
use Rattle.std.specs.Cmp.{nat_cmp_total}
use Rattle.std.specs.FinMap as fin
use Rattle.multipart.proofs.tables.Lives.get.Goals as goal

pub returns : goal.returns
returns c =
    c.get.ensures.value ∙ sym (get_made nat_cmp_total c.self.inside.held.entries c.args.upload) ∙ ap (λ m. fin.get m c.args.upload)
    c.self.view_is
