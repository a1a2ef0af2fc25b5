use Rattle.text_and_lists.proofs.Tree.{entries_made}
use Rattle.std.proofs.Common.{ap, sym, ◌∙◌}
use Rattle.std.specs.Cmp.{nat_cmp_total}
use Rattle.std.specs.FinMap as fin
use Rattle.multipart.proofs.tables.Lives.iter.Goals as goal

pub returns : goal.returns
returns c =
    c.iter.ensures.rest ∙ sym (entries_made nat_cmp_total c.self.inside.held.entries c.iter.ensures.ordered) ∙ ap fin.entries c.self.view_is
