use Rattle.text_and_lists.proofs.Tree.{len_made}
use Rattle.std.proofs.Common.{ap, sym, ◌∙◌}
use Rattle.std.specs.Cmp.{nat_cmp_total}
use Rattle.std.specs.FinMap as fin
use Rattle.multipart.proofs.tables.Lives.count.Goals as goal

pub returns : goal.returns
returns c =
    c.len.ensures.len ∙ sym (len_made nat_cmp_total c.self.inside.held.entries c.len.ensures.ordered) ∙ ap fin.len c.self.view_is
