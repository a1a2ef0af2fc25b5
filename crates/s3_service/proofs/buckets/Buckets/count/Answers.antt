use Rattle.text_and_lists.proofs.Tree.{len_made}
use Rattle.text_and_lists.specs.Order.{text_total}
use Rattle.std.proofs.Common.{ap, sym, ◌∙◌}
use Rattle.std.specs.FinMap as map
use Rattle.s3_service.proofs.buckets.Buckets.count.Goals as goal

pub returns : goal.returns
returns c =
    c.len.ensures.len ∙ sym (len_made text_total c.self.inside.held.entries c.len.ensures.ordered) ∙ ap map.len c.self.view_is
