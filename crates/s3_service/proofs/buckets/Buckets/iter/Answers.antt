use Rattle.text_and_lists.proofs.Tree.{entries_made}
use Rattle.text_and_lists.specs.Order.{text_total}
use Rattle.std.proofs.Common.{ap, sym, ◌∙◌}
use Rattle.std.specs.FinMap as map
use Rattle.s3_service.proofs.buckets.Buckets.iter.Goals as goal

pub returns : goal.returns
returns c =
    c.iter.ensures.rest ∙ sym (entries_made text_total c.self.inside.held.entries c.iter.ensures.ordered) ∙ ap map.entries c.self.view_is
