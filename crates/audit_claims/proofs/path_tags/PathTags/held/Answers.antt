use Rattle.std.proofs.Common.{◌∙◌, ap, sym}
use Rattle.std.specs.FinMap as map
use Rattle.text_and_lists.specs.Order.{text_total}
use Rattle.text_and_lists.proofs.Tree.{entries_made}
use Rattle.audit_claims.proofs.path_tags.PathTags.held.Goals as goal

pub returns : goal.returns
returns c = record {
  entries = sym (entries_made text_total c.self.inside.tags.entries c.len-count.ensures.ordered) ∙ ap map.entries c.self.view_is;
}
