use Rattle.std.proofs.Common.{◌∙◌, ap, sym}
use Rattle.std.specs.FinMap as map
use Rattle.text_and_lists.specs.Order.{text_total}
use Rattle.text_and_lists.proofs.Tree.{get_made}
use Rattle.audit_claims.proofs.path_tags.PathTags.get.Goals as goal

pub returns : goal.returns
returns c = record {
  found =
      c.get.ensures.value ∙ sym (get_made text_total c.self.inside.tags.entries c.args.path.now)
      ∙ ap (λ m. map.get m c.args.path.now) c.self.view_is;
}
