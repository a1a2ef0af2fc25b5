use Rattle.text_and_lists.proofs.Viewed.{len_viewed}
use Rattle.text_and_lists.specs.Order.{text_total}
use Rattle.object_store.specs.declared.objects.Held.{Held}
use Rattle.std.proofs.Common.{ap, sym, ◌∙◌}
use Rattle.std.specs.FinMap as map
use Rattle.object_store.proofs.objects.Objects.count.Goals as goal

pub returns : goal.returns
returns c =
    c.len.ensures.len ∙ sym (len_viewed (λ (h : Held). h.object) text_total c.self.inside.held.entries c.len.ensures.ordered) ∙ ap map.len
    c.self.view_is
