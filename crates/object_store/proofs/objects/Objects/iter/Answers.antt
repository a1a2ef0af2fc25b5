use Rattle.text_and_lists.proofs.Viewed.{entries_viewed}
use Rattle.text_and_lists.specs.Order.{text_total}
use Rattle.object_store.proofs.Own.{own_contents}
use Rattle.object_store.specs.Held.{lent}
use Rattle.object_store.specs.declared.objects.Held.{Held}
use Rattle.std.proofs.Common.{ap, sym, ◌∙◌}
use Rattle.std.specs.FinMap as map
use Rattle.object_store.proofs.objects.Objects.iter.Goals as goal

pub returns : goal.returns
returns c =
    c.new.ensures ∙ ap lent c.iter.ensures.rest ∙ own_contents c.self.inside.held.entries c.self.invariant
    ∙ sym (entries_viewed (λ (h : Held). h.object) text_total c.self.inside.held.entries c.iter.ensures.ordered) ∙ ap map.entries
    c.self.view_is
