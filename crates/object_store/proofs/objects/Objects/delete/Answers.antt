use Rattle.text_and_lists.proofs.Viewed.{viewed_remove}
use Rattle.text_and_lists.specs.Order.{text_cmp, text_total}
use Rattle.object_store.proofs.Own.{own_remove}
use Rattle.object_store.specs.inner.Held.{AreOwn}
use Rattle.object_store.specs.declared.objects.Held.{Held}
use Rattle.std.proofs.Common.{subst, sym, ◌∙◌}
use Rattle.std.proofs.lemmas.Map.Lookups.{exact_bytes}
use Rattle.std.specs.BTreeMap.{is_at}
use Rattle.std.specs.FinMap as map
use Rattle.object_store.proofs.objects.Objects.delete.Goals as goal

pub invariant_of-self : goal.invariant_of-self
invariant_of-self c =
    subst AreOwn (sym c.remove.ensures.entries) (own_remove (is_at (text_cmp c.as_text.result.now)) c.self.inside.held.entries
    c.self.invariant)

pub returns : goal.returns
returns c =
    viewed_remove (λ (h : Held). h.object) text_total exact_bytes c.self.inside.held.entries c.remove.new.self.entries c.as_text.result.now
    c.remove.ensures.updates.0
    ∙ (λ i. map.remove (c.self.view_is i) (c.as_text.ensures.text i))
