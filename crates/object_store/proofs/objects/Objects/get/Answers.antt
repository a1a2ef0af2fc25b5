use Rattle.text_and_lists.specs.Order.{text_cmp}
use Rattle.object_store.proofs.Own.{got}
use Rattle.std.proofs.Common.{None, Some, ap, ◌∙◌}
use Rattle.std.specs.BTreeMap.{get_by}
use Rattle.std.specs.FinMap as map
use Rattle.object_store.proofs.objects.Objects.get.Goals as goal

pub returns-in-Some : goal.returns-in-Some
returns-in-Some c =
    got c.self.inside.held.entries (Some c.in-Some.held.now) c.args.key.now (c.in-Some.ensures.value ∙ ap
    (λ k. get_by (text_cmp k) c.self.inside.held) c.as_text.ensures.text)
    ∙ ap (λ m. map.get m c.args.key.now) c.self.view_is

pub returns-in-None : goal.returns-in-None
returns-in-None c =
    got c.self.inside.held.entries None c.args.key.now (c.in-None.ensures.value ∙ ap (λ k. get_by (text_cmp k) c.self.inside.held)
    c.as_text.ensures.text)
    ∙ ap (λ m. map.get m c.args.key.now) c.self.view_is
