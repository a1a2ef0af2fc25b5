use Rattle.text_and_lists.proofs.Viewed.{viewed_insert}
use Rattle.text_and_lists.specs.Order.{text_total}
use Rattle.object_store.proofs.Own.{own_insert}
use Rattle.object_store.specs.inner.Held.{AreOwn}
use Rattle.object_store.specs.declared.objects.Held.{Held}
use Rattle.std.proofs.Common.{subst, sym, ◌∙◌, ◌≡◌}
use Rattle.std.proofs.lemmas.Map.Lookups.{exact_bytes}
use Rattle.std.specs.FinMap as map
use Rattle.object_store.proofs.objects.Objects.put.Goals as goal

pub invariant_of-self-2 : goal.invariant_of-self-2
invariant_of-self-2 c =
    let same : c.args.key ≡ c.in_ok-text.text = cc (c.in_ok-text.ensures.cases, c.as_text.ensures.text) in
    let held : Held = record { key = c.args.key; object = record { bytes = c.args.bytes; header = c.args.header } } in
    subst AreOwn (sym c.in_ok-insert.ensures.entries) (own_insert c.self.inside.held.entries c.in_ok-text.text held same c.self.invariant)

pub returns-clause-ok : goal.returns-clause-ok
returns-clause-ok c =
    let same : c.in_ok-text.text ≡ c.args.key = cc (c.in_ok-text.ensures.cases, c.as_text.ensures.text) in
    let held : Held = record { key = c.args.key; object = record { bytes = c.args.bytes; header = c.args.header } } in
    viewed_insert (λ (h : Held). h.object) text_total exact_bytes c.self.inside.held.entries c.insert.new.self.entries c.in_ok-text.text
    held c.in_ok-insert.ensures.updates.0
    ∙ (λ i. map.insert (c.self.view_is i) (same i) (record { bytes = c.args.bytes; header = c.args.header }))
