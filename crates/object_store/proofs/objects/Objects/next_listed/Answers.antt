use Rattle.text_and_lists.proofs.Tree.{map_sorted}
use Rattle.text_and_lists.specs.Order.{text_cmp}
use Rattle.s3_types.specs.Pages.{begins}
use Rattle.s3_types.specs.declared.object.Object.{Object}
use Rattle.std.proofs.Common.{List, None, Some, ap, cond, false, subst, sym, true, ℕ, ◌∙◌, ◌≡◌}
use Rattle.std.specs.Option.{option_map}
use Rattle.store_frame.proofs.Walked.{found_next}
use Rattle.store_frame.specs.inner.Walk.{ComesNext}
use Rattle.std.specs.FinMap as map
use Rattle.object_store.proofs.objects.Objects.next_listed.Goals as goal

pub returns-then-starts_with : goal.returns-then-starts_with
returns-then-starts_with c =
    let below : begins c.args.prefix.now c.in-Some.key.now ≡ true = cc in
    let e : List ℕ × Object = (c.in-Some.key.now, c.in-Some.object.now) in
    subst (λ b. ComesNext c.args.prefix.now true c.args.last.now (map.entries c.args.self.now) (cond b (Some e) None)) below
    (found_next c.args.prefix.now true (map.entries c.args.self.now) (map_sorted text_cmp c.args.self.now) c.args.last.now (Some e)
    (ap (option_map (λ p. (p.0.now, p.1.now))) (sym c.in-Some.is) ∙ c.in_ok-key.ensures))

pub returns-else-starts_with : goal.returns-else-starts_with
returns-else-starts_with c =
    let below : begins c.args.prefix.now c.in-Some.key.now ≡ false = cc in
    let e : List ℕ × Object = (c.in-Some.key.now, c.in-Some.object.now) in
    subst (λ b. ComesNext c.args.prefix.now true c.args.last.now (map.entries c.args.self.now) (cond b (Some e) None)) below
    (found_next c.args.prefix.now true (map.entries c.args.self.now) (map_sorted text_cmp c.args.self.now) c.args.last.now (Some e)
    (ap (option_map (λ p. (p.0.now, p.1.now))) (sym c.in-Some.is) ∙ c.in_ok-key.ensures))

pub returns-in-None : goal.returns-in-None
returns-in-None c =
    found_next c.args.prefix.now true (map.entries c.args.self.now) (map_sorted text_cmp c.args.self.now) c.args.last.now None
    (ap (option_map (λ p. (p.0.now, p.1.now))) (sym c.in-None.is) ∙ c.in_ok-key.ensures)
