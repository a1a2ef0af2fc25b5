use Rattle.text_and_lists.proofs.Tree.{get_made, insert_same, made_insert}
use Rattle.s3_types.specs.Multipart.{with_part}
use Rattle.s3_types.specs.Store.{Upload}
use Rattle.std.proofs.Common.{None, Option, Some, ap, refl, subst, sym, ◌∙◌, ◌≡◌}
use Rattle.std.proofs.lemmas.Bool.{false≢true}
use Rattle.std.proofs.lemmas.Map.Lookups.{exact_unsigned}
use Rattle.std.specs.BTreeMap.{get_by}
use Rattle.std.specs.Cmp.{nat_cmp_total}
use Rattle.std.specs.Option.{IsSome, IsSomeAnd}
use Rattle.std.specs.Ordering.{nat_cmp}
use Rattle.std.specs.FinMap as fin
use Rattle.multipart.proofs.tables.Lives.put_part.Goals as goal

pub returns-in_default-clause-ok : goal.returns-in_default-clause-ok
returns-in_default-clause-ok c =
    let was : fin.get c.args.self.now c.args.upload ≡ None = ap (λ m. fin.get m c.args.upload) (sym c.self.view_is) ∙ get_made nat_cmp_total
    c.self.inside.held.entries c.args.upload ∙ sym c.in_default.ensures.value in
    absurd (false≢true (subst (λ (o : Option Upload). IsSome o) was c.requires.there))

pub returns-in_default-insert-clause-ok : goal.returns-in_default-insert-clause-ok
returns-in_default-insert-clause-ok c =
    let some : IsSome (get_by (nat_cmp c.args.upload) c.self.inside.held) = subst (λ (o : Option Upload). IsSome o) c.in-Some.ensures.value
    refl in
    let was : fin.get c.args.self.now c.args.upload ≡ Some c.in-Some.live.now = ap (λ m. fin.get m c.args.upload) (sym c.self.view_is) ∙
    get_made nat_cmp_total c.self.inside.held.entries c.args.upload ∙ sym c.in-Some.ensures.value in
    let w : Upload = c.insert.new.self in
    let e = made_insert nat_cmp_total exact_unsigned c.self.inside.held.entries (c.get_mut.follows.lender w).entries c.args.upload w
    ((c.get_mut.follows.holds w).3 some).0 in
    subst (λ (o : Option Upload). IsSomeAnd o (λ u. fin.from_entries {R = nat_cmp} (c.get_mut.follows.lender w).entries ≡ fin.insert
    c.args.self.now c.args.upload (with_part u c.args.number c.args.part))) (sym was)
    (e ∙ (λ i. fin.insert (c.self.view_is i) c.args.upload (c.in_default-insert.ensures.ok i)))

pub returns-clause-err : goal.returns-clause-err
returns-clause-err c =
    let some : IsSome (get_by (nat_cmp c.args.upload) c.self.inside.held) = subst (λ (o : Option Upload). IsSome o) c.in-Some.ensures.value
    refl in
    let was : fin.get c.args.self.now c.args.upload ≡ Some c.in-Some.live.now = ap (λ m. fin.get m c.args.upload) (sym c.self.view_is) ∙
    get_made nat_cmp_total c.self.inside.held.entries c.args.upload ∙ sym c.in-Some.ensures.value in
    let w : Upload = c.insert.new.self in
    made_insert nat_cmp_total exact_unsigned c.self.inside.held.entries (c.get_mut.follows.lender w).entries c.args.upload w
    ((c.get_mut.follows.holds w).3 some).0
    ∙ (λ i. fin.insert (c.self.view_is i) c.args.upload (c.in-Err.ensures.err i))
    ∙ insert_same nat_cmp_total exact_unsigned c.args.self.now c.args.upload c.in-Some.live.now was
