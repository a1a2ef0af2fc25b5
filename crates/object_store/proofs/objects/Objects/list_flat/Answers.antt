use Rattle.object_store.proofs.Flat.{flat_rest}
use Rattle.s3_types.specs.declared.reply.PageEntry.{PageEntry}
use Rattle.std.proofs.Common.{List, length, subst, take, ◌≡◌}
use Rattle.std.specs.Prelude.{IfOk, nat_lt}
use Rattle.std.specs.Range.Bound.{bound_map}
use Rattle.object_store.proofs.objects.Objects.list_flat.Goals as goal

pub flat_page-requires-clause-follows : goal.flat_page-requires-clause-follows
flat_page-requires-clause-follows c =
    (flat_rest c.args.prefix.now c.args.after.now (bound_map (λ x. x.now) c.flat_start.result) c.self.inside.held.entries c.range.result
    c.args.self.now
    c.flat_start.ensures (c.range.ensures.between tt) c.range.ensures.ordered c.self.invariant c.self.view_is).follows

pub flat_page-requires-clause-own : goal.flat_page-requires-clause-own
flat_page-requires-clause-own c =
    (flat_rest c.args.prefix.now c.args.after.now (bound_map (λ x. x.now) c.flat_start.result) c.self.inside.held.entries c.range.result
    c.args.self.now
    c.flat_start.ensures (c.range.ensures.between tt) c.range.ensures.ordered c.self.invariant c.self.view_is).own

pub returns-clause-entries : goal.returns-clause-entries
returns-clause-entries c =
    let rest = flat_rest c.args.prefix.now c.args.after.now (bound_map (λ x. x.now) c.flat_start.result) c.self.inside.held.entries
    c.range.result c.args.self.now
    c.flat_start.ensures (c.range.ensures.between tt) c.range.ensures.ordered c.self.invariant c.self.view_is in
    subst (λ (l : List PageEntry). IfOk c.flat_page.result (λ page. page.entries ≡ take c.args.limit l)) rest.all
    c.flat_page.ensures.entries

pub returns-clause-more : goal.returns-clause-more
returns-clause-more c =
    let rest = flat_rest c.args.prefix.now c.args.after.now (bound_map (λ x. x.now) c.flat_start.result) c.self.inside.held.entries
    c.range.result c.args.self.now
    c.flat_start.ensures (c.range.ensures.between tt) c.range.ensures.ordered c.self.invariant c.self.view_is in
    subst (λ (l : List PageEntry). IfOk c.flat_page.result (λ page. page.more ≡ nat_lt c.args.limit (length l))) rest.all
    c.flat_page.ensures.more
