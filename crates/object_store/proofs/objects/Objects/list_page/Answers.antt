use Rattle.object_store.specs.declared.page.Page.{Page}
use Rattle.s3_types.specs.Pages.{listed}
use Rattle.s3_types.specs.Store.{Objects}
use Rattle.s3_types.specs.declared.reply.PageEntry.{PageEntry}
use Rattle.std.proofs.Common.{Bool, List, ap, length, subst, sym, take, ℕ, ◌∙◌, ◌≡◌}
use Rattle.std.specs.Prelude.{IfOk, Result, nat_lt}
use Rattle.std.specs.declared.alloc.AllocError.{AllocError}
use Rattle.store_frame.proofs.Listed.{walked_listed}
use Rattle.store_frame.specs.inner.Walk.{walked}
use Rattle.std.specs.FinMap as map
use Rattle.object_store.proofs.objects.Objects.list_page.Goals as goal

-- The walk finds what is listed, with and without the delimiter.
same : (p a : List ℕ) (m : Objects) (d e : Bool) → d ≡ e → walked p e a (map.entries m) ≡ listed p d a m
same p a m d e is = walked_listed p e a m ∙ ap (λ d. listed p d a m) (sym is)

entries_of : (r : Result Page AllocError) (n k : ℕ) (l m : List PageEntry) → n ≡ k → l ≡ m → IfOk r (λ page. page.entries ≡ take n l)
    → IfOk r (λ page. page.entries ≡ take k m)
entries_of r n k l m e f h = subst (λ (l : List PageEntry). IfOk r (λ page. page.entries ≡ take k l)) f
    (subst (λ (n : ℕ). IfOk r (λ page. page.entries ≡ take n l)) e h)

more_of : (r : Result Page AllocError) (n k : ℕ) (l m : List PageEntry) → n ≡ k → l ≡ m → IfOk r (λ page. page.more ≡ nat_lt n (length l))
    → IfOk r (λ page. page.more ≡ nat_lt k (length m))
more_of r n k l m e f h = subst (λ (l : List PageEntry). IfOk r (λ page. page.more ≡ nat_lt k (length l))) f
    (subst (λ (n : ℕ). IfOk r (λ page. page.more ≡ nat_lt n (length l))) e h)

pub returns-then-delimited-clause-entries : goal.returns-then-delimited-clause-entries
returns-then-delimited-clause-entries c =
    entries_of c.walk.result _ c.args.limit _ _ c.get-limit.ensures.value (same c.args.prefix.now c.args.after.now c.args.self.now
    c.args.delimited _ c.if-delimited.true) c.walk.ensures.entries

pub returns-then-delimited-clause-more : goal.returns-then-delimited-clause-more
returns-then-delimited-clause-more c =
    more_of c.walk.result _ c.args.limit _ _ c.get-limit.ensures.value (same c.args.prefix.now c.args.after.now c.args.self.now
    c.args.delimited _ c.if-delimited.true) c.walk.ensures.more

pub returns-clause-entries : goal.returns-clause-entries
returns-clause-entries c =
    entries_of c.list_flat.result _ c.args.limit _ _ c.get-limit.ensures.value
    (same c.args.prefix.now c.args.after.now c.args.self.now c.args.delimited _ c.if-delimited.false) c.list_flat.ensures.entries

pub returns-clause-more : goal.returns-clause-more
returns-clause-more c =
    more_of c.list_flat.result _ c.args.limit _ _ c.get-limit.ensures.value (same c.args.prefix.now c.args.after.now c.args.self.now
    c.args.delimited _ c.if-delimited.false) c.list_flat.ensures.more
