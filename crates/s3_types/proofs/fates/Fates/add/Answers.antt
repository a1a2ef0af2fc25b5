use Rattle.s3_types.proofs.Spans.{apart_insert, first_named, named_insert, no_first, one_first}
use Rattle.s3_types.specs.Fates.{FateMap, IsFirstNamed, with_fates}
use Rattle.s3_types.specs.Spans.{named}
use Rattle.s3_types.specs.inner.Spans.{AreApart, first_in, from_on}
use Rattle.s3_types.specs.declared.fates.FateFault.{FateFault}
use Rattle.s3_types.specs.declared.fates.FateFault.TheVariants.{NoMemory, Taken}
use Rattle.s3_types.specs.declared.fates.Span.{Span}
use Rattle.std.proofs.Common.{Err, List, None, Ok, Result, Some, ap, arith, subst, sym, ℕ, ◌+◌, ◌-◌, ◌↔◌, ◌∙◌, ◌≡◌, ◌≤◌}
use Rattle.std.specs.Prelude.{IsErrAnd, IsErrOf}
use Rattle.s3_types.proofs.fates.Fates.add.Goals as goal

abbrev Told : Result (Unit {0}) FateFault → ℕ → Type 0
Told r n = IsErrOf r (Taken n)

same_taken : (x n : ℕ) → Told (Err (Taken x)) n → x ≡ n
same_taken x n e = cc

taken : (l first count x : ℕ) (es : List (ℕ × Span)) (m : FateMap) → named es ≡ m → first ≤ l → l + 1 ≡ first + count → AreApart 1 es
    → Some x ≡ first_in first l (from_on first es)
    → (n : ℕ) → Told (Err (Taken x)) n ↔ IsFirstNamed m first count n
taken l first count x es m is le e a h n =
    let f : IsFirstNamed m first count x = subst (λ m. IsFirstNamed m first count x) is
    (first_named 1 first l count x es le e a (sym h)) in (
      λ t. subst (IsFirstNamed m first count) (same_taken x n t) f,
      λ g. ap (λ k. Err (Taken k)) (one_first m first count x n f g),
    )

not_taken : (r : Result (Unit {0}) FateFault) (l first count : ℕ) (es : List (ℕ × Span)) (m : FateMap) → ((n : ℕ) → Told r n → ⊥)
    → named es ≡ m → l + 1 ≡ first + count → AreApart 1 es → None ≡ first_in first l (from_on first es)
    → (n : ℕ) → Told r n ↔ IsFirstNamed m first count n
not_taken r l first count es m never is e a h n = (
  λ t. absurd (never n t),
  λ g. absurd (no_first 1 first l count n es e a (sym h)
      (subst (λ m. IsFirstNamed m first count n) (sym is) g)),
)

no_memory : (r : Result (Unit {0}) FateFault) → r ≡ Err NoMemory → (n : ℕ) → Told r n → ⊥
no_memory r e n t = cc

err_is : (r : Result (Unit {0}) FateFault) → IsErrAnd r (λ e. e ≡ NoMemory) → r ≡ Err NoMemory
err_is (Ok x) h = absurd h
err_is (Err e) h = ap Err h

done : (n : ℕ) → Told (Ok tt) n → ⊥
done n t = cc

pub returns-in-Some-clause-taken : goal.returns-in-Some-clause-taken
returns-in-Some-clause-taken c =
    let some : c.from.result ≡ c.args.count = c.from.ensures in
    let le : c.args.first ≤ c.args.first + c.from.result - 1 = omega (arith, some, c.requires.some) in
    let e : c.args.first + c.from.result - 1 + 1 ≡ c.args.first + c.args.count = omega (arith, some, c.requires.some) in
    taken (c.args.first + c.from.result - 1) c.args.first c.args.count c.in-Some.n c.self.inside.spans.entries c.args.self.now
    c.self.view_is le e c.self.invariant c.in-Some.ensures

pub returns-in_err-insert-in-None-clause-taken : goal.returns-in_err-insert-in-None-clause-taken
returns-in_err-insert-in-None-clause-taken c =
    let some : c.from.result ≡ c.args.count = c.from.ensures in
    let e : c.args.first + c.from.result - 1 + 1 ≡ c.args.first + c.args.count = omega (arith, some, c.requires.some) in
    not_taken c.from_residual.result (c.args.first + c.from.result - 1) c.args.first c.args.count c.self.inside.spans.entries
    c.args.self.now (no_memory c.from_residual.result (err_is _ c.from_residual.ensures.1)) c.self.view_is e c.self.invariant
    c.in-None.ensures

pub invariant_of-self-in-None : goal.invariant_of-self-in-None
invariant_of-self-in-None c =
    let some : c.from.result ≡ c.args.count = c.from.ensures in
    let le : c.args.first ≤ c.args.first + c.from.result - 1 = omega (arith, some, c.requires.some) in
    subst (AreApart 1) (sym c.in_ok-insert-in-None.ensures.entries)
    (apart_insert c.args.first (c.args.first + c.from.result - 1) c.args.fate le 1 c.self.inside.spans.entries c.requires.first
    c.requires.lost c.self.invariant (sym c.in-None.ensures))

pub returns-in_ok-insert-in-None-clause-ok : goal.returns-in_ok-insert-in-None-clause-ok
returns-in_ok-insert-in-None-clause-ok c =
    let some : c.from.result ≡ c.args.count = c.from.ensures in
    let le : c.args.first ≤ c.args.first + c.from.result - 1 = omega (arith, some, c.requires.some) in
    let e : c.args.first + c.from.result - 1 + 1 ≡ c.args.first + c.args.count = omega (arith, some, c.requires.some) in
    ap named c.in_ok-insert-in-None.ensures.entries
    ∙ named_insert 1 c.args.first (c.args.first + c.from.result - 1) c.args.count c.args.fate c.self.inside.spans.entries le
    c.requires.first e c.requires.lost c.self.invariant (sym c.in-None.ensures)
    ∙ ap (λ m. with_fates m c.args.first c.args.fate c.args.count) c.self.view_is

pub returns-in_ok-insert-in-None-clause-taken : goal.returns-in_ok-insert-in-None-clause-taken
returns-in_ok-insert-in-None-clause-taken c =
    let some : c.from.result ≡ c.args.count = c.from.ensures in
    let e : c.args.first + c.from.result - 1 + 1 ≡ c.args.first + c.args.count = omega (arith, some, c.requires.some) in
    not_taken (Ok tt) (c.args.first + c.from.result - 1) c.args.first c.args.count c.self.inside.spans.entries c.args.self.now done
    c.self.view_is e c.self.invariant c.in-None.ensures
