use Rattle.s3_types.proofs.Spans.{first_fate, no_fate}
use Rattle.s3_types.specs.Fates.{IsFirstFrom}
use Rattle.std.proofs.Common.{Some, subst, sym, ℕ}
use Rattle.s3_types.proofs.fates.Fates.first_from.Goals as goal

pub returns-in-Some : goal.returns-in-Some
returns-in-Some c = record {
  first = subst (λ (n : ℕ). IsFirstFrom c.args.self.now c.args.n (Some (n, c.in-Some.span.fate))) (sym c.max.ensures)
      (first_fate 1 c.args.n c.self.inside.spans.entries _ c.args.self.now c.self.view_is c.self.invariant (sym c.in-Some.ensures));
}

pub returns-in-None : goal.returns-in-None
returns-in-None c = record {
  first = no_fate 1 c.args.n c.self.inside.spans.entries c.args.self.now c.self.view_is c.self.invariant (sym c.in-None.ensures);
}
