use Rattle.s3_types.proofs.Spans.{first_from}
use Rattle.s3_types.specs.declared.fates.Span.{Span}
use Rattle.std.proofs.Common.{List, ap, sym, ℕ, ◌∙◌}
use Rattle.std.specs.List.{slice_get}
use Rattle.s3_types.proofs.fates.span_from.Goals as goal

pub returns-in-Some : goal.returns-in-Some
returns-in-Some c =
    ap (λ (l : List (ℕ × Span)). slice_get l 0) (sym c.in-Some.ensures.steps ∙ c.range.ensures.between tt) ∙ first_from c.args.n
    c.args.spans.now.entries

pub returns-in-None : goal.returns-in-None
returns-in-None c =
    ap (λ (l : List (ℕ × Span)). slice_get l 0) (sym c.in-None.ensures.steps.0 ∙ c.range.ensures.between tt) ∙ first_from c.args.n
    c.args.spans.now.entries
