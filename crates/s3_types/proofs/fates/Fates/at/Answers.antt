use Rattle.s3_types.proofs.Spans.{answer_none, fate_from, fate_past, lost_named, no_fate_on}
use Rattle.s3_types.specs.Fates.{fate_or}
use Rattle.std.proofs.Common.{ap, sym, ◌∙◌}
use Rattle.std.specs.FinMap as map
use Rattle.s3_types.proofs.fates.Fates.at.Goals as goal

pub returns-then-span-n-clause-fate : goal.returns-then-span-n-clause-fate
returns-then-span-n-clause-fate c =
    ap fate_or (sym (fate_from 1 c.args.n c.self.inside.spans.entries _ c.self.invariant (sym c.in-Some.ensures) c.if-span-n.true) ∙ ap
    (λ m. map.get m c.args.n) c.self.view_is)

pub returns-then-span-n-clause-named : goal.returns-then-span-n-clause-named
returns-then-span-n-clause-named c =
    lost_named 1 c.args.n c.self.inside.spans.entries _ c.self.invariant (sym c.in-Some.ensures)
    (sym (ap (λ m. map.get m c.args.n) c.self.view_is) ∙ fate_from 1 c.args.n c.self.inside.spans.entries _ c.self.invariant
    (sym c.in-Some.ensures) c.if-span-n.true)

pub returns-else-span-n-clause-fate : goal.returns-else-span-n-clause-fate
returns-else-span-n-clause-fate c =
    ap fate_or (sym (fate_past 1 c.args.n c.self.inside.spans.entries _ c.self.invariant (sym c.in-Some.ensures) c.if-span-n.false) ∙ ap
    (λ m. map.get m c.args.n) c.self.view_is)

pub returns-else-span-n-clause-named : goal.returns-else-span-n-clause-named
returns-else-span-n-clause-named c =
    answer_none _ (sym (ap (λ m. map.get m c.args.n) c.self.view_is) ∙ fate_past 1 c.args.n c.self.inside.spans.entries _ c.self.invariant
    (sym c.in-Some.ensures) c.if-span-n.false)

pub returns-in-None-clause-fate : goal.returns-in-None-clause-fate
returns-in-None-clause-fate c =
    ap fate_or (sym (no_fate_on 1 c.args.n c.self.inside.spans.entries c.self.invariant (sym c.in-None.ensures)) ∙ ap
    (λ m. map.get m c.args.n) c.self.view_is)

pub returns-in-None-clause-named : goal.returns-in-None-clause-named
returns-in-None-clause-named c =
    answer_none _ (sym (ap (λ m. map.get m c.args.n) c.self.view_is) ∙ no_fate_on 1 c.args.n c.self.inside.spans.entries c.self.invariant
    (sym c.in-None.ensures))
