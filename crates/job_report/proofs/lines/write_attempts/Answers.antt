use Rattle.job_report.proofs.LineLemmas.{declared_next, line_more, one_before}
use Rattle.job_spec.specs.ReportText.{attempt_line}
use Rattle.std.proofs.Common.{[], ◌++◌, ◌∷◌}
use Rattle.job_report.proofs.lines.write_attempts.Goals as goal

pub write_attempt-requires : goal.write_attempt-requires
write_attempt-requires c =
    let so_far = c.loop-name.invariant.before in
    declared_next c.args.script.now.attempts so_far.0 c.loop-name.name-iterator c.next.new.self
    (c.in-Some.name.now, c.in-Some.field-0-1.now) so_far.1 c.in-Some.ensures.steps

pub loop-name-preserved : goal.loop-name-preserved
loop-name-preserved c =
    let so_far = c.loop-name.invariant.before in
    let left = c.loop-name.name-iterator in
    let next = c.next.new.self in record {
      before = (
        so_far.0 ++ (c.in-Some.name.now, c.in-Some.field-0-1.now) ∷ [],
        one_before c.args.script.now.attempts so_far.0 left next
            (c.in-Some.name.now, c.in-Some.field-0-1.now) so_far.1 c.in-Some.ensures.steps,
      );
      written = λ p stands.
          line_more (λ a. attempt_line c.args.before.now p.state a.0) left next (c.in-Some.name.now, c.in-Some.field-0-1.now) _ _ _
          c.in-Some.ensures.steps (c.in_ok-write_attempt.ensures p stands) (c.loop-name.invariant.written p stands);
    }
