use Rattle.std.proofs.Common.{◌≡◌, ◌-◌, ◌^◌}
use Rattle.audit_top.specs.inner.Progress.{IsAt}
use Rattle.line_input.specs.Reading.{unread}
use Rattle.audit_top.proofs.lines.judge_lines.Given as goal

abbrev pub invariant-loop-count : goal.invariant-loop-count
invariant-loop-count g l = record {
  at : IsAt (g.Q.Source.left l.fn.input) l.auditor (unread l.reader.held (g.Q.Source.left l.input)) l.count;
  calm : g.Q.Source.faults l.input ≡ g.Q.Source.faults l.fn.input;
}

abbrev pub decreases-loop-count : goal.decreases-loop-count
decreases-loop-count g l = 2 ^ 64 - 1 - l.count
