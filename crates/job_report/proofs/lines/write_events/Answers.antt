use Rattle.job_report.proofs.LineLemmas.{all_written, left_at, none_left}
use Rattle.job_spec.specs.ReportText.{event_line}
use Rattle.job_report.proofs.lines.write_events.Goals as goal

pub returns : goal.returns
returns c =
    let events = c.args.events.now in
    let ends = c.args.ends.now in
    let number = c.args.number in
    all_written (event_line c.args.before.now) (left_at number events ends c.loop-index.index) _ _ c.loop-index.invariant
    (none_left number events ends c.loop-index.index c.loop-index-test.false)
