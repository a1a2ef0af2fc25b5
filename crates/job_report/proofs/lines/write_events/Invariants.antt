use Rattle.job_report.proofs.LineLemmas.{left_at}
use Rattle.job_spec.specs.ReportText.{event_line, event_lines}
use Rattle.std.proofs.Common.{string_bytes, ◌++◌, ◌≡◌}
use Rattle.std.specs.List.{flat_map}
use Rattle.job_report.proofs.lines.write_events.Given as goal

abbrev pub invariant-loop-index : goal.invariant-loop-index
invariant-loop-index l =
    string_bytes l.text ++ flat_map (event_line l.before) (left_at l.number l.events l.ends l.index) ≡ string_bytes l.fn.text ++ event_lines
    l.before l.number l.events l.ends
