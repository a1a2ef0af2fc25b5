use Rattle.job_spec.specs.ReportText.{pick_line}
use Rattle.std.proofs.Common.{drop, string_bytes, ◌++◌, ◌≡◌}
use Rattle.std.specs.List.{flat_map}
use Rattle.job_report.proofs.lines.write_picks.Given as goal

abbrev pub invariant-loop-pick : goal.invariant-loop-pick
invariant-loop-pick l =
    string_bytes l.text ++ flat_map (pick_line l.before) (drop l.pick-index l.picks) ≡ string_bytes l.fn.text ++ flat_map
    (pick_line l.before) l.picks
