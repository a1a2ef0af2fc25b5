use Rattle.job_report.specs.inner.Left.{IsWithin, ended_in, left_lines}
use Rattle.job_report.specs.TwinText.{played_lines}
use Rattle.std.proofs.Common.{drop, string_bytes, ◌++◌, ◌≡◌}
use Rattle.job_report.proofs.played.write_played.Given as goal

abbrev pub invariant-loop-turn : goal.invariant-loop-turn
invariant-loop-turn l = record {
  first : IsWithin l.told.first l.first;
  second : IsWithin l.told.second l.second;
  written : string_bytes l.text ++ left_lines (drop l.turn-index l.order) l.told.first l.told.second (ended_in l.first) (ended_in l.second)
      ≡ string_bytes l.fn.text ++ played_lines l.order (ended_in l.first) (ended_in l.second);
}
