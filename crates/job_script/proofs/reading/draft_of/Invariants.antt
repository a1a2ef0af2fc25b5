use Rattle.text_and_lists.specs.Lines.{lines_of}
use Rattle.job_script.specs.Script.{lines_at, nothing}
use Rattle.std.proofs.Common.{length, ◌+◌, ◌≡◌, ◌≤◌}
use denote.Shadow.{shadow}
use denote.Text.{Utf8}
use Rattle.job_script.proofs.reading.draft_of.Given as goal

abbrev pub invariant-loop-rest : goal.invariant-loop-rest
invariant-loop-rest l = record {
  text : shadow (Utf8 l.rest);
  so_far : lines_at l.line l.draft (lines_of l.rest) ≡ lines_at 1 (nothing 10000) (lines_of l.text);
  count : l.line + length l.rest ≤ 1 + length l.text;
}

abbrev pub decreases-loop-rest : goal.decreases-loop-rest
decreases-loop-rest l = length l.rest
