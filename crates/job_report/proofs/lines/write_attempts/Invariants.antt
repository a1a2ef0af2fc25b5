use Rattle.job_model.specs.Attempts.{Declared}
use Rattle.job_spec.specs.ReportText.{attempt_line}
use Rattle.job_spec.specs.States.{Past}
use Rattle.job_states.specs.Stands.{Stands}
use Rattle.std.proofs.Common.{List, string_bytes, ◌++◌, ◌≡◌}
use Rattle.std.specs.List.{flat_map}
use Rattle.job_report.proofs.lines.write_attempts.Given as goal

abbrev pub invariant-loop-name : goal.invariant-loop-name
invariant-loop-name l = record {
  before : (before : List Declared) × (before ++ l.name-iterator ≡ l.script.attempts);
  written : (p : Past) → Stands l.script l.states p
      → string_bytes l.text ++ flat_map (λ a. attempt_line l.before p.state a.0) l.name-iterator ≡ string_bytes l.fn.text ++ flat_map
      (λ a. attempt_line l.before p.state a.0) l.script.attempts;
}
