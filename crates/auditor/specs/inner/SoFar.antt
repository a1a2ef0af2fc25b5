-- Definitions beside those of `SoFar` that no public contract cites.
use Rattle.audit_model.specs.Recorded.{Recorded, after}
use Rattle.auditor.specs.AuditState.{At, AuditState}
use Rattle.std.specs.Prelude.{Err, None, Ok, Result, false, length, [], ◌<◌, ◌≡◌}
use Rattle.trace_reader.specs.Faults.{wanting}
use Rattle.trace_reader.specs.declared.fault.TraceFault.{TraceFault}
use Rattle.trace_reader.specs.declared.line.TraceLine.{TraceLine}
use Rattle.trace_reader.specs.declared.line.TraceLine.TheVariants as line

-- The audit knows the first line, if that has no fault.
abbrev pub BegunBy : AuditState → Result Recorded TraceFault → Type 0
BegunBy h (Ok r) = At h r [] × r.running ≡ false
BegunBy h (Err fault) = ⊥

-- The right result for the first line, which must be a job's.
abbrev pub Begins : TraceLine → Result AuditState TraceFault → Type 0
Begins l (Ok h) = BegunBy h (after None l)
Begins l (Err fault) = wanting fault ≡ false → after None l ≡ Err fault

-- The stage of a trace guarantees this of a line.
abbrev pub IsDue : AuditState → TraceLine → Type 0
IsDue h (line.Job dest keeps tasks) = Unit {0}
IsDue h (line.Attempt task attempt) = (h.bench.started ≡ false) × (task < h.bench.tasks)
IsDue h (line.File path tags) = (h.bench.started ≡ false) × (0 < length h.bench.claimed.listed)
IsDue h (line.Object bucket key tags) = h.bench.started ≡ false
IsDue h line.Commit = Unit {0}
IsDue h (line.Put bucket key tags) = Unit {0}
IsDue h (line.Copy bucket source key) = Unit {0}
IsDue h (line.Delete bucket keys) = Unit {0}
IsDue h line.Still = Unit {0}
