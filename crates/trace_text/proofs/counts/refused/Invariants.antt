use Rattle.std.proofs.Common.{◌≡◌, take}
use Rattle.std.specs.List.{count_by}
use Rattle.job_spec.specs.States.{is_refused}
use Rattle.trace_text.proofs.counts.refused.Given as goal

abbrev pub invariant-loop-end : goal.invariant-loop-end
invariant-loop-end l = l.count ≡ count_by is_refused (take l.end-index l.ends)
