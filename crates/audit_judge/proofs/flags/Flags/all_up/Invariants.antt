use Rattle.std.proofs.Common.{◌≡◌, true, replicate}
use Rattle.audit_judge.proofs.flags.Flags.all_up.Given as goal

abbrev pub invariant-loop-done : goal.invariant-loop-done
invariant-loop-done l = l.flags.items ≡ replicate l._done true
