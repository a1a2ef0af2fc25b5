use Rattle.std.proofs.Common.{◌≡◌, ◌++◌}
use Rattle.audit_judge.specs.Following.{rows_up}
use Rattle.audit_judge.proofs.known.Known.all_up.Given as goal

abbrev pub invariant-loop-attempts : goal.invariant-loop-attempts
invariant-loop-attempts l = l.rows.items ++ rows_up l.attempts-iterator ≡ rows_up l.self.claimed.listed
