use Rattle.audit_claims.proofs.Reaches.{IsCollecting}
use Rattle.audit_claims.proofs.directories.Directories.of.Given as goal

abbrev pub invariant-loop-attempts : goal.invariant-loop-attempts
invariant-loop-attempts l = IsCollecting l.claims.listed l.some l.always l.attempts-iterator
