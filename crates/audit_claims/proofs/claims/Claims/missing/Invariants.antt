use Rattle.audit_claims.specs.Claims.{AllListed}
use Rattle.audit_claims.proofs.claims.Claims.missing.Given as goal

abbrev pub invariant-loop-task : goal.invariant-loop-task
invariant-loop-task l = AllListed l.self.listed l.task
