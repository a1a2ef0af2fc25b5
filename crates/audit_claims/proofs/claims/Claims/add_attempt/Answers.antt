use Rattle.audit_claims.proofs.Owned.{indexed_attempt}
use Rattle.audit_claims.proofs.claims.Claims.add_attempt.Goals as goal

pub invariant_of-self-2 : goal.invariant_of-self-2
invariant_of-self-2 c =
    indexed_attempt c.args.task c.args.attempt c.self.inside.current c.self.inside.tasks.entries c.put_attempt.new.tasks.entries
    c.self.inside.owners.entries c.self.invariant c.in_ok-put_attempt.ensures.ok
