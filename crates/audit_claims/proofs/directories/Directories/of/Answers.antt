use Rattle.audit_claims.proofs.Reaches.{collects}
use Rattle.audit_claims.proofs.directories.Directories.of.Goals as goal

pub loop-attempts-preserved : goal.loop-attempts-preserved
loop-attempts-preserved c =
    collects c.args.claims.now.listed c.loop-attempts.some c.loop-attempts.always c.add_attempts.new.dirs c.add_all.new.self
    c.in_ok-shared.shared c.loop-attempts.attempts-iterator c.next.new.self c.in-Some.field-0-0.now c.in-Some.attempts.now
    c.loop-attempts.invariant c.in-Some.ensures.steps c.in_ok-add_attempts.ensures.ok c.in_ok-shared.ensures.all c.in_ok-add_all.ensures.ok
