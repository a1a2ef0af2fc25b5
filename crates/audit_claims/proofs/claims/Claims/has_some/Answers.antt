use Rattle.std.proofs.Common.{ap, arith, length}
use Rattle.audit_claims.specs.Claims.{Claimed}
use Rattle.audit_claims.proofs.Owned.{numbered_some, numbered_none}
use Rattle.audit_claims.proofs.claims.Claims.has_some.Goals as goal

pub returns-in-Some : goal.returns-in-Some
returns-in-Some c =
    let e = numbered_some c.args.task c.self.inside.tasks.entries c.args.self.now.listed c.in-Some.attempts.now
    (ap (λ (x : Claimed). x.listed) c.self.view_is) c.in-Some.ensures.value in
    let n = ap length e in
    let h = c.is_empty.ensures.none in
    grind arith

pub returns-in-None : goal.returns-in-None
returns-in-None c =
    let e = numbered_none c.args.task c.self.inside.tasks.entries c.args.self.now.listed
    (ap (λ (x : Claimed). x.listed) c.self.view_is) c.in-None.ensures.value in
    let n = ap length e in
    grind arith
