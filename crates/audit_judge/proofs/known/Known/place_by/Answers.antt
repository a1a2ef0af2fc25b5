use Rattle.std.proofs.Common.{◌≡◌, None, ap, nat_eq, subst, sym}
use Rattle.judging.specs.Listed.{Listed}
use Rattle.audit_claims.specs.Claims.{Tags}
use Rattle.std.specs.Map.{lookup}
use Rattle.audit_judge.proofs.Loops.{found_place}
use Rattle.audit_judge.specs.Scene.{Scene}
use Rattle.audit_judge.proofs.known.Known.place_by.Goals as goal

pub returns-in-Some-clause-found : goal.returns-in-Some-clause-found
returns-in-Some-clause-found c = found_place c.args.task c.in-Some.field-0-1.now c.in-Some.at c.in-Some.attempts.now
    c.held.result.now.entries c.self.inside.claims.listed c.args.self.now.claimed.listed c.in-Some.ensures.key c.in-Some.ensures.entry
    c.held.ensures.entries (ap (λ (s : Scene). s.claimed.listed) c.self.view_is)

pub returns-in-None-clause-none : goal.returns-in-None-clause-none
returns-in-None-clause-none c =
    subst (λ (l : Listed Tags). lookup (nat_eq c.args.task) l ≡ None) (ap (λ (s : Scene). s.claimed.listed) c.self.view_is)
    (subst (λ (l : Listed Tags). lookup (nat_eq c.args.task) l ≡ None) c.held.ensures.entries (sym c.in-None.ensures.value))
