use Rattle.std.proofs.Common.{◌∙◌, ap, is_some, nat_eq}
use Rattle.std.specs.Map.{lookup}
use Rattle.judging.specs.Listed.{Numbered}
use Rattle.audit_claims.specs.Claims.{Claimed, Tags}
use Rattle.audit_claims.proofs.Owned.{numbered_some, numbered_none}
use Rattle.audit_claims.proofs.claims.Claims.has_attempt.Goals as goal

pub returns-in-Some : goal.returns-in-Some
returns-in-Some c = record {
  found =
      c.has.ensures.found
      ∙ ap (λ (l : Numbered Tags). is_some (lookup (nat_eq c.args.attempt) l)) (numbered_some c.args.task c.self.inside.tasks.entries
      c.args.self.now.listed c.in-Some.attempts.now (ap (λ (x : Claimed). x.listed) c.self.view_is) c.in-Some.ensures.value);
}

pub returns-in-None : goal.returns-in-None
returns-in-None c = record {
  found =
      ap (λ (l : Numbered Tags). is_some (lookup (nat_eq c.args.attempt) l)) (numbered_none c.args.task c.self.inside.tasks.entries
      c.args.self.now.listed (ap (λ (x : Claimed). x.listed) c.self.view_is) c.in-None.ensures.value);
}
