use Rattle.std.proofs.Common.{◌∙◌, ap, nat_eq}
use Rattle.std.specs.Map.{lookup}
use Rattle.audit_claims.specs.Claims.{Claimed}
use Rattle.audit_claims.proofs.claims.Claims.attempts.Goals as goal

pub returns : goal.returns
returns c = record { found = c.get.ensures.value ∙ ap (λ (x : Claimed). lookup (nat_eq c.args.task) x.listed) c.self.view_is }
