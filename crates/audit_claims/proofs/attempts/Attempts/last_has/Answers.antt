use Rattle.std.proofs.Common.{◌∙◌, ap, sym, is_some}
use Rattle.soundness.specs.Claims.{Files, file_at}
use Rattle.audit_claims.specs.Claims.{Tags}
use Rattle.audit_claims.proofs.Entries.{last_entry}
use Rattle.audit_claims.proofs.attempts.Attempts.last_has.Goals as goal

pub returns-in-Some : goal.returns-in-Some
returns-in-Some c = record {
  found =
      c.has.ensures.found
      ∙ ap (λ (l : Files Tags). is_some (file_at l c.args.path.now)) (sym (last_entry c.self.inside.attempts.entries c.args.self.now
      c.in-Some.field-0-0.now c.in-Some.files.now c.self.view_is c.in-Some.ensures.entry));
}
