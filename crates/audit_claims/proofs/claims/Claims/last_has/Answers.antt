use Rattle.std.proofs.Common.{◌∙◌, ap, is_some}
use Rattle.soundness.specs.Claims.{file_at}
use Rattle.judging.specs.Listed.{Numbered, last_files}
use Rattle.audit_claims.specs.Claims.{Tags}
use Rattle.audit_claims.proofs.Owned.{current_some, current_none}
use Rattle.audit_claims.proofs.claims.Claims.last_has.Goals as goal

pub returns-in-Some : goal.returns-in-Some
returns-in-Some c = record {
  found =
      c.last_has.ensures.found
      ∙ ap (λ (l : Numbered Tags). is_some (file_at (last_files l) c.args.path.now)) (current_some (record {
        listed = c.self.inside.tasks.entries;
        current = c.self.inside.current;
      }) c.args.self.now c.in-Some.attempts.now c.self.view_is c.in-Some.ensures.value);
}

pub returns-in-None : goal.returns-in-None
returns-in-None c = record {
  found =
      ap (λ (l : Numbered Tags). is_some (file_at (last_files l) c.args.path.now)) (current_none (record {
        listed = c.self.inside.tasks.entries;
        current = c.self.inside.current;
      }) c.args.self.now c.self.view_is c.in-None.ensures.value);
}
