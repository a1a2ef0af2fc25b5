use Rattle.std.proofs.Common.{ap, ◌∙◌, ℕ, List}
use Rattle.std.specs.List.{list_any}
use Rattle.soundness.specs.Claims.{is_below}
use Rattle.audit_claims.specs.Directories.{Reached, has_dir}
use Rattle.audit_claims.proofs.Reaches.{reached_is}
use Rattle.audit_claims.proofs.directories.Directories.is_reached.Goals as goal

pub returns : goal.returns
returns c = record {
  reached = λ listed h.
      c.reaches.ensures.below ∙ ap (λ (p : List ℕ). list_any (λ d. is_below d p) c.self.inside.some) c.as_bytes.ensures
      ∙ reached_is c.args.path.now listed c.self.inside.some (λ d. ap (λ (x : Reached). has_dir d x.some) c.self.view_is ∙ h.some d);
}
