use Rattle.std.proofs.Common.{List, subst, ℕ, [], ◌∷◌}
use Rattle.audit_model.specs.Answers.{seen_paths}
use Rattle.auditor.specs.inner.AuditState.{Stepped}
use Rattle.auditor.specs.inner.Steps.{put_after}
use Rattle.auditor.proofs.audit.Audit.put.Goals as goal

pub returns : goal.returns
returns c = record {
  stepped = subst (λ (l : List (List ℕ)). Stepped c.args.self.now c.put_tags.new.self (put_after c.args.bucket c.args.key l)
      (λ dest. seen_paths dest c.args.bucket (c.args.key ∷ [])) c.put_tags.result) c.in_ok-etags.ensures.kept c.put_tags.ensures.stepped;
}
