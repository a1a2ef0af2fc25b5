use Rattle.std.proofs.Common.{List, None, ap, rules, subst, sym, ℕ, ◌∙◌, ◌≡◌}
use Rattle.audit_objects.specs.Objects.{at, put}
use Rattle.auditor.proofs.Opening.{opened_so, unopened}
use Rattle.auditor.specs.AuditState.{AuditState}
use Rattle.auditor.specs.inner.Steps.{Opened}
use Rattle.auditor.proofs.audit.Audit.add_object.Goals as goal

pub open-requires-clause-free : goal.open-requires-clause-free
open-requires-clause-free c =
    let free : at c.self.inside.objects c.args.bucket c.args.key ≡ None = search rules in
    λ p h. unopened c.args.self.now c.requires.at.0 c.requires.at.1 c.args.bucket c.args.key p c.requires.at.2 c.requires.early
    (ap (λ (h : AuditState). at h.objects c.args.bucket c.args.key) (sym c.self.view_is) ∙ free) h

pub returns : goal.returns
returns c =
    let free : at c.self.inside.objects c.args.bucket c.args.key ≡ None = search rules in
    record {
      stepped = opened_so c.args.self.now c.open.new.self _ c.args.bucket c.args.key c.args.etags
          (ap (λ (h : AuditState). at h.objects c.args.bucket c.args.key) (sym c.self.view_is) ∙ free) c.requires.early
          (subst (λ (l : List (List ℕ)). Opened c.args.self.now c.open.new.self c.args.bucket c.args.key l) c.in_ok-etags.ensures.kept
          c.in_ok-open.ensures.opened)
          (ap (λ (h : AuditState). record h { objects = c.put.new.self }) c.self-2.view_is)
          (λ b k. c.in_ok-put.ensures.put b k
          ∙ ap (λ (l : List (List ℕ)). put c.args.bucket c.args.key l (at c.self-2.inside.objects) b k) c.in_ok-etags.ensures.kept
          ∙ ap (λ (h : AuditState). put c.args.bucket c.args.key c.args.etags (at h.objects) b k) c.self-2.view_is);
    }
