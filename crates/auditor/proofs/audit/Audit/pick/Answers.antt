use Rattle.std.proofs.Common.{IfNone, IfSome, List, ap, subst, sym, ◌∙◌}
use Rattle.audit_judge.specs.Following.{Follows}
use Rattle.audit_judge.specs.Picking.{IsPick, NoPick}
use Rattle.auditor.proofs.Taking.{follows_new, none_missing, some_least}
use Rattle.auditor.specs.AuditState.{AuditState}
use Rattle.auditor.proofs.audit.Audit.pick.Goals as goal

pub returns-clause-least : goal.returns-clause-least
returns-clause-least c lines t =
    some_least c.args.self.now lines t c.args.task c.pick.result
    (subst (λ (h : AuditState). IfSome c.pick.result (IsPick h.bench t.judged c.args.task)) c.self.view_is
    (c.pick.ensures.some t.judged (subst (λ (h : AuditState). Follows h.bench t.judged) (sym c.self.view_is)
    (follows_new c.args.self.now lines t c.requires.new))))

pub returns-clause-some : goal.returns-clause-some
returns-clause-some c below none =
    let lines = c.requires.told.0 in
    let t = c.requires.told.1 in
    none_missing c.args.self.now lines t c.args.task c.pick.result c.requires.new below
    (subst (λ (h : AuditState). IfNone c.pick.result (NoPick h.bench t.judged c.args.task)) c.self.view_is
    (c.pick.ensures.none t.judged (subst (λ (h : AuditState). Follows h.bench t.judged) (sym c.self.view_is)
    (follows_new c.args.self.now lines t c.requires.new)))) none
