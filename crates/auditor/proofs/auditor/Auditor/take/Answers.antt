use Rattle.std.proofs.Common.{Err, None, Ok, Option, Some, rules, subst, sym, ◌≡◌}
use Rattle.auditor.proofs.Taking.{StageOf, begun_taken, some_due, stepped, unbegun, unread}
use Rattle.auditor.specs.AuditState.{AuditState}
use Rattle.auditor.specs.SoFar.{IsOfSome, Taken}
use Rattle.auditor.proofs.auditor.Auditor.take.Goals as goal

pub returns-in-Err : goal.returns-in-Err
returns-in-Err c = record {
  right = unread c.args.self.now None c.args.line.now c.stage.result c.in-Err.fault c.stage.ensures.stage c.in-Err.ensures;
}

pub step-requires-clause-due : goal.step-requires-clause-due
step-requires-clause-due c =
    let is : c.args.self.now ≡ Some c.in-Some.audit = search rules in
    some_due c.in-Some.audit c.args.line.now c.in-Ok.line c.stage.result (subst IsOfSome is c.requires.told)
    (subst (λ (k : Option AuditState). StageOf k c.stage.result) is c.stage.ensures.stage) c.in-Ok.ensures

pub returns-in-Some : goal.returns-in-Some
returns-in-Some c =
    let is : c.args.self.now ≡ Some c.in-Some.audit = search rules in
    record {
      right = subst (λ (k : Option AuditState). Taken k (Some c.step.new.audit) c.args.line.now c.step.result) (sym is)
          (stepped c.in-Some.audit c.step.new.audit c.args.line.now c.in-Ok.line c.stage.result c.step.result
          (subst (λ (k : Option AuditState). StageOf k c.stage.result) is c.stage.ensures.stage) c.in-Ok.ensures c.step.ensures.stepped);
    }

pub returns-in-Ok-first : goal.returns-in-Ok-first
returns-in-Ok-first c =
    let is : c.args.self.now ≡ None = search rules in
    record {
      right = subst (λ (k : Option AuditState). Taken k (Some c.in-Ok-first.audit) c.args.line.now (Ok None)) (sym is)
          (begun_taken c.in-Ok-first.audit c.args.line.now c.in-Ok.line c.stage.result
          (subst (λ (k : Option AuditState). StageOf k c.stage.result) is c.stage.ensures.stage) c.in-Ok.ensures
          c.in-Ok-first.ensures.begins);
    }

pub returns-in-Err-first : goal.returns-in-Err-first
returns-in-Err-first c =
    let is : c.args.self.now ≡ None = search rules in
    record {
      right = subst (λ (k : Option AuditState). Taken k None c.args.line.now (Err c.in-Err-first.fault)) (sym is)
          (unbegun None c.args.line.now c.in-Ok.line c.stage.result c.in-Err-first.fault
          (subst (λ (k : Option AuditState). StageOf k c.stage.result) is c.stage.ensures.stage) c.in-Ok.ensures
          c.in-Err-first.ensures.begins);
    }
