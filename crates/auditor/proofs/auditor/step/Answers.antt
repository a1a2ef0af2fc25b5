use Rattle.std.proofs.Common.{Some, subst, sym}
use Rattle.audit_model.specs.Recorded.{after}
use Rattle.auditor.proofs.Taking.{still}
use Rattle.auditor.specs.inner.AuditState.{GoesBy}
use Rattle.trace_reader.specs.declared.line.TraceLine.{TraceLine}
use Rattle.auditor.proofs.auditor.step.Goals as goal

pub returns-in-Still : goal.returns-in-Still
returns-in-Still c = record {
  stepped = λ r m a. subst (λ (l : TraceLine). GoesBy c.args.audit.now m (after (Some r) l)) (sym c.in-Still.is)
      (still c.args.audit.now r m a);
}
