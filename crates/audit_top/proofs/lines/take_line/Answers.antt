use Rattle.std.proofs.Common.{Bool, List, Option, rules, subst, sym, true, false, ℕ, ◌≡◌}
use Rattle.audit_top.proofs.Progress.{next_step, over_step}
use Rattle.audit_top.specs.inner.Progress.{LineTaken}
use Rattle.line_input.specs.Reading.{Gives, unread}
use Rattle.trace_reader.specs.Reading.{MOST_BYTES}
use Rattle.audit_top.proofs.lines.take_line.Goals as goal

pub returns-in-Ok-true-clause-right : goal.returns-in-Ok-true-clause-right
returns-in-Ok-true-clause-right g c left n at =
    let is : c.in-Ok-true.field-0 ≡ true = search rules in
    next_step left c.args.auditor.now c.judge_line.new.auditor (unread c.args.reader.now.held (g.Q.Source.left c.args.input.now))
    (unread c.next.new.self.held (g.Q.Source.left c.next.new.input)) c.next.new.self.line c.judge_line.result n at
    (subst (λ (b : Bool). Gives b MOST_BYTES (unread c.args.reader.now.held (g.Q.Source.left c.args.input.now)) c.next.new.self.line
    (unread c.next.new.self.held (g.Q.Source.left c.next.new.input))) is c.in-Ok-true.ensures.given)
    (subst (λ (l : List ℕ). LineTaken c.args.auditor.now c.judge_line.new.auditor l c.judge_line.result) c.line.ensures
    c.judge_line.ensures.taken)

pub returns-in-Ok-false-clause-right : goal.returns-in-Ok-false-clause-right
returns-in-Ok-false-clause-right g c left n at =
    let is : c.in-Ok-false.field-0 ≡ false = search rules in
    over_step left c.args.auditor.now (unread c.args.reader.now.held (g.Q.Source.left c.args.input.now))
    (unread c.next.new.self.held (g.Q.Source.left c.next.new.input)) c.next.new.self.line n at
    (subst (λ (b : Bool). Gives b MOST_BYTES (unread c.args.reader.now.held (g.Q.Source.left c.args.input.now)) c.next.new.self.line
    (unread c.next.new.self.held (g.Q.Source.left c.next.new.input))) is c.in-Ok-false.ensures.given)
