use Rattle.std.proofs.Common.{◌∙◌, ap, length}
use Rattle.audit_judge.proofs.Heading.{up_more}
use Rattle.audit_judge.proofs.known.Known.all_up.Goals as goal

pub loop-attempts-preserved : goal.loop-attempts-preserved
loop-attempts-preserved c = up_more c.loop-attempts.rows.items c.push.new.self.items _ c.in_ok-flags.flags c.len.result
    c.loop-attempts.attempts-iterator c.next.new.self (c.in-Some.field-0-0.now, c.in-Some.attempts.now) c.loop-attempts.invariant
    c.in-Some.ensures.steps c.in_ok-flags.ensures.up (c.len.ensures.len ∙ ap length c.held.ensures.entries) c.in_ok-push.ensures.items
