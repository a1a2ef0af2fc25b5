use Rattle.s3a_top.proofs.Naming.{named_said, named_trace}
use Rattle.s3a_top.specs.Commands.{may_read}
use Rattle.s3a_words.specs.declared.command.Command.{Command}
use Rattle.std.proofs.Common.{Option, false, subst, sym, ◌∙◌, ◌≡◌}
use Rattle.s3a_top.proofs.top.worked.Goals as goal

pub returns-then-asks_trace-clause-unread : goal.returns-then-asks_trace-clause-unread
returns-then-asks_trace-clause-unread g c e =
    let asks = sym c.asks_trace.ensures ∙ c.if-asks_trace.true in
    c.traced.ensures.unread (subst (λ (o : Option Command). may_read o ≡ false) (named_trace c.args.words.now asks) e)

pub returns-else-asks_trace-clause-unread : goal.returns-else-asks_trace-clause-unread
returns-else-asks_trace-clause-unread g c e =
    let asks = sym c.asks_trace.ensures ∙ c.if-asks_trace.false in
    c.do_words.ensures.unread (subst (λ (o : Option Command). may_read o ≡ false) (named_said c.args.words.now asks) e)
