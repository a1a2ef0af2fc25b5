use Rattle.std.proofs.Common.{ap, ◌∙◌}
use Rattle.std.specs.Prelude.{slice_range}
use Rattle.line_input.specs.Reading.{unread}
use Rattle.line_input.specs.Buffers.{held_in}
use Rattle.line_input.proofs.Holding.{some_held}
use Rattle.line_input.proofs.Giving.{gives}
use Rattle.line_input.proofs.input.LineInput.next.Goals as goal

pub returns-in-Ok-clause-given : goal.returns-in-Ok-clause-given
returns-in-Ok-clause-given g c =
    let left = g.Q.Source.left in
    let b = c.find_end.new.buffer in
    let passed = c.pass_line-self-inside in
    gives c.args.most (held_in b) _ (held_in passed.new.buffer) _ (left c.find_end.new.input) c.in-Ok.end _
    (c.find_end.ensures.same ∙ ap (λ s. unread s.held (left c.args.input.now)) c.self.view_is)
    (some_held b.bytes.items b.given b.filled c.find_end.ensures.sound.filled)
    c.in-Ok.ensures.end
    (ap (λ l. slice_range l b.given passed.result) passed.ensures.same ∙ passed.ensures.line)
    passed.ensures.rest
