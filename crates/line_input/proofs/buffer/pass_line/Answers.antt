use Rattle.std.proofs.Common.{ap, sym, ◌∙◌}
use Rattle.line_input.specs.Buffers.{held_in}
use Rattle.line_input.specs.inner.Buffers.{rest_at}
use Rattle.line_input.proofs.Holding.{rest_range}
use Rattle.line_input.proofs.buffer.pass_line.Goals as goal

pub returns-in-Some-clause-rest : goal.returns-in-Some-clause-rest
returns-in-Some-clause-rest c =
    let b = c.args.buffer.now in
    rest_range b.bytes.items b.given b.filled c.in-Some.n ∙ ap (rest_at (held_in b)) (sym c.in-Some.is)
