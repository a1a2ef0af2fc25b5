use Rattle.s3a_top.proofs.Pieces.{ended_read, full_read, more_taken}
use Rattle.std.proofs.Common.{arith, rules}
use Rattle.std.proofs.lemmas.List.{length-take}
use Rattle.s3a_top.proofs.input.read_input.Goals as goal

pub returns-in-Ok-eq0-clause-read : goal.returns-in-Ok-eq0-clause-read
returns-in-Ok-eq0-clause-read g c =
    let left = g.Q.Source.left in
    ended_read (left c.args.input.now) (left c.loop-chunk.input) (left c.read.new.self) c.loop-chunk.all.items c.in-Ok-eq0.field-0
    c.read.new.buffer (omega arith) c.loop-chunk.invariant.read c.in-Ok-eq0.ensures.taken (omega arith) (search rules)

pub returns-clause-read : goal.returns-clause-read
returns-clause-read g c =
    let left = g.Q.Source.left in
    full_read (left c.args.input.now) (left c.loop-chunk.input) c.loop-chunk.all.items (omega arith) c.loop-chunk.invariant.read

pub returns-in-Ok-eq0-clause-part : goal.returns-in-Ok-eq0-clause-part
returns-in-Ok-eq0-clause-part g c =
    let left = g.Q.Source.left in
    more_taken (left c.args.input.now) (left c.loop-chunk.input) (left c.read.new.self) c.loop-chunk.all.items c.in-Ok-eq0.field-0
    c.read.new.buffer (omega arith) c.loop-chunk.invariant.read c.in-Ok-eq0.ensures.taken

pub returns-then-is_err-clause-part : goal.returns-then-is_err-clause-part
returns-then-is_err-clause-part g c =
    let left = g.Q.Source.left in
    more_taken (left c.args.input.now) (left c.loop-chunk.input) (left c.read.new.self) c.loop-chunk.all.items c.in-Ok.n c.read.new.buffer
    (omega (arith, c.in-Ok.ensures.count, length-take c.min-room.result c.loop-chunk.chunk)) c.loop-chunk.invariant.read
    c.in-Ok.ensures.taken
