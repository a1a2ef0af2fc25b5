use Rattle.std.proofs.Common.{◌≡◌, ◌<◌, ap, arith, drop, length, length-drop, rules, take, ◌∙◌}
use Rattle.std.proofs.lemmas.List.{take_all, with_items_is}
use Rattle.std.specs.Vec.{with_items}
use Rattle.line_input.specs.Reading.{unread}
use Rattle.line_input.specs.Buffers.{held_in}
use Rattle.line_input.proofs.Holding.{still_unread, front_held, same_held, over}
use Rattle.line_input.proofs.buffer.fill.Goals as goal

pub returns-in-Ok-clause-same : goal.returns-in-Ok-clause-same
returns-in-Ok-clause-same g c =
    let left = g.Q.Source.left in
    let m = c.make_room.new.buffer in
    let ys = c.read_behind.new.bytes in
    let z : (with_items m.bytes ys).items ≡ ys = with_items_is m.bytes ys (search rules) in
    let e : take m.filled ys ≡ take m.filled m.bytes.items = c.read_behind.ensures.front ∙ ap (take m.filled) c.deref_mut.ensures.value in
    still_unread m.bytes.items ys _ (held_in c.args.buffer.now) m.given m.filled c.in-Ok.n (left c.args.input.now)
    (left c.read_behind.new.input) z c.make_room.ensures.sound.given e c.make_room.ensures.same c.in-Ok.ensures.taken

pub returns-in-Ok-clause-front : goal.returns-in-Ok-clause-front
returns-in-Ok-clause-front g c =
    let m = c.make_room.new.buffer in
    let ys = c.read_behind.new.bytes in
    let z : (with_items m.bytes ys).items ≡ ys = with_items_is m.bytes ys (search rules) in
    let e : take m.filled ys ≡ take m.filled m.bytes.items = c.read_behind.ensures.front ∙ ap (take m.filled) c.deref_mut.ensures.value in
    front_held m.bytes.items ys _ (held_in c.args.buffer.now) m.given m.filled c.in-Ok.n z c.make_room.ensures.sound.given e
    c.make_room.ensures.same

pub returns-in-Ok-clause-over : goal.returns-in-Ok-clause-over
returns-in-Ok-clause-over g c none =
    let left = g.Q.Source.left in
    let m = c.make_room.new.buffer in
    let ys = c.read_behind.new.bytes in
    let some : 0 < length (drop m.filled ys) = search (rules, length-drop) in
    over (left c.args.input.now) (left c.read_behind.new.input) c.in-Ok.n (drop m.filled ys) c.in-Ok.ensures.taken none some

pub returns-in-Err-clause-same : goal.returns-in-Err-clause-same
returns-in-Err-clause-same g c =
    let left = g.Q.Source.left in
    let m = c.make_room.new.buffer in
    let ys = c.read_behind.new.bytes in
    let z : (with_items m.bytes ys).items ≡ ys = with_items_is m.bytes ys (search rules) in
    let e : take m.filled ys ≡ take m.filled m.bytes.items = c.read_behind.ensures.front ∙ ap (take m.filled) c.deref_mut.ensures.value in
    let held = same_held m.bytes.items ys _ (held_in c.args.buffer.now) m.given m.filled z e c.make_room.ensures.same in
    ap (λ l. unread l (left c.read_behind.new.input)) held ∙ ap (unread (held_in c.args.buffer.now)) c.in-Err.ensures.same

pub returns-in-Err-clause-front : goal.returns-in-Err-clause-front
returns-in-Err-clause-front g c =
    let m = c.make_room.new.buffer in
    let ys = c.read_behind.new.bytes in
    let z : (with_items m.bytes ys).items ≡ ys = with_items_is m.bytes ys (search rules) in
    let e : take m.filled ys ≡ take m.filled m.bytes.items = c.read_behind.ensures.front ∙ ap (take m.filled) c.deref_mut.ensures.value in
    let was = held_in c.args.buffer.now in
    ap (take (length was)) (same_held m.bytes.items ys _ was m.given m.filled z e c.make_room.ensures.same) ∙ take_all (length was) was
    (omega arith)
