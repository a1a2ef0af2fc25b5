use Rattle.text_and_lists.proofs.Options.{none_is}
use Rattle.block_stream.proofs.Invariant.{long_in, short_in}
use Rattle.block_stream.specs.inner.Kept.{front_of}
use Rattle.block_stream.specs.Stream.{Stream, wrote}
use Rattle.std.proofs.Common.{ap, length, refl, subst, sym, ◌*◌, ◌++◌, ◌+◌, ◌-◌, ◌<◌, ◌∙◌, ◌≤◌}
use Rattle.block_stream.proofs.stream.BlockStream.add.Goals as goal

pub invariant_of-self-then-piece-room : goal.invariant_of-self-then-piece-room
invariant_of-self-then-piece-room c =
    let s = c.self.inside in
    let few : s.count + length c.args.piece.now ≤ s.output.block * 10000 = subst
    (λ (m : Stream). m.count + length c.args.piece.now ≤ m.block * 10000) (sym c.self.view_is) c.requires.few in
    let short : length c.args.piece.now < s.output.block - length s.rest.items = subst (λ k. length c.args.piece.now < s.output.block - k)
    (c.len.ensures ∙ s.rest.ok.0) c.if-piece-room.true in
    (short_in s.output.mode s.output.bucket s.output.key s.output.block s.queue s.rest.items s.upload s.tags s.count s.closed s.end s.asked
    c.args.piece.now _ c.args.count
    (ap (λ (m : Stream). m.closed) c.self.view_is ∙ c.requires.unclosed) (none_is s.end (sym c.is_some.ensures ∙ c.if-is_some.false)) few
    c.self.invariant short
    c.in_ok-extend_from_slice.ensures.items (c.requires.count ∙ sym (ap (λ (m : Stream). m.count + length c.args.piece.now)
    c.self.view_is))).1

-- the fields after a piece that fills blocks
pub invariant_of-self-2 : goal.invariant_of-self-2
invariant_of-self-2 c =
    let s = c.self.inside in
    let few : s.count + length c.args.piece.now ≤ s.output.block * 10000 = subst
    (λ (m : Stream). m.count + length c.args.piece.now ≤ m.block * 10000) (sym c.self.view_is) c.requires.few in
    (long_in s.output.mode s.output.bucket s.output.key s.output.block s.queue s.rest.items s.upload s.tags s.count s.closed s.end s.asked
    c.put.new.place c.args.piece.now c.in-Ok.rest.items c.cut.new.queue c.follow.new.queue (front_of s.queue c.cut.new.queue)
    c.args.count (c.in_ok-asked.asked, c.in_ok-asked._end)
    (ap (λ (m : Stream). m.closed) c.self.view_is ∙ c.requires.unclosed) (none_is s.end (sym c.is_some.ensures ∙ c.if-is_some.false)) few
    c.self.invariant
    (c.in-Ok.ensures.joined ∙ ap (λ z. z ++ c.args.piece.now) c.as_slice-first.ensures.value) c.in-Ok.ensures.long c.in-Ok.ensures.rest
    (c.requires.count ∙ sym (ap (λ (m : Stream). m.count + length c.args.piece.now) c.self.view_is))
    refl c.put.ensures c.in_ok-asked.ensures.next c.in_ok-asked.ensures.added).1

pub returns-clause-ok : goal.returns-clause-ok
returns-clause-ok c =
    let s = c.self.inside in
    let few : s.count + length c.args.piece.now ≤ s.output.block * 10000 = subst
    (λ (m : Stream). m.count + length c.args.piece.now ≤ m.block * 10000) (sym c.self.view_is) c.requires.few in
    (long_in s.output.mode s.output.bucket s.output.key s.output.block s.queue s.rest.items s.upload s.tags s.count s.closed s.end s.asked
    c.put.new.place c.args.piece.now c.in-Ok.rest.items c.cut.new.queue c.follow.new.queue (front_of s.queue c.cut.new.queue)
    c.args.count (c.in_ok-asked.asked, c.in_ok-asked._end)
    (ap (λ (m : Stream). m.closed) c.self.view_is ∙ c.requires.unclosed) (none_is s.end (sym c.is_some.ensures ∙ c.if-is_some.false)) few
    c.self.invariant
    (c.in-Ok.ensures.joined ∙ ap (λ z. z ++ c.args.piece.now) c.as_slice-first.ensures.value) c.in-Ok.ensures.long c.in-Ok.ensures.rest
    (c.requires.count ∙ sym (ap (λ (m : Stream). m.count + length c.args.piece.now) c.self.view_is))
    refl c.put.ensures c.in_ok-asked.ensures.next c.in_ok-asked.ensures.added).0 ∙ ap (λ m. wrote m c.args.piece.now) c.self.view_is
