use Rattle.text_and_lists.proofs.Options.{none_is}
use Rattle.block_stream.proofs.Invariant.{close_in}
use Rattle.block_stream.proofs.Written.{asked_closed, holds_closed, shut_ended}
use Rattle.block_stream.specs.Kept.{seen}
use Rattle.block_stream.specs.inner.Kept.{front_of, last_of}
use Rattle.block_stream.specs.Stream.{Stream, close, shut}
use Rattle.std.proofs.Common.{ap, refl, sym, ◌∙◌}
use Rattle.block_stream.proofs.stream.BlockStream.close.Goals as goal

-- the fields after the close
pub invariant_of-self-2 : goal.invariant_of-self-2
invariant_of-self-2 c =
    let s = c.self.inside in
    (close_in s.output.mode s.output.bucket s.output.key s.output.block s.queue s.rest.items s.upload s.tags s.count s.closed s.end s.asked
    c.put.new.place c.new.result.items c.in_ok-last.last c.follow.new.queue (front_of s.queue c.in_ok-last.last)
    (c.in_ok-asked.asked, c.in_ok-asked.end)
    (ap (λ (m : Stream). m.closed) c.self.view_is ∙ c.requires) (none_is s.end (sym c.is_some.ensures ∙ c.if-is_some.false))
    c.self.invariant
    (c.in_ok-last.ensures ∙ ap last_of c.as_slice.ensures.value) refl c.put.ensures c.in_ok-asked.ensures.next c.in_ok-asked.ensures.added
    c.new.ensures.items).1

pub returns-clause-ok : goal.returns-clause-ok
returns-clause-ok c =
    let s = c.self.inside in
    (close_in s.output.mode s.output.bucket s.output.key s.output.block s.queue s.rest.items s.upload s.tags s.count s.closed s.end s.asked
    c.put.new.place c.new.result.items c.in_ok-last.last c.follow.new.queue (front_of s.queue c.in_ok-last.last)
    (c.in_ok-asked.asked, c.in_ok-asked.end)
    (ap (λ (m : Stream). m.closed) c.self.view_is ∙ c.requires) (none_is s.end (sym c.is_some.ensures ∙ c.if-is_some.false))
    c.self.invariant
    (c.in_ok-last.ensures ∙ ap last_of c.as_slice.ensures.value) refl c.put.ensures c.in_ok-asked.ensures.next c.in_ok-asked.ensures.added
    c.new.ensures.items).0 ∙ ap close c.self.view_is

pub returns-clause-holds : goal.returns-clause-holds
returns-clause-holds c = holds_closed c.args.self.now _ c.requires (returns-clause-ok c)

pub returns-clause-asked : goal.returns-clause-asked
returns-clause-asked c = asked_closed c.args.self.now _ c.requires (returns-clause-ok c)

-- the stream had already ended
pub returns-then-is_some-clause-holds : goal.returns-then-is_some-clause-holds
returns-then-is_some-clause-holds c =
    let s = c.self.inside in
    let m = seen s.output.mode s.output.bucket s.output.key s.output.block s.queue s.rest.items s.upload s.tags s.count s.closed s.end in
    holds_closed c.args.self.now (shut m) c.requires (shut_ended m (sym c.is_some.ensures ∙ c.if-is_some.true) ∙ ap close c.self.view_is)
