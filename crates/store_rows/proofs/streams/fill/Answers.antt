use Rattle.std.proofs.Common.{◌++◌, ap, ◌∙◌}
use Rattle.block_stream.specs.Stream.{Stream}
use Rattle.store_rows.proofs.streams.fill.Goals as goal

pub loop-piece-init : goal.loop-piece-init
loop-piece-init c = (c.requires, λ scene repeated ready. ready)

pub loop-piece-preserved : goal.loop-piece-preserved
loop-piece-preserved c = (
  ap (λ (m : Stream). m.closed) c.in_ok-write.ensures.ok ∙ c.loop-piece.invariant.0,
  λ scene repeated ready.
      let kept = c.loop-piece.invariant.1 scene repeated ready in
      record {
        bytes = kept.bytes ++ c.as_bytes.result.now;
        holds = c.in_ok-write.ensures.holds scene repeated kept.bytes kept.holds;
      },
)

pub returns : goal.returns
returns c = λ scene repeated ready.
    let kept = c.loop-piece.invariant.1 scene repeated ready in
    record { bytes = kept.bytes; holds = c.in_ok-close.ensures.holds scene repeated kept.bytes kept.holds }
