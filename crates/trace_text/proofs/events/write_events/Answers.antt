use Rattle.std.proofs.Common.{◌+◌}
use Rattle.trace_text.specs.inner.Tapes.{left}
use Rattle.trace_text.proofs.Written.{all_events}
use Rattle.trace_text.proofs.events.write_events.Goals as goal

pub returns : goal.returns
returns g c =
    all_events (c.loop-place.place + 1) c.loop-place.place c.args.events.now c.args.ends.now
    (left c.args.commit g.opening c.loop-place.tape c.args.entries.now) _ _ c.loop-place-test.false c.loop-place.invariant.text
