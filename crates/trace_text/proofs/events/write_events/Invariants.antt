use Rattle.std.proofs.Common.{◌++◌, ◌+◌, ◌≡◌, drop, string_bytes}
use Rattle.std.specs.List.{zip}
use Rattle.trace_text.specs.inner.Tapes.{Follows, left}
use Rattle.trace_text.specs.Trace.{event_lines}
use Rattle.trace_text.proofs.events.write_events.Given as goal

abbrev pub ghost-write_until : goal.ghost-write_until
ghost-write_until g a = g.opening

abbrev pub invariant-loop-place : goal.invariant-loop-place
invariant-loop-place g l = record {
  follows : Follows g.opening l.tape l.entries;
  text : string_bytes l.tape.text ++ event_lines (l.place + 1) (zip (drop l.place l.events) (drop l.place l.ends))
      (left l.commit g.opening l.tape l.entries)
      ≡ string_bytes l.fn.tape.text ++ event_lines 1 (zip l.events l.ends) (left l.commit g.opening l.fn.tape l.entries);
}
