use Rattle.std.proofs.Common.{◌++◌, ◌-◌, ◌≡◌, length, string_bytes}
use Rattle.std.specs.List.{flat_map}
use Rattle.trace_text.specs.Sends.{send_lines}
use Rattle.trace_text.specs.inner.Tapes.{Follows, left}
use Rattle.trace_text.proofs.sends.write_all.Given as goal

abbrev pub invariant-sends : goal.invariant-sends
invariant-sends g l = record {
  follows : Follows g.opening l.tape l.entries;
  text : string_bytes l.tape.text ++ flat_map send_lines (left l.commit g.opening l.tape l.entries)
      ≡ string_bytes l.fn.tape.text ++ flat_map send_lines (left l.commit g.opening l.fn.tape l.entries);
}

abbrev pub decreases-sends : goal.decreases-sends
decreases-sends g l = length l.entries - l.tape.at
