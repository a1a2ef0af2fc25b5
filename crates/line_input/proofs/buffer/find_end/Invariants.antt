use Rattle.std.proofs.Common.{◌≡◌, suc, ◌+◌, ◌-◌, ◌≤◌, length, max, take, true}
use Rattle.std.specs.List.{list_all}
use Rattle.text_and_lists.specs.Parts.{is_other}
use Rattle.line_input.specs.Reading.{unread}
use Rattle.line_input.specs.Buffers.{held_in}
use Rattle.line_input.specs.inner.Buffers.{IsSound}
use Rattle.line_input.proofs.buffer.find_end.Given as goal

abbrev pub invariant-loop-end : goal.invariant-loop-end
invariant-loop-end g l = record {
  sound : IsSound l.buffer;
  calm : g.Q.Source.faults l.input ≡ g.Q.Source.faults l.fn.input;
  same : unread (held_in l.buffer) (g.Q.Source.left l.input) ≡ unread (held_in l.fn.buffer) (g.Q.Source.left l.fn.input);
  searched : l.searched ≤ length (held_in l.buffer);
  clean : list_all (is_other 10) (take l.searched (held_in l.buffer)) ≡ true;
  few : length l.buffer.bytes.items ≤ max (length l.fn.buffer.bytes.items) (l.most + 65536);
}

abbrev pub decreases-loop-end : goal.decreases-loop-end
decreases-loop-end g l = suc l.most - length (held_in l.buffer)
