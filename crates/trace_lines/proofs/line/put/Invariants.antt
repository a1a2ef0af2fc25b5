use Rattle.std.proofs.Common.{◌≡◌}
use Rattle.trace_lines.proofs.Places.{Passes}
use Rattle.trace_lines.specs.Members.{data_of}
use Rattle.trace_lines.proofs.line.put.Given as goal

abbrev pub invariant-loop-at : goal.invariant-loop-at
invariant-loop-at l = record {
  same : l.members.items ≡ l.initial.members.items;
  passes : Passes l.members.items l.at l.member.name.now (data_of l.member.value);
}
