use Rattle.std.proofs.Common.{◌+◌, ◌-◌, ◌≡◌, ◌≤◌, length}
use Rattle.trace_text.specs.Trace.{unsent}
use Rattle.text_and_lists.proofs.EntriesFrom.{entries_from}
use Rattle.trace_text.proofs.counts.unsent.Given as goal

abbrev pub invariant-losses : goal.invariant-losses
invariant-losses l = record {
  low : l.count ≤ l.from;
  left : l.count + length (entries_from l.from l.fates) ≡ unsent l.fates l.sent;
}

abbrev pub decreases-losses : goal.decreases-losses
decreases-losses l = 1000000001 - l.from
