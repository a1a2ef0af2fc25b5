use Rattle.text_and_lists.proofs.Reading.{with_front}
use Rattle.log_format.specs.Reading.{changes_at}
use Rattle.std.proofs.Common.{length, ◌-◌, ◌≡◌}
use Rattle.log_format.proofs.reading.add_changes.Given as goal

abbrev pub invariant-loop : goal.invariant-loop
invariant-loop l = with_front l.changes (changes_at (length l.bytes - l.counter) l.whole l.rest) ≡ with_front l.fn.changes
    (changes_at (length l.bytes) l.whole l.bytes)
