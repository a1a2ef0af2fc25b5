use Rattle.text_and_lists.specs.Words.{text_of}
use Rattle.job_script.specs.Print.{event_line}
use Rattle.std.proofs.Common.{drop, map, string_bytes, ◌++◌, ◌≡◌}
use Rattle.job_script.proofs.print_events.put_events.Given as goal

abbrev pub invariant-loop-event : goal.invariant-loop-event
invariant-loop-event l = string_bytes l.out ++ text_of (map event_line (drop l.event-index l.events)) ≡ string_bytes l.fn.out ++ text_of
    (map event_line l.events)
