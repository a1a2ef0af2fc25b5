use Rattle.std.proofs.Common.{length, ◌≡◌}
use Rattle.std.specs.List.{list_all}
use Rattle.text_and_lists.specs.Parts.{parts_of}
use Rattle.trace_reader.specs.Reading.{is_some_text}
use Rattle.trace_reader.proofs.paths.are_some.Given as goal

abbrev pub invariant-loop-more : goal.invariant-loop-more
invariant-loop-more l = list_all is_some_text (parts_of 47 l.path) ≡ list_all is_some_text (parts_of 47 l.rest)

abbrev pub decreases-loop-more : goal.decreases-loop-more
decreases-loop-more l = length l.rest
