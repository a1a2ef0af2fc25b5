use Rattle.text_and_lists.specs.Parts.{parts_of}
use Rattle.job_model.specs.Paths.{begins_hidden}
use Rattle.std.proofs.Common.{length, ◌≡◌}
use Rattle.std.specs.List.{list_any}
use Rattle.job_script.proofs.paths.is_hidden.Given as goal

abbrev pub invariant-loop-more : goal.invariant-loop-more
invariant-loop-more l = list_any begins_hidden (parts_of 47 l.path) ≡ list_any begins_hidden (parts_of 47 l.rest)

abbrev pub decreases-loop-more : goal.decreases-loop-more
decreases-loop-more l = length l.rest
