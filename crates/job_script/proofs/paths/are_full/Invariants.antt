use Rattle.text_and_lists.specs.Parts.{parts_of}
use Rattle.job_model.specs.Paths.{is_full}
use Rattle.std.proofs.Common.{length, ◌≡◌}
use Rattle.std.specs.List.{list_all}
use Rattle.job_script.proofs.paths.are_full.Given as goal

abbrev pub invariant-loop-more : goal.invariant-loop-more
invariant-loop-more l = list_all is_full (parts_of 47 l.path) ≡ list_all is_full (parts_of 47 l.rest)

abbrev pub decreases-loop-more : goal.decreases-loop-more
decreases-loop-more l = length l.rest
