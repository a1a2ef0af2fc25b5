use Rattle.commit_lanes.specs.inner.Relatives.{paths_below}
use Rattle.job_protocol.specs.JobCommits.{all_commits}
use Rattle.job_protocol.specs.Outputs.{ordered}
use Rattle.std.proofs.Common.{drop, length, ◌≡◌, ◌≤◌}
use Rattle.commit_lanes.proofs.marker.ordered_paths.Given as goal

abbrev pub invariant-loop-n : goal.invariant-loop-n
invariant-loop-n l = (l.n ≤ length l.places) × (l.paths.keys ≡ ordered (paths_below l.dest (drop l.n (all_commits l.sets))))

abbrev pub decreases-loop-n : goal.decreases-loop-n
decreases-loop-n l = l.n
