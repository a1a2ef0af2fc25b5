use Rattle.cluster_fs.specs.inner.Cluster.{Follows}
use Rattle.s3_types.specs.Pages.{begins}
use Rattle.std.proofs.Common.{length, ◌++◌, ◌≡◌}
use Rattle.std.specs.List.{filter}
use Rattle.std.specs.Map.{keys_of}
use Rattle.cluster_fs.proofs.cluster.paths_of.Given as goal

-- The paths so far and those that are left are all.
abbrev pub invariant-loop-path : goal.invariant-loop-path
invariant-loop-path l = record {
  told : l.paths.items ++ filter (begins l.prefix) (keys_of l.rest) ≡ filter (begins l.prefix) (keys_of l.fn.rest);
  follows : Follows l.prefix (keys_of l.rest);
}

abbrev pub decreases-loop-path : goal.decreases-loop-path
decreases-loop-path l = length l.rest
