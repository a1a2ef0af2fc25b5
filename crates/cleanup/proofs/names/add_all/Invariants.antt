use Rattle.job_protocol.specs.Sparing.{ref_of}
use Rattle.std.proofs.Common.{drop, map, ◌++◌, ◌≡◌}
use Rattle.cleanup.proofs.names.add_all.Given as goal

-- The uploads so far and those of the records that are left are all uploads.
abbrev pub invariant-loop-pending : goal.invariant-loop-pending
invariant-loop-pending l = l.named ++ map ref_of (drop l.pending-index l.commits) ≡ l.fn.named ++ map ref_of l.commits
