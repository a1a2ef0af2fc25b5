use Rattle.job_setup.specs.inner.Files.{first_of}
use Rattle.list_walk.specs.Walks.{keys_on}
use Rattle.std.proofs.Common.{drop, ◌≡◌}
use Rattle.job_setup.proofs.files.first_behind.Given as goal

-- The first file is among the entries that are left.
abbrev pub invariant-loop-entry : goal.invariant-loop-entry
invariant-loop-entry l = first_of l.prefix (keys_on (drop l.entry-index l.entries)) ≡ first_of l.prefix (keys_on l.entries)
