-- The attempts that the driver's commit has chosen, and those that `see` derives from the entries.
use Rattle.job_model.specs.JobScript.{Script}
use Rattle.job_protocol.specs.JobCommits.{Commit, Fetching}
use Rattle.job_protocol.specs.Seen.{Seen}
use Rattle.std.specs.Prelude.{List, length, slice_get, ℕ, ◌<◌, ◌≡◌}

-- For each task the commit has chosen the attempt that `see` derives, or both have none; the list is by task from 0 on.
abbrev pub ArePicked : Script → Seen → List ℕ → Type 0
ArePicked w s picked = (t : ℕ) → t < w.tasks → s.picks t ≡ slice_get picked t

-- While the commit reads, it has chosen one attempt for each set.
abbrev pub IsEachPicked : List ℕ → Commit → Type 0
IsEachPicked picked (Fetching sets n) = length picked ≡ length sets
IsEachPicked picked _ = Unit {0}
