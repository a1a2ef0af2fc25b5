-- Definitions beside those of `Spares` that no public contract cites.
use Rattle.job_invariant.specs.Facts.{IsAttempt}
use Rattle.job_model.specs.Attempts.{Who}
use Rattle.job_model.specs.JobScript.{Script}
use Rattle.job_protocol.specs.Seen.{is_staging}
use Rattle.job_protocol.specs.TaskCommits.{temporary_path}
use Rattle.magic_paths.specs.Layout.{cluster_prefix, staged_set_path}
use Rattle.s3_types.specs.Pages.{begins}
use Rattle.s3_types.specs.Store.{Scene}
use Rattle.std.specs.Prelude.{List, Some, true, ℕ, ◌<◌, ◌≡◌, ◌⊎◌}
use Rattle.std.specs.FinMap as fin

-- The path is that of an attempt's temporary file or of a task's set.
abbrev pub IsOwnPath : Script → List ℕ → Type 0
IsOwnPath w p = ((a : Who) × IsAttempt w a × (p ≡ temporary_path w a)) ⊎ ((t : ℕ) × (t < w.tasks) × (p ≡ staged_set_path w.job t))

-- With a staging committer each file below the job's directory in the cluster has such a path.
abbrev pub Filed : Script → Scene → Type 0
Filed w s = is_staging w.committer ≡ true → (p bytes : List ℕ) → begins (cluster_prefix w.job) p ≡ true → fin.get s.files p ≡ Some bytes
    → IsOwnPath w p
