-- Definitions beside those of `Held` that no public contract cites.
use Rattle.cleanup.specs.declared.clean_state.CleanStage.{CleanStage}
use Rattle.cleanup.specs.declared.clean_state.CleanState.{CleanState}
use Rattle.s3_types.specs.declared.request.Committer.{Committer}
use Rattle.s3_types.specs.declared.request.Committer.TheVariants.{Magic}
use Rattle.std.specs.Prelude.{Bool, cond, length, nat_lt, true, ℕ}
use Rattle.job_model.specs.declared.ends.CleanEnd.TheVariants as ends
use Rattle.cleanup.specs.declared.clean_state.CleanStage.TheVariants as stages

-- True if the place is below the number of uploads or paths.
abbrev pub within : CleanStage → ℕ → ℕ → ℕ → Bool
within stages.Aborting at uploads paths = nat_lt at uploads
within stages.Removing at uploads paths = nat_lt at paths
within _ at uploads paths = true

-- True if the place is that of a kept upload or path.
abbrev pub within_of : CleanState → Bool
within_of h = within h.stage h.at (length h.uploads) (length h.paths)

-- The stage after all uploads are aborted.
abbrev pub stage_after : Committer → CleanStage
stage_after Magic = stages.Sweeping
stage_after _ = stages.Naming

-- The stage at a place among the uploads, or after the last one.
abbrev pub abort_stage : Committer → ℕ → ℕ → CleanStage
abort_stage committer at len = cond (nat_lt at len) stages.Aborting (stage_after committer)

-- The stage at a place among the cluster's files, or after the last one.
abbrev pub remove_stage : ℕ → ℕ → CleanStage
remove_stage at len = cond (nat_lt at len) stages.Removing (stages.Over ends.Done)
