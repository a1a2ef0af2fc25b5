-- The requests that a clean has left in a scene.
use Rattle.job_model.specs.Jobs.{Job}
use Rattle.job_protocol.specs.AtWork.{Driving}
use Rattle.job_protocol.specs.Cleanups.{Aborting, Clean, CleanOver, Naming, Removing, Sweeping, Walking}
use Rattle.list_walk.specs.Left.{files_left, sweep_left, uploads_left}
use Rattle.list_walk.specs.Walks.{sweep_start}
use Rattle.s3_types.specs.Store.{Scene}
use Rattle.s3_types.specs.declared.request.Committer.{Committer}
use Rattle.s3_types.specs.declared.request.Committer.TheVariants.{Magic}
use Rattle.std.specs.Prelude.{codes, length, ℕ, ◌++◌, ◌+◌}
use Rattle.magic_paths.specs.Layout as layout

-- How many requests follow the aborts of uploads: those of the sweep, or the list of the files and the deletion of each.
abbrev pub after_left : Committer → Job → Scene → ℕ
after_left Magic j s = sweep_left j.dest.bucket (layout.magic_prefix j.dest.key j.job) sweep_start s
after_left _ j s = 1 + files_left (layout.cluster_prefix j.job) s

-- A bound on the requests that a clean has left.
abbrev pub left_at : Job → Clean → Scene → ℕ
left_at j (Walking found) s = uploads_left j.dest.bucket (j.dest.key ++ codes "/") found s + after_left j.committer j s
left_at j (Aborting u us) s = (1 + length us) + after_left j.committer j s
left_at j (Sweeping w) s = sweep_left j.dest.bucket (layout.magic_prefix j.dest.key j.job) w s
left_at j Naming s = 1 + files_left (layout.cluster_prefix j.job) s
left_at j (Removing p ps) s = 1 + length ps
left_at j (CleanOver end) s = 0

-- A bound on the requests that a plan's clean has left.
abbrev pub clean_left : Driving Clean → Scene → ℕ
clean_left m s = left_at m.plan m.operation s
