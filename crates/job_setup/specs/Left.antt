-- The requests that a set-up has left in a scene.
use Rattle.job_model.specs.Jobs.{Job}
use Rattle.job_protocol.specs.AtWork.{Driving}
use Rattle.job_protocol.specs.Setup.{Checking, Clearing, Heading, Setup, SetupOver, Sweeping}
use Rattle.list_walk.specs.Left.{sweep_left, walk_left}
use Rattle.list_walk.specs.Walks.{sweep_start}
use Rattle.s3_types.specs.Store.{Scene}
use Rattle.s3_types.specs.declared.request.Committer.{Committer}
use Rattle.s3_types.specs.declared.request.Committer.TheVariants.{Magic}
use Rattle.std.specs.Prelude.{codes, ℕ, [], ◌++◌, ◌+◌}
use Rattle.magic_paths.specs.Layout as layout

-- How many requests follow the deletion of the marker.
abbrev pub cleared_left : Committer → Job → Scene → ℕ
cleared_left Magic j s = sweep_left j.dest.bucket (layout.magic_prefix j.dest.key j.job) sweep_start s
cleared_left _ j s = 0

-- A bound on the requests that a set-up has left.
abbrev pub left_at : Job → Setup → Scene → ℕ
left_at j Heading s = 2 + walk_left j.dest.bucket (j.dest.key ++ codes "/") [] s + cleared_left j.committer j s
left_at j (Checking keys) s = 1 + walk_left j.dest.bucket (j.dest.key ++ codes "/") keys s + cleared_left j.committer j s
left_at j Clearing s = 1 + cleared_left j.committer j s
left_at j (Sweeping w) s = sweep_left j.dest.bucket (layout.magic_prefix j.dest.key j.job) w s
left_at j (SetupOver end) s = 0

-- A bound on the requests that a plan's set-up has left.
abbrev pub setup_left : Driving Setup → Scene → ℕ
setup_left m s = left_at m.plan m.operation s
