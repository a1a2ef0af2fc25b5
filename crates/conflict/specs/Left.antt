-- The requests that a check before a commit has left in a scene.
use Rattle.conflict.specs.Rechecks.{PlannedCheck}
use Rattle.job_model.specs.Jobs.{Job}
use Rattle.job_protocol.specs.Rechecks.{Check, CheckOver, Looking, Probing}
use Rattle.list_walk.specs.Left.{walk_left}
use Rattle.s3_types.specs.Store.{Scene}
use Rattle.std.specs.Prelude.{codes, length, ℕ, ◌++◌, ◌+◌}

-- A bound on the requests that a check has left: the pages, or one for each partition.
abbrev pub left_at : Job → Check → Scene → ℕ
left_at j (Looking keys) s = walk_left j.dest.bucket (j.dest.key ++ codes "/") keys s
left_at j (Probing d ds) s = 1 + length ds
left_at j (CheckOver end) s = 0

-- A bound on the requests that a plan's check has left.
abbrev pub check_left : PlannedCheck → Scene → ℕ
check_left m s = left_at m.plan.job m.operation s
