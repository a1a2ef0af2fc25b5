-- The plan of an attempt by its place in the script.
use Rattle.job_model.specs.JobScript.{Script}
use Rattle.job_model.specs.Jobs.{Task}
use Rattle.job_model.specs.Known.{nothing_known}
use Rattle.job_protocol.specs.AtWork.{task_of}
use Rattle.std.specs.Prelude.{Option, option_map, slice_get, ℕ}

-- The plan of the attempt at a place of the script, from 0 on, before it knows anything; none if no attempt is there.
abbrev pub task_at : Script → ℕ → ℕ → Option Task
task_at w minimum place = option_map (λ a. task_of w minimum a.0 nothing_known) (slice_get w.attempts place)
