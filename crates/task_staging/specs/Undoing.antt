-- A staging attempt's abort, by how many of its uploads are aborted and its end.
use Rattle.job_model.specs.Jobs.{Task}
use Rattle.job_model.specs.Known.{Drawn, Known}
use Rattle.job_model.specs.declared.ends.TaskEnd.{TaskEnd}
use Rattle.job_protocol.specs.Knowledge.{as_made}
use Rattle.job_protocol.specs.TaskAborts.{Dropping, Removing, TaskAbort, TaskAbortOver}
use Rattle.std.specs.Prelude.{Bool, List, None, Option, Some, drop, ℕ, [], ◌∷◌}
use Rattle.task_staging.specs.declared.undoing.Undoing.{Undoing}

-- The abort that still has to abort these uploads and then deletes the temporary file.
abbrev pub abort_from : List Drawn → Bool → TaskAbort
abort_from [] sent = Removing
abort_from (d ∷ ds) sent = Dropping d ds sent

-- The abort that has aborted this many of the known uploads, or that has ended.
abbrev pub abort_by : Known → ℕ → Option TaskEnd → TaskAbort
abort_by k at None = abort_from (drop at (as_made k.drawn)) k.put_sent
abort_by k at (Some end) = TaskAbortOver end

-- The task abort that the kept values represent.
abbrev pub abort_of : Task → Undoing → TaskAbort
abort_of t h = abort_by t.known h.at h.end
