-- A magic attempt's abort, by how many of its uploads are aborted, its sweep and its end.
use Rattle.job_model.specs.Jobs.{Task}
use Rattle.job_model.specs.Known.{Drawn, Known}
use Rattle.job_model.specs.declared.ends.TaskEnd.{TaskEnd}
use Rattle.job_protocol.specs.Knowledge.{as_made}
use Rattle.job_protocol.specs.TaskAborts.{Dropping, Sweeping, TaskAbort, TaskAbortOver}
use Rattle.list_walk.specs.Walks.{Sweep}
use Rattle.std.specs.Prelude.{Bool, List, None, Option, Some, drop, ℕ, [], ◌∷◌}
use Rattle.task_magic.specs.declared.undoing.Undoing.{Undoing}

-- ---- how far an abort has come

-- The abort that still has to abort these uploads and then goes on with the sweep.
abbrev pub abort_from : List Drawn → Bool → Sweep → TaskAbort
abort_from [] sent s = Sweeping s
abort_from (d ∷ ds) sent s = Dropping d ds sent

-- The abort that has aborted this many of the known uploads, or that has ended.
abbrev pub abort_by : Known → ℕ → Sweep → Option TaskEnd → TaskAbort
abort_by k at s None = abort_from (drop at (as_made k.drawn)) k.put_sent s
abort_by k at s (Some end) = TaskAbortOver end

-- The task abort that the kept values represent.
abbrev pub abort_of : Task → Undoing → TaskAbort
abort_of t h = abort_by t.known h.at h.sweep h.end
