-- A magic attempt's write of its files, by the place and the stage of the next one.
use Rattle.job_model.specs.Jobs.{Task}
use Rattle.job_protocol.specs.AtWork.{write_wants}
use Rattle.job_protocol.specs.Writes.{Write}
use Rattle.task_magic.specs.declared.write.Writing.{Writing}
use Rattle.task_requests.specs.Writing.{IsWrite, seen_write, write_by}

-- The write that the kept values represent.
abbrev pub operation_of : Task → Writing → Write
operation_of t w = write_by t w.place w.stage w.end

-- What a write keeps is true of its plan: the attempt's directory, its known upload, and a current file until it ends.
abbrev pub Keeps : Task → Writing → Type 0
Keeps t w = IsWrite t w.dir w.place w.stage w.end (write_wants (seen_write t w.place w.stage w.end))
