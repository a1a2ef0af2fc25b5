use Rattle.task_operation.proofs.WriteFalls.{write_falls}
use Rattle.task_operation.proofs.laws.writes_end.Goals as goal

pub returns : goal.returns
returns c = record { falls = write_falls }
