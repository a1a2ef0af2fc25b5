use Rattle.job_protocol.proofs.Tabled.{goes_on, starts}
use Rattle.job_protocol.proofs.operations.Goals as goal

pub returns : goal.returns
returns c = record { table = record { goes_on = goes_on; starts = starts } }
