use Rattle.job_protocol.proofs.Wearing.{first_spent}
use Rattle.job_protocol.proofs.Faults.{faults}
use Rattle.job_protocol.proofs.wearing_out.Goals as goal

pub returns : goal.returns
returns c = record { faults = record { first = first_spent; fault = faults } }
