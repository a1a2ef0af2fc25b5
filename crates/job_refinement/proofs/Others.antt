-- Requests of others change nothing that is known of an attempt.
use Rattle.job_refinement.specs.MachinesFit.{OthersLeave}
use Rattle.std.proofs.Common.{arith}

pub others_leave : OthersLeave
others_leave = grind arith
