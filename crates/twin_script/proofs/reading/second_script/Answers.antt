use Rattle.job_script.specs.Script.{script_of}
use Rattle.std.proofs.Common.{ap}
use Rattle.twin_script.proofs.Pair.{second_fails}
use Rattle.twin_script.specs.Twins.{within}
use Rattle.twin_script.specs.declared.fault.TwinFault.TheVariants as fault
use Rattle.twin_script.proofs.reading.second_script.Goals as goal

pub returns-in-Ok-clause-exact : goal.returns-in-Ok-clause-exact
returns-in-Ok-clause-exact c = ap (within fault.Second) c.in-Ok.ensures.exact

pub returns-in-Err : goal.returns-in-Err
returns-in-Err c = second_fails c.in-Err.fault _ (script_of c.args.part.now) c.second_fault.ensures c.in-Err.ensures.exact
