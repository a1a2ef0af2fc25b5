use Rattle.machine.proofs.MachineLaws.{machine_laws}
use Rattle.machine.proofs.planned_machine.PlannedMachineMachine.laws.Goals as goal

pub returns : goal.returns
returns g c = machine_laws g.O.PlannedOperation.left g.met.O.PlannedOperation.laws
