use Rattle.operations.proofs.CourseLaws.{course_laws}
use Rattle.operations.proofs.operation.OperationMachine.laws.Goals as goal

pub returns : goal.returns
returns g c = course_laws c.laws.ensures.course
