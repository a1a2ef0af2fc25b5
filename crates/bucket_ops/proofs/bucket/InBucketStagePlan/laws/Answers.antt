use Rattle.bucket_ops.proofs.PhaseLaws.{asked_in, in_bucket}
use Rattle.operations.proofs.CourseLaws.{calm_of}
use Rattle.operations.proofs.PlanLaws.{course_of}
use Rattle.bucket_ops.proofs.bucket.InBucketStagePlan.laws.Goals as goal

pub returns-clause-course : goal.returns-clause-course
returns-clause-course g c = course_of (in_bucket c.laws.ensures.phases)

pub returns-clause-asked : goal.returns-clause-asked
returns-clause-asked g c = asked_in c.laws.ensures.phases g.O.Phases.sends c.laws.ensures.asked

pub returns-clause-calms : goal.returns-clause-calms
returns-clause-calms g c = calm_of (course_of (in_bucket c.laws.ensures.phases))
