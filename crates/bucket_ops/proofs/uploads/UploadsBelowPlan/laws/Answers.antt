use Rattle.bucket_ops.proofs.UploadLaws.{uploads_asked, uploads_plan}
use Rattle.operations.proofs.CourseLaws.{calm_of}
use Rattle.operations.proofs.PlanLaws.{course_of}
use Rattle.bucket_ops.proofs.uploads.UploadsBelowPlan.laws.Goals as goal

pub returns-clause-course : goal.returns-clause-course
returns-clause-course c = course_of uploads_plan

pub returns-clause-asked : goal.returns-clause-asked
returns-clause-asked c = uploads_asked

pub returns-clause-calms : goal.returns-clause-calms
returns-clause-calms c = calm_of (course_of uploads_plan)
