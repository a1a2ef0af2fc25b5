-- The plans that a script gives to the actors of its job.
use Rattle.job_actor.specs.declared.plan.Plan.{Plan}
use Rattle.job_actor.specs.declared.plan.Plan.TheVariants.{Job, Task}
use Rattle.job_model.specs.Known.{Known}
use Rattle.job_protocol.specs.AtWork.{job_of, task_of}
use Rattle.job_protocol.specs.Operations.{Setting, who}
use Rattle.s3_types.specs.declared.request.Actor.{Actor}
use Rattle.s3_types.specs.declared.request.Actor.TheVariants.{Attempt, Driver}
use Rattle.std.specs.Prelude.{◌≡◌}

-- The script gives this plan to this actor, who knows k.
abbrev pub IsPlanOf : Setting → Actor → Known → Plan → Type 0
IsPlanOf g Driver k (Job j) = j ≡ job_of g.script
IsPlanOf g (Attempt t a) k (Task p) = p ≡ task_of g.script g.minimum (who (Attempt t a)) k
IsPlanOf g a k plan = ⊥
