-- The laws of a job's operations that a world uses.
use Rattle.job_operations.proofs.Picking.{act_has_picks, act_leaves, act_picks}
use Rattle.job_operations.proofs.WorksBeside.{beside}
use Rattle.job_operations.proofs.WorksDue.{due}
use Rattle.job_operations.proofs.WorksGo.{asks, ends, goes}
use Rattle.job_operations.specs.Acts.{FitsAct, end_of, left_of, tells_of, wants_of}
use Rattle.job_operations.specs.Plans.{IsOf, picks_of, running_of}
use Rattle.job_operations.specs.Rising.{rise}
use Rattle.job_actor.specs.Works.{WorkLaws}

pub act_works : WorkLaws wants_of tells_of FitsAct end_of left_of IsOf running_of rise picks_of
act_works = record {
  asks = asks;
  due = due;
  goes = goes;
  ends = ends;
  beside = beside;
  has_picks = act_has_picks;
  picks = act_picks;
  leaves = act_leaves;
}
