-- What an outcome means for a commit.
use Rattle.commit_lanes.specs.Fitting.{missed_of}
use Rattle.job_protocol.specs.AtWork.{Committing}
use Rattle.job_protocol.specs.JobCommits.{Commit, Completing}
use Rattle.machine.specs.declared.retrying.Turn.{Turn}
use Rattle.s3_types.specs.declared.journal.Outcome.{Outcome}
use Rattle.s3_types.specs.declared.journal.Outcome.TheVariants.{Answered}
use Rattle.std.specs.Prelude.{Bool, cond, false, nat_lt}
use Rattle.machine.specs.declared.retrying.Turn.TheVariants as turns

-- After a send without an answer: the request is sent again, or has exhausted its retries.
abbrev pub turn_unanswered : Committing → Turn
turn_unanswered m = cond (nat_lt (missed_of m.operation) m.plan.retries) turns.Again turns.WornOut

-- What the outcome of a send means: answered, to be sent again, or out of retries.
abbrev pub turn_of : Committing → Outcome → Turn
turn_of m (Answered r) = turns.Moved
turn_of m _ = turn_unanswered m

-- Whether a send of the current completion was lost.
abbrev pub lost_of : Commit → Bool
lost_of (Completing sets x xs finished) = x.lost
lost_of _ = false
