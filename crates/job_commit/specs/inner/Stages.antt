-- The step of a job's commit, as the machine keeps it.
use Rattle.commit_lanes.specs.inner.Tables.{first_missed}
use Rattle.commit_lanes.specs.Undos.{undo_request}
use Rattle.job_commit.specs.declared.step.Next.{Next}
use Rattle.job_commit.specs.declared.step.Step.{Step}
use Rattle.job_model.specs.Jobs.{Job}
use Rattle.job_protocol.specs.JobCommits.{Commit, CommitOver, Fetching, Marking, Replacing, Reverting, Sets, all_commits, completing}
use Rattle.job_protocol.specs.JobCommits.{worn_completion}
use Rattle.job_protocol.specs.Lanes.{Turn, again, follow}
use Rattle.list_walk.specs.Walks.{Sweep}
use Rattle.s3_types.specs.declared.request.Request.{Request}
use Rattle.std.specs.Prelude.{Bool, List, None, false, length, map, ℕ, [], ◌++◌, ◌+◌, ◌∷◌}
use Rattle.job_model.specs.declared.ends.CommitEnd.TheVariants as ends
use Rattle.job_model.specs.declared.ends.FaultStage.TheVariants as stages
use Rattle.job_commit.specs.declared.step.Step.TheVariants as steps

-- The commit that has these requests of the revert left; `m` sends of the first got no answer.
abbrev pub reverting_from : ℕ → List Request → Commit
reverting_from m [] = CommitOver (ends.StoreFault stages.Complete)
reverting_from m (r ∷ rs) = Reverting r rs m

-- The commit whose deletion has these prefixes left, or whose deletion is over.
abbrev pub replacing_at : Sets → ℕ → Sweep → List (List ℕ) → Commit
replacing_at sets m sweep [] = completing sets [] []
replacing_at sets m sweep (p ∷ ps) = Replacing sets p ps sweep m

-- The operation, by the sets that were read and the machine's step.
abbrev pub operation_of : Sets → Step → Commit
operation_of sets (steps.Fetching m) = Fetching sets m
operation_of sets (steps.Replacing d m) = replacing_at sets m d.sweep d.prefixes
operation_of sets (steps.Completing l) = completing sets l.turns l.finished
operation_of sets (steps.Marking m) = Marking sets m
operation_of sets (steps.Reverting u m) = reverting_from m (map (undo_request (all_commits sets)) u)
operation_of sets (steps.Over end) = CommitOver end

-- ---- after the completion in turn: answered, not answered, out of retries

-- The commit after the completion in turn was answered.
abbrev pub answered : Job → Sets → List Turn → List ℕ → Commit
answered j sets [] finished = completing sets [] finished
answered j sets (x ∷ xs) finished = completing sets (xs ++ follow j.lanes (length (all_commits sets)) x.number) (x.number ∷ finished)

-- The commit after the completion in turn got no answer.
abbrev pub unanswered : Sets → Bool → List Turn → List ℕ → Commit
unanswered sets lost [] finished = completing sets [] finished
unanswered sets lost (x ∷ xs) finished = completing sets (xs ++ again x lost ∷ []) finished

-- The commit after the completion in turn exhausted its retries.
abbrev pub worn_out : Sets → List Turn → List ℕ → Commit
worn_out sets [] finished = completing sets [] finished
worn_out sets (x ∷ xs) finished = worn_completion sets x xs finished

-- The step after one more send without an answer, of a request that stays. Lanes keep their own counts.
abbrev pub counted : Step → Step
counted (steps.Fetching m) = steps.Fetching (m + 1)
counted (steps.Replacing d m) = steps.Replacing d (m + 1)
counted (steps.Completing l) = steps.Completing l
counted (steps.Marking m) = steps.Marking (m + 1)
counted (steps.Reverting u m) = steps.Reverting u (m + 1)
counted (steps.Over end) = steps.Over end

-- How many sends of the current request got no answer.
abbrev pub missed_in : Step → ℕ
missed_in (steps.Fetching m) = m
missed_in (steps.Replacing d m) = m
missed_in (steps.Completing l) = first_missed l.turns
missed_in (steps.Marking m) = m
missed_in (steps.Reverting u m) = m
missed_in (steps.Over end) = 0

-- Whether a send of the completion in turn was lost.
abbrev pub first_lost : List Turn → Bool
first_lost [] = false
first_lost (x ∷ xs) = x.lost

-- Whether a send of the current completion was lost.
abbrev pub lost_in : Step → Bool
lost_in (steps.Completing l) = first_lost l.turns
lost_in _ = false

-- The step of a commit that ended because memory ran out.
abbrev pub wanting : Next
wanting = record { step = steps.Over ends.NoMemory; asked = None }
