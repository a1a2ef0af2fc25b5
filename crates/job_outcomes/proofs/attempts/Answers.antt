use Rattle.job_outcomes.proofs.Gone.{gone_cleaned, done_published}
use Rattle.job_outcomes.proofs.TaskEnds.{task_ends, task_joined}
use Rattle.job_outcomes.proofs.attempts.Goals as goal

pub returns : goal.returns
returns c = record {
  end = record {
    ends = task_ends;
    gone = λ g j k opening is_opening es x run a op name at not_abort e. gone_cleaned g k opening j is_opening es x run a op name at
        not_abort e;
    published = λ g j k opening is_opening es x run a spare repeated at clean. done_published g k opening j is_opening es x run a spare
        repeated at clean;
    joined = task_joined;
  };
}
