-- Checks and deletions go on as the operations that use them do.
use Rattle.conflict.specs.Checks.{found_below, left_after}
use Rattle.conflict.specs.Deletions.{swept_on}
use Rattle.conflict.specs.ChecksEnd.{ChecksTell, DeletionsTell, commit_after_check, commit_deleting, deletion_of}
use Rattle.job_model.specs.Attempts.{Who}
use Rattle.job_model.specs.JobScript.{Script}
use Rattle.job_protocol.specs.JobCommits.{Sets, is_no_magic, replaced, replacing, swept}
use Rattle.job_protocol.specs.TaskCommits.{Checking, task_commit_hears}
use Rattle.list_walk.specs.Walks.{Sweep, sweep_hears, sweep_start}
use Rattle.s3_types.specs.declared.reply.Reply.{Reply}
use Rattle.s3_types.specs.declared.reply.Reply.TheVariants.{Page}
use Rattle.std.proofs.Common.{Bool, List, None, Option, Some, ap, refl, ℕ, [], ◌∙◌, ◌∷◌, ◌≡◌}

-- ---- a check

check_goes : (w : Script) (minimum : ℕ) (a : Who) (d : List ℕ) (ds : List (List ℕ)) (r : Reply) (repeated : Bool)
    → task_commit_hears w minimum a (Checking d ds) r repeated ≡ commit_after_check w a (found_below (d ∷ ds) r) (left_after (d ∷ ds) r)
check_goes w minimum a d ds (Page [] more) repeated = refl
check_goes w minimum a d ds (Page (x ∷ xs) more) repeated = refl
check_goes w minimum a d ds _ repeated = refl

pub checks_tell : ChecksTell
checks_tell = record { asks = λ w a k d ds. refl; goes = check_goes }

-- ---- a deletion

goes_by : (w : Script) (sets : Sets) (p : List ℕ) (ps : List (List ℕ)) (o : Option Sweep)
    → swept w sets p ps o ≡ commit_deleting w sets (swept_on (deletion_of w [] sweep_start).spared p ps o)
goes_by w sets p ps (Some s) = refl
goes_by w sets p [] None = refl
goes_by w sets p (q ∷ qs) None = refl

pub deletions_tell : DeletionsTell
deletions_tell = record {
  prefixes = λ w picks e. ap (λ m. replaced w.committer m w picks) e;
  starts = λ w sets prefixes. elim prefixes as (λ ps. replacing w sets ps ≡ commit_deleting w sets (deletion_of w ps sweep_start))
      [ [] ↦ refl | p ∷ ps ↦ refl ];
  asks = λ w sets p ps sweep missed. refl;
  goes = λ w sets p ps sweep missed r. goes_by w sets p ps (sweep_hears (is_no_magic w) sweep r);
}
