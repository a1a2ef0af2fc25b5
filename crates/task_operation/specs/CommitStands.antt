-- The state of a task commit.
use Rattle.job_model.specs.Attempts.{Who}
use Rattle.job_model.specs.Files.{File}
use Rattle.job_model.specs.JobScript.{Script}
use Rattle.job_model.specs.Jobs.{Task}
use Rattle.job_model.specs.Known.{Known}
use Rattle.job_protocol.specs.AtWork.{Attempting, task_commit_told, task_commit_wants, task_script, who_of}
use Rattle.job_protocol.specs.Outputs.{files}
use Rattle.job_protocol.specs.TaskCommits.{Checking, Looking, Reading, Renaming, TaskCommit, checked, checking, looked, looked_at}
use Rattle.job_protocol.specs.TaskCommits.{read_record, reading, renamed, storing, task_commit_hears, task_commit_over, uploaded}
use Rattle.job_protocol.specs.Uploading.{Creating, Sending, Uploading, created, file_parts, sending, sent_part, upload_hears}
use Rattle.list_walk.specs.Walks.{More, Walked, Whole, walked}
use Rattle.machine.specs.Asks.{AskLaws}
use Rattle.machine.specs.Standing.{Fine, Standing}
use Rattle.s3_types.specs.declared.reply.Refusal.TheVariants.{NoSuchFile, NoSuchKey, NoSuchUpload}
use Rattle.s3_types.specs.declared.reply.Reply.{Reply}
use Rattle.s3_types.specs.declared.reply.Reply.TheVariants.{Object, Page, Refused, Upload}
use Rattle.std.proofs.Common.{refl}
use Rattle.std.specs.Prelude.{Bool, List, None, Option, Some, false, is_none, is_some, true, ℕ, [], ◌∷◌, ◌≡◌}
use Rattle.task_operation.specs.Commits.{FitsCommit, commit_fits}
use Rattle.task_operation.specs.Standing.{standing_by}
use Rattle.task_requests.specs.Publishing.{FitsRecord}
use Rattle.job_protocol.specs.TaskCommits as commits

abbrev pub commit_standing : Attempting TaskCommit → Standing
commit_standing m = standing_by (task_commit_over m.operation)

fine_reading : (cs fs : List File) → standing_by (task_commit_over (reading cs fs)) ≡ Fine
fine_reading cs [] = refl
fine_reading cs (f ∷ fs) = refl

fine_at : (o : Option (List ℕ)) (cs : List File) → standing_by (task_commit_over (looked_at o cs)) ≡ Fine
fine_at (Some k) cs = refl
fine_at None cs = fine_reading cs cs

fine_looked : (w : Script) (a : Who) (x : Walked (List ℕ)) → standing_by (task_commit_over (looked w a x)) ≡ Fine
fine_looked w a (More keys) = refl
fine_looked w a (Whole keys) = fine_at _ _

fine_read : (w : Script) (a : Who) (k : Known) (cs : List File) (f : File) (fs : List File) (r : Reply) → FitsRecord w a k f r
    → standing_by (task_commit_over (read_record w a cs f fs r)) ≡ Fine
fine_read w a k cs f fs (Object bytes header) h = fine_reading cs fs
fine_read w a k cs f fs (Refused NoSuchKey) h = refl
fine_read w a k cs f fs _ h = absurd h

fine_storing : (fs : List File) → standing_by (task_commit_over (storing fs)) ≡ Fine
fine_storing [] = refl
fine_storing (f ∷ fs) = refl

fine_checking : (w : Script) (a : Who) (ds : List (List ℕ)) → standing_by (task_commit_over (checking w a ds)) ≡ Fine
fine_checking w a [] = fine_storing (files w a)
fine_checking w a (d ∷ ds) = refl

fine_checked : (w : Script) (a : Who) (d : List ℕ) (ds : List (List ℕ)) (r : Reply)
    → standing_by (task_commit_over (checked w a d ds r)) ≡ Fine
fine_checked w a d ds (Page [] more) = fine_checking w a ds
fine_checked w a d ds (Page (x ∷ xs) more) = refl
fine_checked w a d ds _ = refl

fine_sending : (w : Script) (f : File) (fs : List File) (ps : List (List ℕ))
    → standing_by (task_commit_over (uploaded w f fs (sending ps))) ≡ Fine
fine_sending w f fs [] = fine_storing fs
fine_sending w f fs (p ∷ ps) = refl

fine_created : (w : Script) (minimum : ℕ) (f : File) (fs : List File) (r : Reply)
    → standing_by (task_commit_over (uploaded w f fs (created w minimum f r))) ≡ Fine
fine_created w minimum f fs (Upload id) = fine_sending w f fs (file_parts w minimum f)
fine_created w minimum f fs _ = refl

fine_sent : (w : Script) (f : File) (fs : List File) (ps : List (List ℕ)) (r : Reply)
    → standing_by (task_commit_over (uploaded w f fs (sent_part ps r))) ≡ Fine
fine_sent w f fs ps (Refused NoSuchUpload) = refl
fine_sent w f fs ps _ = fine_sending w f fs ps

fine_uploaded : (w : Script) (minimum : ℕ) (f : File) (fs : List File) (u : Uploading) (r : Reply)
    → standing_by (task_commit_over (uploaded w f fs (upload_hears w minimum f u r))) ≡ Fine
fine_uploaded w minimum f fs Creating r = fine_created w minimum f fs r
fine_uploaded w minimum f fs (Sending p ps) r = fine_sent w f fs ps r

fine_renamed : (w : Script) (a : Who) (r : Reply) (repeated : Bool) → standing_by (task_commit_over (renamed w a r repeated)) ≡ Fine
fine_renamed w a (Refused NoSuchFile) true = refl
fine_renamed w a (Refused NoSuchFile) false = refl
fine_renamed w a _ repeated = refl

goes_on : (w : Script) (minimum : ℕ) (a : Who) (k : Known) (o : TaskCommit) (r : Reply) (b : Bool) → FitsCommit w a k o r
    → standing_by (task_commit_over (task_commit_hears w minimum a o r b)) ≡ standing_by (task_commit_over o)
goes_on w minimum a k (Looking keys) r b h = fine_looked w a (walked keys r)
goes_on w minimum a k (Reading cs f fs) r b h = fine_read w a k cs f fs r h
goes_on w minimum a k (Checking d ds) r b h = fine_checked w a d ds r
goes_on w minimum a k (commits.Uploads f fs u) r b h = fine_uploaded w minimum f fs u r
goes_on w minimum a k Renaming r b h = fine_renamed w a r b
goes_on w minimum a k _ r b h = refl

-- A task commit has a request to send until it is over.
asks_until : (t : Task) (o : TaskCommit) → is_some (task_commit_wants (record { plan = t; operation = o })) ≡ is_none (task_commit_over o)
asks_until t (commits.TaskCommitOver end) = refl
asks_until t _ = refl

pub commit_laws : AskLaws task_commit_wants task_commit_told commit_fits (λ m. task_commit_over m.operation) commit_standing
commit_laws = record {
  ends = λ m. asks_until m.plan m.operation;
  stops = λ m. refl;
  breaks = λ m. refl;
  faults = λ m r e. refl;
  goes_on = λ m r a b e h. goes_on (task_script m.plan) m.plan.minimum (who_of m.plan) m.plan.known m.operation a b h;
}
