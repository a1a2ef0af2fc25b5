-- The requests and ends of operations, by conflict mode and committer.
use Rattle.job_examples.specs.Jobs.{Course, attempt, course, course_of, hello_tag, job, lake, setting, told_of, worker}
use Rattle.job_model.specs.Files.{File}
use Rattle.job_model.specs.JobScript.{Script}
use Rattle.job_model.specs.Known.{Known, nothing_known}
use Rattle.job_model.specs.declared.events.Op.TheVariants.{Abort, Clean, Commit, Setup, Write}
use Rattle.job_protocol.specs.JobCommits.{decided}
use Rattle.job_protocol.specs.Operations.{TheCommit, start_of}
use Rattle.job_protocol.specs.Outputs.{same_path}
use Rattle.pending_json.specs.Pending.{Pending}
use Rattle.pending_json.specs.declared.records.PendingSet.{PendingSet}
use Rattle.s3_types.specs.declared.journal.Outcome.{Outcome}
use Rattle.s3_types.specs.declared.journal.Outcome.TheVariants.{Answered, ReplyLost, Slow}
use Rattle.s3_types.specs.declared.reply.PageEntry.{PageEntry}
use Rattle.s3_types.specs.declared.reply.PageEntry.TheVariants.{Object as Listed}
use Rattle.s3_types.specs.declared.reply.Refusal.TheVariants.{NoSuchBucket, NoSuchFile, NoSuchKey, NoSuchUpload}
use Rattle.s3_types.specs.declared.reply.Reply.{Reply}
use Rattle.s3_types.specs.declared.reply.Reply.TheVariants.{Aborted, ClusterBytes, ClusterDone, ClusterNames, Completed, Deleted, Head}
use Rattle.s3_types.specs.declared.reply.Reply.TheVariants.{Page, Part, Refused, Stored, Upload, Uploads}
use Rattle.s3_types.specs.declared.request.Actor.TheVariants.{Driver}
use Rattle.s3_types.specs.declared.request.Committer.{Committer}
use Rattle.s3_types.specs.declared.request.Committer.TheVariants.{Directory, Magic, Partitioned}
use Rattle.s3_types.specs.declared.request.Mode.{Mode}
use Rattle.s3_types.specs.declared.request.Mode.TheVariants.{Append, Fail, Replace}
use Rattle.s3_types.specs.declared.request.Request.{Request}
use Rattle.s3_types.specs.declared.request.Request.TheVariants.{AbortUpload, ClusterDelete, ClusterGet, ClusterList, ClusterPut}
use Rattle.s3_types.specs.declared.request.Request.TheVariants.{ClusterRename, CompleteUpload, CreateUpload, DeleteObject, DeleteObjects}
use Rattle.s3_types.specs.declared.request.Request.TheVariants.{HeadObject, ListPage, ListUploads, PutObject, UploadPart}
use Rattle.std.specs.Prelude.{List, None, Option, Some, codes, false, true, ℕ, [], ◌++◌, ◌∷◌, ◌≡◌}
use Rattle.job_model.specs.declared.ends.SetupEnd.TheVariants as setups
use Rattle.job_model.specs.declared.ends.TaskEnd.TheVariants as tasks
use Rattle.job_model.specs.declared.ends.CleanEnd.TheVariants as cleans
use Rattle.job_model.specs.declared.ends.CommitEnd.TheVariants as commits
use Rattle.job_model.specs.declared.ends.OpEnd.TheVariants as ends

-- The script of one attempt with these files, with this committer and mode.
abbrev pub with_files : Committer → Mode → List File → Script
with_files committer mode files = job committer mode 1 3 1 (attempt 0 0 files ∷ []) []

-- A page of these keys, the last one of its listing.
abbrev pub page : List (List ℕ) → Outcome
page keys = Answered (Page (entries keys) false)
  where
    entries : List (List ℕ) → List PageEntry
    entries [] = []
    entries (k ∷ ks) = Listed k 1 ∷ entries ks

-- The outcome of a send with this reply.
abbrev pub answers : Reply → Outcome
answers r = Answered r

-- ---- set-up

-- The requests and the end of a set-up with these outcomes.
abbrev pub sets_up : Committer → Mode → List Outcome → Course
sets_up committer mode os = course (setting (with_files committer mode [])) Driver
    (start_of (setting (with_files committer mode [])) Driver Setup (told_of None) nothing_known) nothing_known os

-- The requests and ends of set-ups.
pub record SetupsRun : Type 0 where
  pub file : sets_up Magic Append (answers (Head 1 None) ∷ []) ≡ record {
    requests = Some (HeadObject lake (codes "out")) ∷ [];
    end = Some
        (ends.Setup setups.DestIsFile);
  }
  pub bucket : sets_up Magic Append (answers (Refused NoSuchBucket) ∷ []) ≡ record
      { requests = Some (HeadObject lake (codes "out")) ∷ []; end = Some (ends.Setup setups.NoSuchBucket) }
  -- The bucket does not exist by the time when the magic directory is listed.
  pub gone : sets_up Magic Append (answers (Refused NoSuchKey) ∷ answers Deleted ∷ answers (Refused NoSuchBucket) ∷ [])
      ≡ record {
        requests = Some (HeadObject lake (codes "out")) ∷ Some (DeleteObject lake (codes "out/_SUCCESS")) ∷ Some
            (ListPage lake (codes "out/__magic/job-j1/") false [] 1000) ∷ [];
        end = Some (ends.Setup setups.NoSuchBucket);
      }
  -- Keys that are left in the magic directory are deleted.
  pub magic : sets_up Magic Append (answers (Refused NoSuchKey) ∷ answers Deleted ∷ page (codes "out/__magic/job-j1/x" ∷ []) ∷ answers
      Deleted ∷ [])
      ≡ record {
        requests = Some (HeadObject lake (codes "out")) ∷ Some (DeleteObject lake (codes "out/_SUCCESS")) ∷ Some
            (ListPage lake (codes "out/__magic/job-j1/") false [] 1000) ∷ Some (DeleteObjects lake (codes "out/__magic/job-j1/x" ∷ [])) ∷
            [];
        end = Some (ends.Setup setups.Done);
      }
  -- The first file of the destination is a conflict; the magic directory, folders and `_SUCCESS` are none.
  pub conflict : sets_up Directory Fail (answers (Refused NoSuchKey) ∷ page (codes "out/_SUCCESS" ∷ codes "out/__magic/x" ∷ codes "out/d/" ∷
      codes "out/old" ∷ codes "out/z" ∷ []) ∷ [])
      ≡ record {
        requests = Some (HeadObject lake (codes "out")) ∷ Some (ListPage lake (codes "out/") false [] 1000) ∷ [];
        end = Some
            (ends.Setup (setups.Conflict (codes "old")));
      }
  pub empty : sets_up Directory Fail (answers (Refused NoSuchKey) ∷ page [] ∷ answers Deleted ∷ [])
      ≡ record {
        requests = Some (HeadObject lake (codes "out")) ∷ Some (ListPage lake (codes "out/") false [] 1000) ∷ Some
            (DeleteObject lake (codes "out/_SUCCESS")) ∷ [];
        end = Some (ends.Setup setups.Done);
      }
  pub append : sets_up Directory Append (answers (Refused NoSuchKey) ∷ answers Deleted ∷ [])
      ≡ record {
        requests = Some (HeadObject lake (codes "out")) ∷ Some (DeleteObject lake (codes "out/_SUCCESS")) ∷ [];
        end = Some
            (ends.Setup setups.Done);
      }
  -- A request that runs out of retries.
  pub worn : sets_up Directory Append (Slow ∷ ReplyLost ∷ Slow ∷ Slow ∷ [])
      ≡ record {
        requests = Some (HeadObject lake (codes "out")) ∷ Some (HeadObject lake (codes "out")) ∷ Some
            (HeadObject lake (codes "out")) ∷ Some (HeadObject lake (codes "out")) ∷ [];
        end = Some (ends.Setup setups.StoreFault);
      }

-- ---- a staging attempt

-- A job with the file `d=1/x`.
abbrev pub staged : Mode → Script
staged mode = with_files Partitioned mode ((codes "d=1/x", codes "hello") ∷ [])

-- The pending upload of that file.
abbrev pub staged_upload : Pending
staged_upload = record {
  task = 0;
  attempt = 0;
  bucket = lake;
  destination = codes "out/d=1/x";
  upload = 7;
  length = 5;
  tags = hello_tag ∷
      [];
  sizes = None;
}

-- The set of that upload.
abbrev pub staged_set : PendingSet
staged_set = record { job = codes "j1"; task = 0; attempt = 0; commits = staged_upload ∷ [] }

-- The text of that set, by the format. Its record has version 1, which has no sizes.
abbrev pub staged_text : List ℕ
staged_text =
    codes "{\"attempt\":0,\"commits\":["
    ++ codes "{\"attempt\":0,\"bucket\":\"lake\",\"destination\":\"out/d=1/x\",\"etags\":[\"5d41402abc4b2a76b9719d911017c592\"],"
    ++ codes "\"kind\":\"pending\",\"length\":5,\"task\":0,\"upload\":7,\"version\":1}"
    ++ codes "],\"job\":\"j1\",\"kind\":\"pendingset\",\"task\":0,\"version\":1}"

-- The requests and the end of a staging attempt's commit with these outcomes.
abbrev pub commits_task : Mode → List Outcome → Course
commits_task mode os = course (setting (staged mode)) worker (start_of (setting (staged mode)) worker Commit (told_of None) nothing_known)
    nothing_known os

-- The rename that publishes.
abbrev pub renames : Option Request
renames = Some (ClusterRename (codes "jobs/j1/tmp/0_0.pendingset") (codes "jobs/j1/sets/task_0.pendingset"))

-- All requests of a staging attempt's commit.
abbrev pub publishes : List (Option Request)
publishes = Some (CreateUpload lake (codes "out/d=1/x")) ∷ Some (UploadPart lake (codes "out/d=1/x") 7 1 (codes "hello")) ∷ Some
    (ClusterPut (codes "jobs/j1/tmp/0_0.pendingset") staged_text) ∷ renames ∷ []

-- What the attempt knows after its commit was cut short.
abbrev pub knows_upload : Known
knows_upload = record {
  drawn = record { key = codes "out/d=1/x"; upload = 7; tags = []; sizes = [] } ∷ [];
  put_sent = true;
  publish_sent =
      false;
}

-- What an attempt knows after it has sent its publishing request.
abbrev pub knows_published : Known
knows_published = record {
  drawn = record { key = codes "out/d=1/x"; upload = 7; tags = []; sizes = [] } ∷ [];
  put_sent = true;
  publish_sent = true;
}

-- The requests and the end of a staging attempt's abort with these outcomes.
abbrev pub aborts_task : Known → List Outcome → Course
aborts_task k os = course (setting (staged Fail)) worker (start_of (setting (staged Fail)) worker Abort (told_of None) k) k os

-- The requests and ends of a staging attempt's operations.
pub record StagingRuns : Type 0 where
  pub write : course (setting (staged Append)) worker (start_of (setting (staged Append)) worker Write (told_of None) nothing_known)
      nothing_known [] ≡ record { requests = []; end = Some (ends.Task tasks.Done) }
  -- A repeated rename that finds no file counts as done; one that is not repeated does not.
  pub lost : (commits_task Append (answers (Upload 7) ∷ answers (Part hello_tag) ∷ answers ClusterDone ∷ ReplyLost ∷ answers
      (Refused NoSuchFile) ∷ [])).end ≡ Some (ends.Task tasks.Done)
  pub slow : (commits_task Append (answers (Upload 7) ∷ answers (Part hello_tag) ∷ answers ClusterDone ∷ Slow ∷ answers (Refused NoSuchFile)
      ∷ [])).end ≡ Some (ends.Task (tasks.Gone (codes "jobs/j1/tmp/0_0.pendingset")))
  pub published : commits_task Append (answers (Upload 7) ∷ answers (Part hello_tag) ∷ answers ClusterDone ∷ answers ClusterDone ∷ []) ≡
      record { requests = publishes; end = Some (ends.Task tasks.Done) }
  -- An upload that does not exist.
  pub gone : (commits_task Append (answers (Upload 7) ∷ answers (Refused NoSuchUpload) ∷ [])).end ≡ Some
      (ends.Task (tasks.Gone (codes "out/d=1/x")))
  -- A file in the attempt's partition is a conflict.
  pub conflict : commits_task Fail (page (codes "out/d=1/a" ∷ []) ∷ []) ≡ record
      { requests = Some (ListPage lake (codes "out/d=1/") false [] 1) ∷ []; end = Some (ends.Task (tasks.Conflict (codes "d=1"))) }
  pub none : commits_task Fail (page [] ∷ answers (Upload 7) ∷ answers (Part hello_tag) ∷ answers ClusterDone ∷ answers ClusterDone ∷ []) ≡
      record { requests = Some (ListPage lake (codes "out/d=1/") false [] 1) ∷ publishes; end = Some (ends.Task tasks.Done) }
  -- An abort ends the uploads that the attempt knows. After the publishing request it ends nothing.
  pub abort : aborts_task knows_upload (answers (Refused NoSuchUpload) ∷ answers ClusterDone ∷ []) ≡ record {
    requests = Some (AbortUpload lake (codes "out/d=1/x") 7) ∷ Some (ClusterDelete (codes "jobs/j1/tmp/0_0.pendingset")) ∷ [];
    end =
        Some (ends.Task tasks.Done);
  }
  pub kept : aborts_task knows_published [] ≡ record { requests = []; end = Some (ends.Task tasks.Kept) }

-- ---- the driver

-- The requests and the end of its commit after the set is read.
abbrev pub replaces : Committer → Mode → List Outcome → Course
replaces committer mode os = course_of (setting (with_files committer mode ((codes "d=1/x", codes "hello") ∷ []))) Driver
    (record {
      operation = TheCommit (decided (with_files committer mode ((codes "d=1/x", codes "hello") ∷ [])) (staged_set ∷ []) None);
      known = nothing_known;
    }) os

-- The completion of the upload.
abbrev pub completes : Option Request
completes = Some (CompleteUpload lake (codes "out/d=1/x") 7 (record { number = 1; tag = hello_tag } ∷ []))

-- The requests and the end of its commit if no task is missing.
abbrev pub commits_job : List Outcome → Course
commits_job os = course (setting (staged Append)) Driver (start_of (setting (staged Append)) Driver Commit (told_of None) nothing_known)
    nothing_known os

-- The put of `_SUCCESS`, whose text is by the format.
abbrev pub marks : Option Request
marks = Some (PutObject lake (codes "out/_SUCCESS") mark None)
  where
    mark : List ℕ
    mark = codes "{\"committer\":\"partitioned\",\"files\":[\"d=1/x\"],\"job\":\"j1\",\"kind\":\"success\",\"version\":1}"

-- A job of two tasks that write `p`; one of them writes `a` too.
abbrev pub shared : Script
shared = job Magic Append 2 3 1 (attempt 0 0 ((codes "p", codes "x") ∷ []) ∷ attempt 1 0
    ((codes "p", codes "y") ∷ (codes "a", codes "y") ∷ []) ∷ []) []

-- The requests and the end of a clean with these outcomes.
abbrev pub cleans_up : Committer → List Outcome → Course
cleans_up committer os = course (setting (with_files committer Append [])) Driver
    (start_of (setting (with_files committer Append [])) Driver Clean (told_of None) nothing_known) nothing_known os

-- The requests of the driver to delete, complete and clean, by mode and committer.
pub record DriversRun : Type 0 where
  -- The mode replace of the directory committer deletes all of the destination except the magic directory. That of the partitioned
  -- committer deletes the partitions that the job writes.
  pub directory : (replaces Directory Replace (page (codes "out/__magic/x" ∷ codes "out/old" ∷ []) ∷ answers Deleted ∷ answers
      (Completed hello_tag) ∷ [])).requests
      ≡ Some (ListPage lake (codes "out/") false [] 1000) ∷ Some (DeleteObjects lake (codes "out/old" ∷ [])) ∷ completes ∷ []
  pub partitioned : (replaces Partitioned Replace (page (codes "out/d=1/a" ∷ []) ∷ answers Deleted ∷ answers (Completed hello_tag) ∷
      [])).requests
      ≡ Some (ListPage lake (codes "out/d=1/") false [] 1000) ∷ Some (DeleteObjects lake (codes "out/d=1/a" ∷ [])) ∷ completes ∷ []
  pub append : (replaces Partitioned Append (answers (Completed hello_tag) ∷ [])).requests ≡ completes ∷ []
  -- It reads the set that the staging attempt put, whose record has version 1.
  pub reads : commits_job (answers (ClusterBytes staged_text) ∷ answers (Completed hello_tag) ∷ answers (Stored hello_tag) ∷ [])
      ≡ record {
        requests = Some (ClusterGet (codes "jobs/j1/sets/task_0.pendingset")) ∷ completes ∷ marks ∷ [];
        end = Some
            (ends.Commit commits.Committed);
      }
  -- The least path that two chosen attempts write, with their tasks.
  pub same : same_path shared (λ t. Some 0) ≡ Some (commits.SamePath (codes "p") 0 1)
  pub apart : same_path shared (λ t. None) ≡ None
  -- A clean.
  pub staging : cleans_up Directory (answers (Uploads (record { key = codes "out/p"; upload = 3 } ∷ []) false) ∷ answers Aborted ∷ answers
      (ClusterNames (codes "jobs/j1/sets/task_0.pendingset" ∷ [])) ∷ answers ClusterDone ∷ [])
      ≡ record {
        requests = Some (ListUploads lake (codes "out/") None 1000) ∷ Some (AbortUpload lake (codes "out/p") 3) ∷ Some
            (ClusterList (codes "jobs/j1/")) ∷ Some (ClusterDelete (codes "jobs/j1/sets/task_0.pendingset")) ∷ [];
        end = Some
            (ends.Clean cleans.Done);
      }
  pub magic : cleans_up Magic (answers (Uploads [] false) ∷ page [] ∷ []) ≡ record {
    requests = Some (ListUploads lake (codes "out/") None 1000) ∷ Some (ListPage lake (codes "out/__magic/job-j1/") false [] 1000) ∷ [];
    end = Some (ends.Clean cleans.Done);
  }
