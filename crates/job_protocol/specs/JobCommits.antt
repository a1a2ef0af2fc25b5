-- The driver's commit of a job (Hadoop, S3A committer architecture: job commit; fs.s3a.committer.staging.conflict-mode).
use Rattle.job_model.specs.JobScript.{Script}
use Rattle.job_model.specs.declared.ends.CommitEnd.{CommitEnd}
use Rattle.job_model.specs.declared.ends.FaultStage.{FaultStage}
use Rattle.job_protocol.specs.Conflicts.{displaced, emptied, partitions}
use Rattle.job_protocol.specs.Lanes.{Turn, again, completion, dealt, follow, nth, revert}
use Rattle.job_protocol.specs.Outputs.{Picks, same_path, wanted_paths}
use Rattle.job_protocol.specs.Records.{mark_text}
use Rattle.job_protocol.specs.Setup.{dest_prefix}
use Rattle.list_walk.specs.Walks.{Sweep, sweep_asks, sweep_hears, sweep_start}
use Rattle.pending_json.specs.Pending.{Pending}
use Rattle.pending_json.specs.declared.fault.RecordFault.{RecordFault}
use Rattle.pending_json.specs.declared.records.PendingSet.{PendingSet}
use Rattle.s3_types.specs.Pages.{begins}
use Rattle.s3_types.specs.declared.journal.Outcome.{Outcome}
use Rattle.s3_types.specs.declared.journal.Outcome.TheVariants.{Answered, ReplyLost, RequestLost, Slow}
use Rattle.s3_types.specs.declared.reply.Refusal.TheVariants.{NoSuchUpload}
use Rattle.s3_types.specs.declared.reply.Reply.{Reply}
use Rattle.s3_types.specs.declared.reply.Reply.TheVariants.{ClusterBytes, Completed, Object, Refused}
use Rattle.s3_types.specs.declared.request.Committer.{Committer}
use Rattle.s3_types.specs.declared.request.Committer.TheVariants.{Magic}
use Rattle.s3_types.specs.declared.request.Mode.{Mode}
use Rattle.s3_types.specs.declared.request.Request.{Request}
use Rattle.s3_types.specs.declared.request.Request.TheVariants.{ClusterGet, CompleteUpload, DeleteObjects, GetObject, ListPage, PutObject}
use Rattle.std.specs.List.{flat_map}
use Rattle.std.specs.Option.{option_map}
use Rattle.std.specs.Prelude.{Bool, Err, List, None, Ok, Option, Result, Some, codes, cond, false, length, nat_lt, not, slice_get, true, ℕ}
use Rattle.std.specs.Prelude.{[], ◌++◌, ◌+◌, ◌∷◌, ◌≡◌}
use Rattle.magic_paths.specs.Layout as layout
use Rattle.pending_json.specs.Reading as reading
use Rattle.job_model.specs.declared.ends.CommitEnd.TheVariants as ends
use Rattle.job_model.specs.declared.ends.FaultStage.TheVariants as stages

-- ---- the sets that the driver reads

-- The sets that were read, by task from 0 on.
abbrev pub Sets : Type 0
Sets = List PendingSet

-- The attempts of the sets, by task.
abbrev pub picks_of : Sets → Picks
picks_of sets t = option_map (λ s. s.attempt) (slice_get sets t)

-- The uploads of all sets, by task and then in the set's order. They are numbered in this order.
abbrev pub all_commits : Sets → List Pending
all_commits sets = flat_map (λ s. s.commits) sets

-- The set, if it was read without a fault.
abbrev pub ok_set : Result PendingSet RecordFault → Option PendingSet
ok_set (Ok s) = Some s
ok_set (Err f) = None

-- The set in the bytes of a reply, if they are one.
abbrev pub set_read : Reply → Option PendingSet
set_read (Object bytes header) = ok_set (reading.set_of bytes)
set_read (ClusterBytes bytes) = ok_set (reading.set_of bytes)
set_read _ = None

-- ---- the operation

-- How far a job's commit has come.
pub data Commit : Type 0 where
  -- reads the set of the next task, after these sets
  Fetching : (sets : Sets) (missed : ℕ) → Commit
  -- a replace mode: deletes below this prefix the files that the mode does not keep; the other prefixes follow
  Replacing : (sets : Sets) (prefix : List ℕ) (others : List (List ℕ)) (sweep : Sweep) (missed : ℕ) → Commit
  -- completes uploads: `turn` sends next, then `waiting`; `finished` has the numbers of the completed uploads, the last one first
  Completing : (sets : Sets) (turn : Turn) (waiting : List Turn) (finished : List ℕ) → Commit
  -- puts `_SUCCESS`
  Marking : (sets : Sets) (missed : ℕ) → Commit
  -- a completion ran out of retries: sends these requests, and skips each one that runs out of retries
  Reverting : (request : Request) (others : List Request) (missed : ℕ) → Commit
  CommitOver : (end : CommitEnd) → Commit

-- The read of a task's set.
abbrev pub set_request : Committer → Script → ℕ → Request
set_request Magic w t = GetObject w.dest.bucket (layout.set_key w.dest.key w.job t)
set_request _ w t = ClusterGet (layout.staged_set_path w.job t)

-- The next request of a job's commit, or none if it is over.
abbrev pub commit_asks : Script → Commit → Option Request
commit_asks w (Fetching sets m) = Some (set_request w.committer w (length sets))
commit_asks w (Replacing sets p ps s m) = Some (sweep_asks w.dest.bucket p s)
commit_asks w (Completing sets x xs finished) = Some (completion (nth (all_commits sets) x.number))
commit_asks w (Marking sets m) = Some (PutObject w.dest.bucket (layout.success_key w.dest.key) (mark_text w (picks_of sets)) None)
commit_asks w (Reverting r rs m) = Some r
commit_asks w (CommitOver end) = None

-- ---- after replies

-- The next completion of these lanes, or the put of `_SUCCESS` if no lane has one.
abbrev pub completing : Sets → List Turn → List ℕ → Commit
completing sets [] finished = Marking sets 0
completing sets (x ∷ xs) finished = Completing sets x xs finished

-- True if the key is not below the magic directory, whose keys are no files of the destination.
abbrev pub is_no_magic : Script → List ℕ → Bool
is_no_magic w key = not (begins (dest_prefix w ++ codes "__magic/") key)

-- The prefixes below which the mode deletes.
abbrev pub replaced : Committer → Mode → Script → Picks → List (List ℕ)
replaced c m w picks = emptied (displaced c m) w.dest (partitions (wanted_paths w picks))

-- The deletion below the next prefix. After the last one the commit completes the uploads.
abbrev pub replacing : Script → Sets → List (List ℕ) → Commit
replacing w sets [] = completing sets (dealt w.lanes (length (all_commits sets))) []
replacing w sets (p ∷ ps) = Replacing sets p ps sweep_start 0

-- The commit after the last read: it ends if two chosen attempts write the same path, or else deletes.
abbrev pub decided : Script → Sets → Option CommitEnd → Commit
decided w sets (Some end) = CommitOver end
decided w sets None = replacing w sets (replaced w.committer w.mode w (picks_of sets))

-- The read of the next task's set. After the last one the chosen attempts are compared.
abbrev pub fetching : Script → Sets → Commit
fetching w sets = cond (nat_lt (length sets) w.tasks) (Fetching sets 0) (decided w sets (same_path w (picks_of sets)))

-- The commit after a read of a set. A reply that is no set leaves it as it was.
abbrev pub fetched : Script → Sets → Option PendingSet → Commit
fetched w sets (Some s) = fetching w (sets ++ s ∷ [])
fetched w sets None = Fetching sets 0

-- The commit after a reply to a sweep below a prefix.
abbrev pub swept : Script → Sets → List ℕ → List (List ℕ) → Option Sweep → Commit
swept w sets p ps (Some s) = Replacing sets p ps s 0
swept w sets p ps None = replacing w sets ps

-- The next request of the revert. After the last one the commit ends with StoreFault of Complete.
abbrev pub reverting : List Request → Commit
reverting [] = CommitOver (ends.StoreFault stages.Complete)
reverting (r ∷ rs) = Reverting r rs 0

-- The commit after a reply.
abbrev pub commit_hears : Script → Commit → Reply → Commit
commit_hears w (Fetching sets m) r = fetched w sets (set_read r)
commit_hears w (Replacing sets p ps s m) r = swept w sets p ps (sweep_hears (is_no_magic w) s r)
commit_hears w (Completing sets x xs finished) r = completing sets (xs ++ follow w.lanes (length (all_commits sets)) x.number)
    (x.number ∷ finished)
commit_hears w (Marking sets m) r = CommitOver ends.Committed
commit_hears w (Reverting q qs m) r = reverting qs
commit_hears w (CommitOver end) r = CommitOver end

-- ---- after sends without a reply

-- The commit after a completion ran out of retries: it reverts.
abbrev pub worn_completion : Sets → Turn → List Turn → List ℕ → Commit
worn_completion sets x xs finished = reverting (revert (all_commits sets) x.number xs finished)

-- The commit after a send without an answer: it sends the request again, unless the request has run out of retries.
abbrev pub commit_misses : Script → Commit → Bool → Commit
commit_misses w (Fetching sets m) lost = cond (nat_lt m w.retries) (Fetching sets (m + 1)) (CommitOver (ends.StoreFault stages.Read))
commit_misses w (Replacing sets p ps s m) lost = cond (nat_lt m w.retries) (Replacing sets p ps s (m + 1))
    (CommitOver (ends.StoreFault stages.Delete))
commit_misses w (Completing sets x xs finished) lost = cond (nat_lt x.missed w.retries) (completing sets (xs ++ again x lost ∷ []) finished)
    (worn_completion sets x xs finished)
commit_misses w (Marking sets m) lost = cond (nat_lt m w.retries) (Marking sets (m + 1)) (CommitOver (ends.StoreFault stages.Success))
commit_misses w (Reverting q qs m) lost = cond (nat_lt m w.retries) (Reverting q qs (m + 1)) (reverting qs)
commit_misses w (CommitOver end) lost = CommitOver end

-- The commit after the outcome of a send. SlowDown is no answer, and no loss.
abbrev pub commit_tells : Script → Commit → Outcome → Commit
commit_tells w c (Answered r) = commit_hears w c r
commit_tells w c Slow = commit_misses w c false
commit_tells w c _ = commit_misses w c true

-- The replies that a completion may get: NoSuchUpload only after a lost send of it.
abbrev pub FitsCompletion : Turn → Reply → Type 0
FitsCompletion x (Completed tag) = Unit {0}
FitsCompletion x (Refused NoSuchUpload) = x.lost ≡ true
FitsCompletion x _ = ⊥

-- A job's commit as it begins. A task without a reported commit ends it before any request.
abbrev pub commit_start : Script → Option ℕ → Commit
commit_start w (Some t) = CommitOver (ends.Missing t)
commit_start w None = fetching w []

-- How a job's commit ended, if it is over.
abbrev pub commit_over : Commit → Option CommitEnd
commit_over (CommitOver end) = Some end
commit_over _ = None

-- True for the ends that only come before the commit has deleted or completed anything.
abbrev pub is_untouched : CommitEnd → Bool
is_untouched (ends.Missing t) = true
is_untouched (ends.SamePath p t u) = true
is_untouched (ends.StoreFault stages.Read) = true
is_untouched _ = false

-- The stage of a commit that a request belongs to.
abbrev pub stage_of : Request → FaultStage
stage_of (GetObject bucket key) = stages.Read
stage_of (ClusterGet path) = stages.Read
stage_of (ListPage bucket prefix delimited after limit) = stages.Delete
stage_of (DeleteObjects bucket keys) = stages.Delete
stage_of (CompleteUpload bucket key id parts) = stages.Complete
stage_of _ = stages.Success
