-- The laws of the facts: where they begin, and that every request keeps them.
use Rattle.text_and_lists.specs.Members.{IsIn}
use Rattle.job_invariant.specs.Driver.{FitsClean, FitsJobCommit}
use Rattle.job_invariant.specs.Facts.{Facts, Hold, IsAttempt, IsSet, IsWritten, knowing}
use Rattle.job_invariant.specs.Fits.{Fits, FitsAbort, FitsCommit, FitsWrite, IsOpen}
use Rattle.job_invariant.specs.Foreign.{IsDriving, IsForeign, IsOwn}
use Rattle.job_invariant.specs.Stores.{at_id, at_key, sets_at}
use Rattle.job_invariant.specs.Told.{Told, driver_entry, entry, known, nothing_told, strange_entry, tell, undoes}
use Rattle.job_model.specs.Attempts.{Who}
use Rattle.job_model.specs.Files.{File}
use Rattle.job_model.specs.JobScript.{Script}
use Rattle.job_model.specs.Known.{Drawn, Known}
use Rattle.job_model.specs.Legal.{IsLegal}
use Rattle.job_protocol.specs.Cleanups.{Clean, clean_after, clean_asks}
use Rattle.job_protocol.specs.JobCommits.{Commit, commit_asks, commit_start, commit_tells, ok_set, set_read, set_request}
use Rattle.job_protocol.specs.Knowledge.{drawn_in}
use Rattle.job_protocol.specs.Operations.{Operation, Setting, asks, tells}
use Rattle.job_protocol.specs.Outputs.{files}
use Rattle.job_protocol.specs.Records.{file_key, file_record, files_set, marker_key, record_key, record_text}
use Rattle.job_protocol.specs.Seen.{Seen, Times, is_begun, is_magic, is_staging, see}
use Rattle.job_protocol.specs.TaskAborts.{task_abort_start}
use Rattle.job_protocol.specs.TaskCommits.{task_commit_start}
use Rattle.job_protocol.specs.Uploading.{file_parts}
use Rattle.job_protocol.specs.View.{Same, view}
use Rattle.job_protocol.specs.Writes.{WriteOver, write_start}
use Rattle.magic_paths.specs.Layout.{cluster_prefix, magic_prefix}
use Rattle.path_keys.specs.Paths.{Path}
use Rattle.retries.specs.Retries.{Retried, step}
use Rattle.s3_types.specs.Answer.{answer}
use Rattle.s3_types.specs.Blocks.{named_from}
use Rattle.s3_types.specs.Moment.{IsHonestOutcome, effect}
use Rattle.s3_types.specs.Pages.{begins}
use Rattle.s3_types.specs.Requests.{only_reads}
use Rattle.s3_types.specs.Store.{Scene, Upload}
use Rattle.s3_types.specs.Tags.{joined_tag, plain_tag}
use Rattle.s3_types.specs.declared.journal.Entry.{Entry}
use Rattle.s3_types.specs.declared.journal.Outcome.{Outcome}
use Rattle.s3_types.specs.declared.reply.Refusal.TheVariants.{NoSuchFile, NoSuchKey}
use Rattle.s3_types.specs.declared.reply.Reply.{Reply}
use Rattle.s3_types.specs.declared.reply.Reply.TheVariants.{Completed, Object as Found, Part, Refused}
use Rattle.s3_types.specs.declared.request.Request.{Request}
use Rattle.s3_types.specs.declared.request.Request.TheVariants.{CompleteUpload, GetObject, UploadPart}
use Rattle.std.specs.Prelude.{List, None, Ok, Option, Some, false, length, map, slice_get, true, ℕ, [], ◌+◌, ◌<◌, ◌^◌, ◌≡◌, ◌≤◌, ◌⊎◌}
use Rattle.store_frame.specs.Held.{HasBucket}
use Rattle.std.specs.FinMap as fin
use Rattle.pending_json.specs.Reading as reading
use Rattle.job_model.specs.declared.ends.TaskEnd.TheVariants as tasks
use Rattle.magic_paths.specs.Finals as finals

-- ---- the beginning, and what changes nothing

-- The places of the job are empty: its magic directory, or, for a staging committer, its directory in the cluster.
pub record IsBare (w : Script) (s : Scene) : Type 0 where
  pub keys : is_magic w.committer ≡ true → (k : List ℕ) → begins (magic_prefix w.dest.key w.job) k ≡ true → at_key w s.content k ≡ None
  pub paths : is_staging w.committer ≡ true → (p : List ℕ) → begins (cluster_prefix w.job) p ≡ true → fin.get s.files p ≡ None

-- The facts begin when the set-up is done, before any attempt has sent anything.
abbrev pub FactsBegin : Type 0
FactsBegin = (w : Script) (minimum : ℕ) (s : Scene) (last : ℕ → Option ℕ) → IsLegal w → HasBucket s.content w.dest.bucket
    → s.content.minimum ≡ minimum → ((id : ℕ) (x : Upload) → at_id w s.content id ≡ Some x → id < s.content.next)
    → IsBare w s → ((t : ℕ) → last t ≡ None) → (c : Option ℕ) → Facts w minimum s last (nothing_told c)

-- A request that only reads keeps the facts, whoever sends it.
abbrev pub ReadsKeep : Type 0
ReadsKeep = (w : Script) (minimum : ℕ) (k : Times) (s : Seen) (m : Told) (e : Entry) → IsLegal w → only_reads e.request ≡ true
    → IsHonestOutcome e.outcome (answer s.scene e.request) → Hold w minimum s m → Hold w minimum (see w k s e) (tell w m e)

-- ---- strangers

-- A foreign request keeps the facts, whatever becomes of it.
abbrev pub ForeignKeeps : Type 0
ForeignKeeps = (w : Script) (minimum : ℕ) (k : Times) (s : Seen) (m : Told) (n : ℕ) (r : Request) (o : Outcome) → IsLegal w
    → IsForeign w m.drawn r
    → Hold w minimum s m → Hold w minimum (see w k s (strange_entry n r o)) (tell w m (strange_entry n r o))

-- ---- attempts

-- After an entry of an attempt the facts hold, and the state of its operation fits.
pub record Goes (g : Setting) (k : Times) (s : Seen) (m : Told) (a : Who) (n : ℕ) (r : Request) (o : Outcome) (op : Operation) : Type 0
  where
    pub hold : Hold g.script g.minimum (see g.script k s (entry a n r o)) (tell g.script m (entry a n r o))
    pub fits : Fits g.script g.minimum a (tell g.script m (entry a n r o)) op

-- The request that an attempt's operation asks next keeps the facts, whatever becomes of it, for every committer.
abbrev pub AttemptGoes : Type 0
AttemptGoes = (g : Setting) → IsLegal g.script → (k : Times) (s : Seen) (m : Told) (a : Who) (n : ℕ) → IsAttempt g.script a
    → Hold g.script g.minimum s m
    → (op : Operation) → Fits g.script g.minimum a m op → (r : Request) → asks g a (known m a) op ≡ Some r → (o : Outcome)
    → IsHonestOutcome o (answer s.scene r)
    → Goes g k s m a n r o (tells g a op o)

-- The first state of an attempt's operation fits: of a write if the attempt knows nothing, of a commit if its write is done, of an abort
-- always.
pub record AttemptBegins : Type 0 where
  pub write : (g : Setting) → IsLegal g.script → (m : Told) (a : Who) → m.drawn a ≡ [] → IsOpen (known m a)
      → FitsWrite g.script g.minimum a (known m a) (write_start g.script a)
  pub commit : (g : Setting) → IsLegal g.script → (m : Told) (a : Who) → FitsWrite g.script g.minimum a (known m a) (WriteOver tasks.Done)
      → FitsCommit g.script g.minimum a (known m a) (task_commit_start g.script a)
  pub abort : (w : Script) (a : Who) (k : Known) → FitsAbort w a k (task_abort_start w k)

-- A request of an attempt names only what is the attempt's own and changes nothing that readers of the destination see. Once the attempt
-- has sent its publishing request, it takes nothing back.
pub record AttemptNames : Type 0 where
  pub own : (g : Setting) → IsLegal g.script → (m : Told) (a : Who) → IsAttempt g.script a → (op : Operation)
      → Fits g.script g.minimum a m op → (r : Request) → asks g a (known m a) op ≡ Some r → IsOwn g.script (m.drawn a) r
  pub adds : (g : Setting) → IsLegal g.script → (m : Told) (a : Who) → IsAttempt g.script a → (op : Operation)
      → Fits g.script g.minimum a m op → (r : Request) → asks g a (known m a) op ≡ Some r → m.publish_sent a ≡ true → undoes r ≡ false
  pub shows : (w : Script) → IsLegal w → (s : Scene) → HasBucket s.content w.dest.bucket → (m : Told) (a : Who) (r : Request)
      → IsOwn w (m.drawn a) r → (o : Outcome) → Same (view w.dest (effect s r o).content) (view w.dest s.content)

-- `final_path` of the one path is the other: `__magic` is an element, something is kept after it, and these are the final elements.
pub record LeadsTo (from to : Path) : Type 0 where
  pub bucket : to.bucket ≡ from.bucket
  pub magic : finals.has_magic (finals.elements from) ≡ true
  pub kept : finals.kept (finals.after_magic (finals.elements from)) ≡ [] → ⊥
  pub elements : finals.elements to ≡ finals.final_elements (finals.elements from)

-- The path of a key in the destination's bucket.
abbrev pub at_dest : Script → List ℕ → Path
at_dest w key = record { bucket = w.dest.bucket; key = key }

-- A file's upload goes where the magic path of its marker leads.
abbrev pub MarkersLead : Type 0
MarkersLead = (w : Script) (a : Who) (f : File) → IsLegal w → IsIn f (files w a)
    → LeadsTo (at_dest w (marker_key w a f)) (at_dest w (file_key w f))

-- ---- the driver

-- A request of the driver keeps the facts if it changes uploads only by ending them and changes nothing else of the job's own.
abbrev pub DrivingKeeps : Type 0
DrivingKeeps = (w : Script) (minimum : ℕ) (k : Times) (s : Seen) (m : Told) (n : ℕ) (r : Request) (o : Outcome) → IsLegal w → IsDriving w r
    → Hold w minimum s m → Hold w minimum (see w k s (driver_entry n r o)) (tell w m (driver_entry n r o))

-- After an entry of an abort or clean the facts hold, its state fits, and the destination shows the same files as before.
pub record Cleans (g : Setting) (k : Times) (s : Seen) (m : Told) (n : ℕ) (r : Request) (o : Outcome) (t : Retried Clean) : Type 0 where
  pub hold : Hold g.script g.minimum (see g.script k s (driver_entry n r o)) (tell g.script m (driver_entry n r o))
  pub fits : FitsClean g.script (tell g.script m (driver_entry n r o)).cleaned t.operation
  pub shows : Same (view g.script.dest (effect s.scene r o).content) (view g.script.dest s.scene.content)

-- Each request of an abort or clean of the job keeps the facts, and changes nothing that readers see.
abbrev pub CleanGoes : Type 0
CleanGoes = (g : Setting) → IsLegal g.script → (k : Times) (s : Seen) (m : Told) (n : ℕ) → Hold g.script g.minimum s m
    → is_begun m.cleans_at n ≡ true → (t : Retried Clean) → FitsClean g.script m.cleaned t.operation → (r : Request)
    → clean_asks g.script t.operation ≡ Some r → (o : Outcome) → IsHonestOutcome o (answer s.scene r)
    → Cleans g k s m n r o (step g.script.retries (clean_after g.script) t o)

-- After an entry of the commit the facts hold, and the state of the commit fits.
pub record Commits (g : Setting) (k : Times) (s : Seen) (m : Told) (n : ℕ) (r : Request) (o : Outcome) (c : Commit) : Type 0 where
  pub hold : Hold g.script g.minimum (see g.script k s (driver_entry n r o)) (tell g.script m (driver_entry n r o))
  pub fits : FitsJobCommit g.script g.minimum (tell g.script m (driver_entry n r o)).publish_sent
      (tell g.script m (driver_entry n r o)).drawn c

-- Each request of the driver's commit keeps the facts, for every committer and every number of lanes.
pub record CommitGoes : Type 0 where
  pub begins : (w : Script) (minimum : ℕ) → IsLegal w → (m : Told) (missing : Option ℕ)
      → FitsJobCommit w minimum m.publish_sent m.drawn (commit_start w missing)
  pub goes : (g : Setting) → IsLegal g.script → (k : Times) (s : Seen) (m : Told) (n : ℕ) → Hold g.script g.minimum s m
      → s.scene.content.next ≤ 2 ^ 64
      → (c : Commit) → FitsJobCommit g.script g.minimum m.publish_sent m.drawn c → (r : Request) → commit_asks g.script c ≡ Some r
      → (o : Outcome) → IsHonestOutcome o (answer s.scene r)
      → Commits g k s m n r o (commit_tells g.script c o)
  -- No request of an attempt changes whether the state of the commit fits.
  pub beside : (g : Setting) (m : Told) (a : Who) (op : Operation) → Fits g.script g.minimum a m op → (r : Request)
      → asks g a (known m a) op ≡ Some r → (n : ℕ) (o : Outcome)
      → let now = tell g.script m (entry a n r o) in (c : Commit) → FitsJobCommit g.script g.minimum m.publish_sent m.drawn c
      → FitsJobCommit g.script g.minimum now.publish_sent now.drawn c

-- ---- answers that are due

-- The answer to the read of a set: a refusal if there is none, else the set by its bytes.
abbrev pub IsSetAnswer : Option (List ℕ) → Reply → Type 0
IsSetAnswer None x = (x ≡ Refused NoSuchKey) ⊎ (x ≡ Refused NoSuchFile)
IsSetAnswer (Some bytes) x = set_read x ≡ ok_set (reading.set_of bytes)

-- The set of the task exists, and is read as that of the attempt which published last.
pub record IsThere (w : Script) (minimum : ℕ) (s : Scene) (last : ℕ → Option ℕ) (m : Told) (t : ℕ) : Type 0 where
  pub bytes : List ℕ
  pub stands : sets_at w s t ≡ Some bytes
  pub set : IsSet w minimum last m.publish_sent m.drawn t bytes
  pub is_read : set_read (answer s (set_request w.committer w t)) ≡ Some (files_set w set.by set.commits (knowing (m.drawn set.by)))

-- The answer to the driver's read of a task's set: there is none, or it is that of the last publisher.
abbrev pub SetAnswered : Script → ℕ → Scene → (ℕ → Option ℕ) → Told → ℕ → Type 0
SetAnswered w minimum s last m t = IsSetAnswer None (answer s (set_request w.committer w t)) ⊎ IsThere w minimum s last m t

-- The answers that S3 must give while the facts hold.
pub record AnswersFit : Type 0 where
  -- A part of an upload is accepted if the driver has not ended the upload and its attempt has taken nothing back.
  pub part : (w : Script) (minimum : ℕ) (s : Scene) (last : ℕ → Option ℕ) (m : Told) → IsLegal w → Facts w minimum s last m
      → (a : Who) (x : Drawn) (g : File) (bytes : List ℕ) → IsIn x (m.drawn a) → IsIn g (files w a) → x.key ≡ file_key w g
      → m.ended x.upload ≡ false → m.undone a ≡ false → slice_get (file_parts w minimum g) (length x.tags) ≡ Some bytes
      → answer s (UploadPart w.dest.bucket x.key x.upload (length x.tags + 1) bytes) ≡ Part (plain_tag bytes)
  -- An upload with all its parts is completed then.
  pub complete : (w : Script) (minimum : ℕ) (s : Scene) (last : ℕ → Option ℕ) (m : Told) → IsLegal w → Facts w minimum s last m
      → (a : Who) (g : File) → IsIn g (files w a) → (x : IsWritten w minimum (m.drawn a) g)
      → m.ended x.drawn.upload ≡ false → m.undone a ≡ false
      → answer s (CompleteUpload w.dest.bucket (file_key w g) x.drawn.upload (named_from 1 x.drawn.tags)) ≡ Completed
      (joined_tag (map (λ n. n.tag) (named_from 1 x.drawn.tags)))
  -- A record is absent, or is that of the upload which the attempt knows for the file, and is read as that.
  pub record_there : (w : Script) (minimum : ℕ) (s : Scene) (last : ℕ → Option ℕ) (m : Told) → IsLegal w → Facts w minimum s last m
      → is_magic w.committer ≡ true → (a : Who) (g : File) → IsIn g (files w a)
      → (answer s (GetObject w.dest.bucket (record_key w a g)) ≡ Refused NoSuchKey)
      ⊎ ((header : Option ℕ) × (answer s (GetObject w.dest.bucket (record_key w a g)) ≡ Found
      (record_text w a g (drawn_in (m.drawn a) (file_key w g))) header))
  pub record_read : (w : Script) (minimum : ℕ) (s : Scene) (last : ℕ → Option ℕ) (m : Told) → IsLegal w → Facts w minimum s last m
      → s.content.next ≤ 2 ^ 64 → (a : Who) (g : File) → IsIn g (files w a) → (x : IsWritten w minimum (m.drawn a) g)
      → reading.pending_of (record_text w a g x.drawn) ≡ Ok (file_record w a g x.drawn)
  -- A set is absent, or is that of the last publisher, and is read as that.
  pub set_there : (w : Script) (minimum : ℕ) (s : Scene) (last : ℕ → Option ℕ) (m : Told) → IsLegal w → Facts w minimum s last m
      → s.content.next ≤ 2 ^ 64 → (t : ℕ) → t < w.tasks → SetAnswered w minimum s last m t
