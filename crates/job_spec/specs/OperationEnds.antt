-- The causes of the ends of operations, and what these ends leave.
use Rattle.text_and_lists.specs.Order.{text_cmp}
use Rattle.job_model.specs.Attempts.{Who}
use Rattle.job_model.specs.JobScript.{Script}
use Rattle.job_model.specs.declared.ends.CleanEnd.{CleanEnd}
use Rattle.job_model.specs.declared.ends.SetupEnd.{SetupEnd}
use Rattle.job_model.specs.declared.ends.TaskEnd.{TaskEnd}
use Rattle.job_model.specs.declared.events.Op.{Op}
use Rattle.job_protocol.specs.Conflicts.{checks_all, checks_partitions, partitions}
use Rattle.job_protocol.specs.JobCommits.{set_read, set_request, stage_of}
use Rattle.job_protocol.specs.Outputs.{files, paths_of}
use Rattle.job_protocol.specs.Scope.{NothingLeft}
use Rattle.job_protocol.specs.Seen.{is_publishing}
use Rattle.job_protocol.specs.TaskCommits.{partition_prefix}
use Rattle.job_protocol.specs.View.{Same, object_at, view}
use Rattle.retries.specs.Same.{same_request}
use Rattle.retries.specs.Worn.{IsWorn}
use Rattle.s3_types.specs.Moment.{is_effective, moment}
use Rattle.s3_types.specs.Store.{Content, Scene}
use Rattle.s3_types.specs.declared.journal.Entry.{Entry}
use Rattle.s3_types.specs.declared.journal.Outcome.{Outcome}
use Rattle.s3_types.specs.declared.journal.Outcome.TheVariants.{Answered, ReplyLost, RequestLost}
use Rattle.s3_types.specs.declared.reply.PageEntry.{PageEntry}
use Rattle.s3_types.specs.declared.reply.Refusal.{Refusal}
use Rattle.s3_types.specs.declared.reply.Refusal.TheVariants.{NoSuchUpload}
use Rattle.s3_types.specs.declared.reply.Reply.{Reply}
use Rattle.s3_types.specs.declared.reply.Reply.TheVariants.{Page, Refused}
use Rattle.s3_types.specs.declared.request.Actor.TheVariants.{Attempt}
use Rattle.s3_types.specs.declared.request.Request.{Request}
use Rattle.s3_types.specs.declared.request.Request.TheVariants.{DeleteObject, ListPage}
use Rattle.std.specs.List.{All, Contains, list_any}
use Rattle.std.specs.Ordering.{is_lt}
use Rattle.std.specs.Prelude.{Bool, IsSome, List, None, Option, Some, false, slice_get, true, ℕ, [], ◌&&◌, ◌++◌, ◌∷◌, ◌≡◌, ◌≤◌}
use Rattle.std.specs.FinMap as fin
use Rattle.job_model.specs.declared.events.Op.TheVariants as ops
use Rattle.job_model.specs.declared.ends.SetupEnd.TheVariants as setups
use Rattle.job_model.specs.declared.ends.TaskEnd.TheVariants as tasks
use Rattle.job_model.specs.declared.ends.CleanEnd.TheVariants as cleans
use Rattle.job_model.specs.declared.ends.FaultStage.TheVariants as stages

-- ---- set-up

-- Holds if p is the least path at which readers see a file.
pub record IsLeastShown (w : Script) (c : Content) (p : List ℕ) : Type 0 where
  pub shown : IsSome (view w.dest c p)
  pub least : (q : List ℕ) → IsSome (view w.dest c q) → is_lt (text_cmp q p) ≡ false

-- Holds if the destination's bucket exists, and no object exists at the destination's own key.
abbrev pub IsFree : Script → Content → Type 0
IsFree w c = IsSome (fin.get c.buckets w.dest.bucket) × (object_at c w.dest.bucket w.dest.key ≡ None)

-- The end of a set-up over this content; the request is the first that ran out of retries, if one did.
abbrev pub SetupIs : Script → Content → Option Request → SetupEnd → Type 0
SetupIs w c (Some r) e = e ≡ setups.StoreFault
SetupIs w c None setups.NoSuchBucket = fin.get c.buckets w.dest.bucket ≡ None
SetupIs w c None setups.DestIsFile = IsSome (object_at c w.dest.bucket w.dest.key)
SetupIs w c None (setups.Conflict p) = IsFree w c × (checks_all w.committer w.mode ≡ true) × IsLeastShown w c p
SetupIs w c None setups.Done = IsFree w c × (checks_all w.committer w.mode ≡ true → (p : List ℕ) → view w.dest c p ≡ None)
SetupIs w c None _ = ⊥

-- ---- an attempt's operations

-- Holds if the store was asked for one key below this partition, and answered with this page.
pub record WasListed (w : Script) (es : List Entry) (d : List ℕ) (page : List PageEntry) : Type 0 where
  pub entry : Entry
  pub is_entry : Contains es entry
  pub asks : entry.request ≡ ListPage w.dest.bucket (partition_prefix w d) false [] 1
  pub more : Bool
  pub answered : entry.outcome ≡ Answered (Page page more)

-- Holds if d is the first partition of the attempt below which the store listed a key.
pub record IsFirstListed (w : Script) (a : Who) (es : List Entry) (d : List ℕ) : Type 0 where
  pub before : List (List ℕ)
  pub rest : List (List ℕ)
  pub parts : before ++ d ∷ rest ≡ partitions (paths_of (files w a))
  pub free : All (λ b. WasListed w es b []) before
  pub key : PageEntry
  pub others : List PageEntry
  pub listed : WasListed w es d (key ∷ others)

-- The ends that an attempt's operation may have if no request of it ran out of retries. They depend on its entries, on whether it has sent
-- its publishing request (`sent`), and on whether the driver's abort or clean has begun (`cleaned`).
abbrev pub TaskMay : Op → Script → Who → List Entry → Bool → Bool → TaskEnd → Type 0
TaskMay ops.Write w a es sent cleaned tasks.Done = Unit {0}
TaskMay ops.Write w a es sent cleaned (tasks.Gone name) = cleaned ≡ true
TaskMay ops.Commit w a es sent cleaned tasks.Done = Unit {0}
TaskMay ops.Commit w a es sent cleaned (tasks.Conflict d) = (checks_partitions w.committer w.mode ≡ true) × IsFirstListed w a es d
TaskMay ops.Commit w a es sent cleaned (tasks.Gone name) = cleaned ≡ true
TaskMay ops.Abort w a es sent cleaned tasks.Kept = sent ≡ true
TaskMay ops.Abort w a es sent cleaned tasks.Done = sent ≡ false
TaskMay op w a es sent cleaned e = ⊥

-- The end of an attempt's operation: StoreFault if a request of it ran out of retries, and otherwise one that has its cause.
abbrev pub TaskIs : Op → Script → Who → List Entry → Bool → Bool → Option Request → TaskEnd → Type 0
TaskIs op w a es sent cleaned (Some r) e = e ≡ tasks.StoreFault
TaskIs op w a es sent cleaned None e = TaskMay op w a es sent cleaned e

-- Holds if the attempt has published by this event: an entry of it publishes the task's set, and took effect.
pub record WasPublished (w : Script) (opening : Content) (journal : List Entry) (task attempt event : ℕ) : Type 0 where
  pub m : ℕ
  pub entry : Entry
  pub is_entry : slice_get journal m ≡ Some entry
  pub by : entry.actor ≡ Attempt task attempt
  pub until : entry.event ≤ event
  pub effective : is_effective entry.outcome ≡ true
  pub publishes : is_publishing w (moment opening journal m) task entry.request ≡ true

-- ---- the driver's abort and clean

-- The end of a job's abort or clean: StoreFault if a request of it ran out of retries, and otherwise Done.
abbrev pub CleanIs : Option Request → CleanEnd → Type 0
CleanIs (Some r) e = e ≡ cleans.StoreFault
CleanIs None e = e ≡ cleans.Done

-- What a job's abort or clean leaves, if `s` is the scene before it and `t` the scene at its end.
pub record Cleaned (w : Script) (s t : Scene) : Type 0 where
  -- Nothing is left of the job.
  pub nothing : NothingLeft w.committer w t
  -- Readers see the same files as before.
  pub view_stays : Same (view w.dest t.content) (view w.dest s.content)

-- ---- the driver's commit

-- Holds if no deletion of an object ran out of retries.
abbrev pub NoDeletionWorn : ℕ → List Entry → Type 0
NoDeletionWorn retries es = (bucket key : List ℕ) → IsWorn retries (DeleteObject bucket key) es → ⊥

-- Holds if each file that readers see has the bytes that it had in the opening.
abbrev pub OnlyOpening : Script → Content → Content → Type 0
OnlyOpening w opening c = (p b : List ℕ) → view w.dest c p ≡ Some b → view w.dest opening p ≡ Some b

-- True if the request or its reply was lost.
abbrev pub is_lost : Outcome → Bool
is_lost RequestLost = true
is_lost ReplyLost = true
is_lost _ = false

-- True if a send of this request was lost, before its effect or after it.
abbrev pub was_lost : Request → List Entry → Bool
was_lost r es = list_any (λ e. same_request r e.request && is_lost e.outcome) es

-- The replies to the requests of a commit.
pub record CommitServed (w : Script) (es : List Entry) : Type 0 where
  -- Each answered read of a task's set returned a set.
  pub sets : (before : List Entry) (e : Entry) (later : List Entry) (t : ℕ) (r : Reply) → es ≡ before ++ e ∷ later
      → e.request ≡ set_request w.committer w t → e.outcome ≡ Answered r → IsSome (set_read r)
  -- A refused completion found no upload, and an earlier send of it was lost.
  pub completions : (before : List Entry) (e : Entry) (later : List Entry) (why : Refusal) → es ≡ before ++ e ∷ later
      → stage_of e.request ≡ stages.Complete → e.outcome ≡ Answered (Refused why) → (why ≡ NoSuchUpload)
      × (was_lost e.request before ≡ true)
