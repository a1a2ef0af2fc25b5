-- The driver's set-up of a job (Hadoop, S3A committers: job setup; fs.s3a.committer.staging.conflict-mode).
use Rattle.job_model.specs.JobScript.{Script}
use Rattle.job_model.specs.declared.ends.SetupEnd.{SetupEnd}
use Rattle.job_protocol.specs.Conflicts.{checks_all}
use Rattle.job_protocol.specs.View.{is_file_path}
use Rattle.list_walk.specs.Walks.{More, Sweep, Walked, Whole, all_go, keys_on, page_after, sweep_asks, sweep_hears, sweep_start, walked}
use Rattle.path_keys.specs.Paths.{relative_in}
use Rattle.retries.specs.Retries.{Got, Item, OutOfMemory, WornOut}
use Rattle.s3_types.specs.declared.reply.Refusal.TheVariants.{NoSuchBucket}
use Rattle.s3_types.specs.declared.reply.Reply.{Reply}
use Rattle.s3_types.specs.declared.reply.Reply.TheVariants.{Head, Page, Refused}
use Rattle.s3_types.specs.declared.request.Committer.{Committer}
use Rattle.s3_types.specs.declared.request.Committer.TheVariants.{Magic}
use Rattle.s3_types.specs.declared.request.Request.{Request}
use Rattle.s3_types.specs.declared.request.Request.TheVariants.{DeleteObject, HeadObject}
use Rattle.std.specs.Prelude.{Bool, List, None, Option, Some, codes, cond, false, true, ℕ, [], ◌++◌, ◌∷◌}
use Rattle.magic_paths.specs.Layout as layout
use Rattle.job_model.specs.declared.ends.SetupEnd.TheVariants as ends

-- How far a job's set-up has come.
pub data Setup : Type 0 where
  -- asks for the object at the destination's own key
  Heading : Setup
  -- lists the keys below the destination until readers see a file at one of them, with the keys so far
  Checking : (keys : List (List ℕ)) → Setup
  -- deletes the `_SUCCESS` of an earlier job
  Clearing : Setup
  -- magic: empties the job's magic directory
  Sweeping : (sweep : Sweep) → Setup
  SetupOver : (end : SetupEnd) → Setup

-- The prefix of the keys below the destination.
abbrev pub dest_prefix : Script → List ℕ
dest_prefix w = w.dest.key ++ codes "/"

-- The start of a set-up: it asks for the object at the destination's own key.
abbrev pub setup_start : Setup
setup_start = Heading

-- The next request of a set-up, or none if it is over.
abbrev pub setup_asks : Script → Setup → Option Request
setup_asks w Heading = Some (HeadObject w.dest.bucket w.dest.key)
setup_asks w (Checking keys) = Some (page_after w.dest.bucket (dest_prefix w) keys)
setup_asks w Clearing = Some (DeleteObject w.dest.bucket (layout.success_key w.dest.key))
setup_asks w (Sweeping s) = Some (sweep_asks w.dest.bucket (layout.magic_prefix w.dest.key w.job) s)
setup_asks w (SetupOver end) = None

-- The set-up after the first reply: an object at the destination's own key ends it.
abbrev pub headed : Script → Reply → Setup
headed w (Head len header) = SetupOver ends.DestIsFile
headed w _ = cond (checks_all w.committer w.mode) (Checking []) Clearing

-- The path, if readers see a file there.
abbrev pub shown_path : Option (List ℕ) → Option (List ℕ)
shown_path None = None
shown_path (Some p) = cond (is_file_path p) (Some p) None

-- The first path if there is one, otherwise the second.
abbrev pub or_next : Option (List ℕ) → Option (List ℕ) → Option (List ℕ)
or_next (Some p) next = Some p
or_next None next = next

-- The first path of these keys at which readers see a file.
abbrev pub first_shown : Script → List (List ℕ) → Option (List ℕ)
first_shown w [] = None
first_shown w (k ∷ ks) = or_next (shown_path (relative_in w.dest.key k)) (first_shown w ks)

-- The set-up after a page without a file that readers see.
abbrev pub checked_on : Walked (List ℕ) → Setup
checked_on (More keys) = Checking keys
checked_on (Whole keys) = Clearing

-- The set-up after a page: a file that readers see there is a conflict, and otherwise the listing goes on.
abbrev pub checked_by : Option (List ℕ) → Walked (List ℕ) → Setup
checked_by (Some p) next = SetupOver (ends.Conflict p)
checked_by None next = checked_on next

-- The set-up after a page of the destination's keys.
abbrev pub checked : Script → List (List ℕ) → Reply → Setup
checked w keys (Page entries more) = checked_by (first_shown w (keys_on entries)) (walked keys (Page entries more))
checked w keys _ = Checking keys

-- The set-up after `_SUCCESS` is deleted: the magic committer empties its directory, the others are Done.
abbrev pub cleared : Committer → Setup
cleared Magic = Sweeping sweep_start
cleared _ = SetupOver ends.Done

-- The set-up after a reply to the sweep. After the last one it is Done.
abbrev pub sweeping : Option Sweep → Setup
sweeping (Some s) = Sweeping s
sweeping None = SetupOver ends.Done

-- True if the reply is NoSuchBucket.
abbrev pub lacks_bucket : Reply → Bool
lacks_bucket (Refused NoSuchBucket) = true
lacks_bucket _ = false

-- The set-up after a reply: NoSuchBucket ends it, whatever the request was.
abbrev pub if_bucket : Reply → Setup → Setup
if_bucket r next = cond (lacks_bucket r) (SetupOver ends.NoSuchBucket) next

-- The set-up after a reply.
abbrev pub setup_hears : Script → Setup → Reply → Setup
setup_hears w Heading r = if_bucket r (headed w r)
setup_hears w (Checking keys) r = if_bucket r (checked w keys r)
setup_hears w Clearing r = if_bucket r (cleared w.committer)
setup_hears w (Sweeping s) r = if_bucket r (sweeping (sweep_hears all_go s r))
setup_hears w (SetupOver end) r = SetupOver end

-- How a set-up ended, if it is over.
abbrev pub setup_over : Setup → Option SetupEnd
setup_over (SetupOver end) = Some end
setup_over _ = None

-- The set-up after a reply, after a request that ran out of retries, or after memory ran out.
abbrev pub setup_after : Script → Setup → Item → Setup
setup_after w s (Got r repeated) = setup_hears w s r
setup_after w s WornOut = SetupOver ends.StoreFault
setup_after w s OutOfMemory = SetupOver ends.NoMemory
