-- The driver's abort or clean of a job at a shared destination. It aborts only the uploads that the job's own records and sets name, and
-- lists no uploads (Hadoop, S3A committer architecture: cleanup by the job's own pending files).
use Rattle.job_model.specs.JobScript.{Script}
use Rattle.job_model.specs.declared.ends.CleanEnd.{CleanEnd}
use Rattle.list_walk.specs.Walks.{More, Walked, Whole, page_after, walked}
use Rattle.magic_paths.specs.Places.{is_record}
use Rattle.pending_json.specs.Pending.{Pending}
use Rattle.pending_json.specs.declared.fault.RecordFault.{RecordFault}
use Rattle.pending_json.specs.declared.records.PendingSet.{PendingSet}
use Rattle.retries.specs.Retries.{Got, Item, OutOfMemory, WornOut}
use Rattle.s3_types.specs.declared.reply.Reply.{Reply}
use Rattle.s3_types.specs.declared.reply.Reply.TheVariants.{ClusterBytes, ClusterNames, Object}
use Rattle.s3_types.specs.declared.request.Committer.{Committer}
use Rattle.s3_types.specs.declared.request.Committer.TheVariants.{Magic}
use Rattle.s3_types.specs.declared.request.Request.{Request}
use Rattle.s3_types.specs.declared.request.Request.TheVariants.{AbortUpload, ClusterDelete, ClusterGet, ClusterList, DeleteObjects}
use Rattle.s3_types.specs.declared.request.Request.TheVariants.{GetObject}
use Rattle.s3_types.specs.declared.request.UploadRef.{UploadRef}
use Rattle.std.specs.List.{filter}
use Rattle.std.specs.Prelude.{Err, List, None, Ok, Option, Result, Some, drop, map, take, ℕ, [], ◌++◌, ◌∷◌}
use Rattle.magic_paths.specs.Layout as layout
use Rattle.pending_json.specs.Reading as reading
use Rattle.job_model.specs.declared.ends.CleanEnd.TheVariants as ends

-- How far a sparing abort or clean has come.
pub data Sparing : Type 0 where
  -- magic: lists the keys below the job's magic directory, with those so far
  Walking : (keys : List (List ℕ)) → Sparing
  -- staging: lists the job's files in the cluster
  Naming : Sparing
  -- reads the record or set at this place, then at the others; `named` has the uploads that were named so far, `all` the places to delete
  -- in the end
  Reading : (named : List UploadRef) (place : List ℕ) (others all : List (List ℕ)) → Sparing
  -- aborts this upload; the others follow
  Aborting : (upload : UploadRef) (others : List UploadRef) (all : List (List ℕ)) → Sparing
  -- magic: deletes these keys, at most 1,000 in a request
  Deleting : (key : List ℕ) (keys : List (List ℕ)) → Sparing
  -- staging: deletes this cluster file; the others follow
  Removing : (path : List ℕ) (others : List (List ℕ)) → Sparing
  SparingOver : (end : CleanEnd) → Sparing

-- The start: it lists the keys of the job's magic directory, or the job's files in the cluster.
abbrev pub sparing_start : Committer → Sparing
sparing_start Magic = Walking []
sparing_start _ = Naming

-- The read of a record, or of a set in the cluster.
abbrev pub record_request : Committer → Script → List ℕ → Request
record_request Magic w place = GetObject w.dest.bucket place
record_request _ w place = ClusterGet place

-- The next request, or none if it is over.
abbrev pub sparing_asks : Script → Sparing → Option Request
sparing_asks w (Walking keys) = Some (page_after w.dest.bucket (layout.magic_prefix w.dest.key w.job) keys)
sparing_asks w Naming = Some (ClusterList (layout.cluster_prefix w.job))
sparing_asks w (Reading named p ps all) = Some (record_request w.committer w p)
sparing_asks w (Aborting u us all) = Some (AbortUpload w.dest.bucket u.key u.upload)
sparing_asks w (Deleting k ks) = Some (DeleteObjects w.dest.bucket (take 1000 (k ∷ ks)))
sparing_asks w (Removing p ps) = Some (ClusterDelete p)
sparing_asks w (SparingOver end) = None

-- ---- the uploads that records and sets name

-- The upload that a record names.
abbrev pub ref_of : Pending → UploadRef
ref_of p = record { key = p.destination; upload = p.upload }

-- The upload that a record names; none if it is unreadable.
abbrev pub record_names : Result Pending RecordFault → List UploadRef
record_names (Ok p) = ref_of p ∷ []
record_names (Err f) = []

-- The uploads that a set names; none if it is unreadable.
abbrev pub set_names : Result PendingSet RecordFault → List UploadRef
set_names (Ok s) = map ref_of s.commits
set_names (Err f) = []

-- The uploads that the record or set in a reply names; none for any other reply.
abbrev pub names : Reply → List UploadRef
names (Object bytes header) = record_names (reading.pending_of bytes)
names (ClusterBytes bytes) = set_names (reading.set_of bytes)
names _ = []

-- ---- after replies

-- The deletion of the next keys. After the last ones it is Done.
abbrev pub deleting : List (List ℕ) → Sparing
deleting [] = SparingOver ends.Done
deleting (k ∷ ks) = Deleting k ks

-- The deletion of the next of these cluster files. After the last one it is Done.
abbrev pub removing : List (List ℕ) → Sparing
removing [] = SparingOver ends.Done
removing (p ∷ ps) = Removing p ps

-- The deletion of the listed places, after the last upload is aborted.
abbrev pub emptying : Committer → List (List ℕ) → Sparing
emptying Magic all = deleting all
emptying _ all = removing all

-- The abort of the next of these uploads, and what follows after the last one.
abbrev pub aborting : Committer → List UploadRef → List (List ℕ) → Sparing
aborting committer [] all = emptying committer all
aborting committer (u ∷ us) all = Aborting u us all

-- The read of the next of these places, and what follows after the last one.
abbrev pub reading_on : Committer → List UploadRef → List (List ℕ) → List (List ℕ) → Sparing
reading_on committer named [] all = aborting committer named all
reading_on committer named (p ∷ ps) all = Reading named p ps all

-- The state after a page of the keys.
abbrev pub walking : Committer → Walked (List ℕ) → Sparing
walking committer (More keys) = Walking keys
walking committer (Whole keys) = reading_on committer [] (filter is_record keys) keys

-- The state after a reply to the list of the job's files in the cluster.
abbrev pub naming : Committer → Reply → Sparing
naming committer (ClusterNames paths) = reading_on committer [] paths paths
naming committer _ = Naming

-- The state after a reply.
abbrev pub sparing_hears : Script → Sparing → Reply → Sparing
sparing_hears w (Walking keys) r = walking w.committer (walked keys r)
sparing_hears w Naming r = naming w.committer r
sparing_hears w (Reading named p ps all) r = reading_on w.committer (named ++ names r) ps all
sparing_hears w (Aborting u us all) r = aborting w.committer us all
sparing_hears w (Deleting k ks) r = deleting (drop 1000 (k ∷ ks))
sparing_hears w (Removing p ps) r = removing ps
sparing_hears w (SparingOver end) r = SparingOver end

-- How it ended, if it is over.
abbrev pub sparing_over : Sparing → Option CleanEnd
sparing_over (SparingOver end) = Some end
sparing_over _ = None

-- The state after a reply, after a request that ran out of retries, or after memory ran out.
abbrev pub sparing_after : Script → Sparing → Item → Sparing
sparing_after w c (Got r repeated) = sparing_hears w c r
sparing_after w c WornOut = SparingOver ends.StoreFault
sparing_after w c OutOfMemory = SparingOver ends.NoMemory
