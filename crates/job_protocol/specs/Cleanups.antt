-- The driver's abort or clean of a whole job (Hadoop, S3A committer architecture: job abort and cleanup).
use Rattle.job_model.specs.JobScript.{Script}
use Rattle.job_model.specs.declared.ends.CleanEnd.{CleanEnd}
use Rattle.job_protocol.specs.Setup.{dest_prefix}
use Rattle.list_walk.specs.Walks.{More, Sweep, Walked, Whole, all_go, sweep_asks, sweep_hears, sweep_start, uploads_after, walked_uploads}
use Rattle.retries.specs.Retries.{Got, Item, OutOfMemory, WornOut}
use Rattle.s3_types.specs.declared.reply.Reply.{Reply}
use Rattle.s3_types.specs.declared.reply.Reply.TheVariants.{ClusterNames}
use Rattle.s3_types.specs.declared.request.Committer.{Committer}
use Rattle.s3_types.specs.declared.request.Committer.TheVariants.{Magic}
use Rattle.s3_types.specs.declared.request.Request.{Request}
use Rattle.s3_types.specs.declared.request.Request.TheVariants.{AbortUpload, ClusterDelete, ClusterList}
use Rattle.s3_types.specs.declared.request.UploadRef.{UploadRef}
use Rattle.std.specs.Prelude.{List, None, Option, Some, ℕ, [], ◌∷◌}
use Rattle.magic_paths.specs.Layout as layout
use Rattle.job_model.specs.declared.ends.CleanEnd.TheVariants as ends

-- How far an abort or clean of a job has come.
pub data Clean : Type 0 where
  -- lists the live uploads below the destination, with those so far
  Walking : (found : List UploadRef) → Clean
  -- aborts this upload; the others follow
  Aborting : (upload : UploadRef) (others : List UploadRef) → Clean
  -- magic: empties the job's magic directory
  Sweeping : (sweep : Sweep) → Clean
  -- staging: lists the job's files in the cluster
  Naming : Clean
  -- staging: deletes this cluster file; the others follow
  Removing : (path : List ℕ) (others : List (List ℕ)) → Clean
  CleanOver : (end : CleanEnd) → Clean

-- The start: it lists the live uploads below the destination.
abbrev pub clean_start : Clean
clean_start = Walking []

-- The next request, or none if it is over.
abbrev pub clean_asks : Script → Clean → Option Request
clean_asks w (Walking found) = Some (uploads_after w.dest.bucket (dest_prefix w) found)
clean_asks w (Aborting u us) = Some (AbortUpload w.dest.bucket u.key u.upload)
clean_asks w (Sweeping s) = Some (sweep_asks w.dest.bucket (layout.magic_prefix w.dest.key w.job) s)
clean_asks w Naming = Some (ClusterList (layout.cluster_prefix w.job))
clean_asks w (Removing p ps) = Some (ClusterDelete p)
clean_asks w (CleanOver end) = None

-- The state after the last upload is aborted: it empties the magic directory, or lists the job's files in the cluster.
abbrev pub aborted : Committer → Clean
aborted Magic = Sweeping sweep_start
aborted _ = Naming

-- The abort of the next of these uploads, and what follows after the last one.
abbrev pub aborting : Committer → List UploadRef → Clean
aborting committer [] = aborted committer
aborting committer (u ∷ us) = Aborting u us

-- The state after a page of the live uploads.
abbrev pub walking : Committer → Walked UploadRef → Clean
walking committer (More found) = Walking found
walking committer (Whole found) = aborting committer found

-- The state after a reply to the sweep. After the last one it is Done.
abbrev pub sweeping : Option Sweep → Clean
sweeping (Some s) = Sweeping s
sweeping None = CleanOver ends.Done

-- The deletion of the next of these cluster files. After the last one it is Done.
abbrev pub removing : List (List ℕ) → Clean
removing [] = CleanOver ends.Done
removing (p ∷ ps) = Removing p ps

-- The state after a reply to the list of the job's files in the cluster.
abbrev pub naming : Reply → Clean
naming (ClusterNames paths) = removing paths
naming _ = Naming

-- The state after a reply.
abbrev pub clean_hears : Script → Clean → Reply → Clean
clean_hears w (Walking found) r = walking w.committer (walked_uploads found r)
clean_hears w (Aborting u us) r = aborting w.committer us
clean_hears w (Sweeping s) r = sweeping (sweep_hears all_go s r)
clean_hears w Naming r = naming r
clean_hears w (Removing p ps) r = removing ps
clean_hears w (CleanOver end) r = CleanOver end

-- How it ended, if it is over.
abbrev pub clean_over : Clean → Option CleanEnd
clean_over (CleanOver end) = Some end
clean_over _ = None

-- The state after a reply, after a request that ran out of retries, or after memory ran out.
abbrev pub clean_after : Script → Clean → Item → Clean
clean_after w c (Got r repeated) = clean_hears w c r
clean_after w c WornOut = CleanOver ends.StoreFault
clean_after w c OutOfMemory = CleanOver ends.NoMemory
