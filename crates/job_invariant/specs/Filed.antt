-- The uploads of the sets that the driver has read, and what exists at the paths of their files while its commit runs.
use Rattle.text_and_lists.specs.Members.{IsIn}
use Rattle.job_invariant.specs.Facts.{IsWritten}
use Rattle.job_invariant.specs.Stores.{at_id}
use Rattle.job_invariant.specs.Told.{Told}
use Rattle.job_model.specs.Attempts.{Who}
use Rattle.job_model.specs.Files.{File}
use Rattle.job_model.specs.JobScript.{Script}
use Rattle.job_model.specs.Known.{Drawn}
use Rattle.job_model.specs.declared.ends.CommitEnd.{CommitEnd}
use Rattle.job_protocol.specs.Cleanups.{Aborting, Clean, Walking}
use Rattle.job_protocol.specs.JobCommits.{Commit, CommitOver, Completing, Fetching, Marking, Replacing, Reverting, Sets, all_commits}
use Rattle.job_protocol.specs.JobCommits.{picks_of}
use Rattle.job_protocol.specs.Lanes.{abort, deletion}
use Rattle.job_protocol.specs.Outputs.{files, same_path, wanted_at}
use Rattle.job_protocol.specs.Records.{file_record}
use Rattle.path_keys.specs.Paths.{below}
use Rattle.pending_json.specs.Pending.{Pending}
use Rattle.retries.specs.Worn.{IsWorn, streak}
use Rattle.s3_types.specs.Store.{Content, Upload}
use Rattle.s3_types.specs.declared.journal.Entry.{Entry}
use Rattle.s3_types.specs.declared.object.Object.{Object}
use Rattle.s3_types.specs.declared.request.Request.{Request}
use Rattle.s3_types.specs.declared.request.Request.TheVariants.{DeleteObject}
use Rattle.s3_types.specs.declared.request.UploadRef.{UploadRef}
use Rattle.std.specs.Prelude.{Bool, List, None, Option, Some, false, length, true, ℕ, ◌<◌, ◌∷◌, ◌≡◌, ◌≤◌, ◌⊎◌}
use Rattle.job_model.specs.declared.ends.CommitEnd.TheVariants as ends
use Rattle.job_model.specs.declared.ends.FaultStage.TheVariants as stages

-- ---- uploads

-- An upload of a set that was read: that of a written file of an attempt that has sent its publishing request.
pub record IsCommit (w : Script) (minimum : ℕ) (sent : Who → Bool) (drawn : Who → List Drawn) (p : Pending) : Type 0 where
  pub by : Who
  pub file : File
  pub mine : IsIn file (files w by)
  pub written : IsWritten w minimum (drawn by) file
  pub has_sent : sent by ≡ true
  pub is : p ≡ file_record w by file written.drawn

-- Each upload that the driver has ended is gone, and its id was drawn.
abbrev pub Gone : Script → Content → Told → Type 0
Gone w c m = (id : ℕ) → m.ended id ≡ true → (id < c.next) × (at_id w c id ≡ None)

-- An upload that was found has the key with which it was found, as long as it lives.
abbrev pub HasItsKey : Script → Content → UploadRef → Type 0
HasItsKey w c r = (r.upload < c.next) × ((u : Upload) → at_id w c r.upload ≡ Some u → u.key ≡ r.key)

-- Each upload that was found has the key with which it was found, as long as it lives.
abbrev pub AllHaveKeys : Script → Content → List UploadRef → Type 0
AllHaveKeys w c found = (r : UploadRef) → IsIn r found → HasItsKey w c r

-- Each upload that an abort or clean of the job has found and not yet aborted has the key with which it was found.
abbrev pub FoundWithKeys : Script → Content → Clean → Type 0
FoundWithKeys w c (Walking found) = AllHaveKeys w c found
FoundWithKeys w c (Aborting u us) = AllHaveKeys w c (u ∷ us)
FoundWithKeys w c _ = Unit {0}

-- Each of these requests aborts an upload of a set, or deletes its file's key.
abbrev pub AreReverts : Script → ℕ → (Who → Bool) → (Who → List Drawn) → List Request → Type 0
AreReverts w minimum sent drawn rs = (r : Request) → IsIn r rs → (p : Pending) × IsCommit w minimum sent drawn p
    × ((r ≡ abort p) ⊎ (r ≡ deletion p))

-- All sets are read, and no two of their attempts write one path.
pub record AreDecided (w : Script) (sets : Sets) : Type 0 where
  pub all : length sets ≡ w.tasks
  pub apart : same_path w (picks_of sets) ≡ None

-- A commit that goes on with its sets has read all of them, and no two share a path. A revert names only uploads of the sets.
abbrev pub Decides : Script → ℕ → (Who → Bool) → (Who → List Drawn) → Commit → Type 0
Decides w minimum sent drawn (Fetching sets n) = length sets < w.tasks
Decides w minimum sent drawn (Replacing sets p ps s n) = AreDecided w sets
Decides w minimum sent drawn (Completing sets x xs finished) = AreDecided w sets
Decides w minimum sent drawn (Marking sets n) = AreDecided w sets
Decides w minimum sent drawn (Reverting r rs n) = AreReverts w minimum sent drawn (r ∷ rs)
Decides w minimum sent drawn (CommitOver end) = Unit {0}

-- ---- files

-- The object of a completed file.
abbrev pub whole_of : List ℕ → Object
whole_of bytes = record { bytes = bytes; header = None }

-- The object is the one that was there as the commit began, or there is none, as a replace mode and a revert leave it.
abbrev pub IsBefore : Option Object → Option Object → Type 0
IsBefore first now = (now ≡ first) ⊎ (now ≡ None)

-- The request that deletes the object at a path.
abbrev pub deletes : Script → List ℕ → Request
deletes w q = DeleteObject w.dest.bucket (below w.dest.key q)

-- These bytes are wanted at the path, if the commit goes on with its sets.
abbrev pub Wants : Script → List ℕ → List ℕ → Commit → Type 0
Wants w q b (Replacing sets p ps s n) = wanted_at w (picks_of sets) q ≡ Some b
Wants w q b (Completing sets x xs finished) = wanted_at w (picks_of sets) q ≡ Some b
Wants w q b (Marking sets n) = wanted_at w (picks_of sets) q ≡ Some b
Wants w q b _ = Unit {0}

-- What a commit that is over leaves at a path where these bytes are wanted.
abbrev pub FileLeft : Script → List ℕ → List ℕ → Option Object → List Entry → Option Object → CommitEnd → Type 0
FileLeft w q b first es now ends.Committed = now ≡ Some (whole_of b)
FileLeft w q b first es now (ends.StoreFault stages.Success) = now ≡ Some (whole_of b)
-- A file of the job is left only if its deletion ran out of retries.
FileLeft w q b first es now (ends.StoreFault stages.Complete) = IsBefore first now
    ⊎ ((now ≡ Some (whole_of b)) × IsWorn w.retries (deletes w q) es)
FileLeft w q b first es now (ends.StoreFault stages.Delete) = IsBefore first now
FileLeft w q b first es now _ = now ≡ first

-- The object at a path where these bytes are wanted and `first` was as the commit began, by the state of the commit, its entries and the
-- uploads that the driver has ended.
abbrev pub FileStands : Script → List ℕ → List ℕ → Option Object → List Entry → Option Object → (ℕ → Bool) → Commit → Type 0
FileStands w q b first es now ended (Fetching sets n) = now ≡ first
FileStands w q b first es now ended (Replacing sets p ps s n) = IsBefore first now
-- The whole file if its upload is ended, else the old object or none.
FileStands w q b first es now ended (Completing sets x xs finished) = (p : Pending) → IsIn p (all_commits sets)
    → p.destination ≡ below w.dest.key q → ((ended p.upload ≡ true → now ≡ Some (whole_of b))
    × (ended p.upload ≡ false → IsBefore first now))
FileStands w q b first es now ended (Marking sets n) = now ≡ Some (whole_of b)
-- A whole file is still to be deleted, or its deletion ran out of retries.
FileStands w q b first es now ended (Reverting r rs n) = (n ≤ streak r es)
    × (IsBefore first now ⊎ ((now ≡ Some (whole_of b)) × (IsIn (deletes w q) (r ∷ rs) ⊎ IsWorn w.retries (deletes w q) es)))
FileStands w q b first es now ended (CommitOver end) = FileLeft w q b first es now end
