-- What the driver's abort or clean of the job has still to remove, while nobody else sends.
use Rattle.text_and_lists.specs.Members.{IsIn}
use Rattle.job_invariant.specs.Driver.{FitsSweep}
use Rattle.job_invariant.specs.Emptying.{Empties}
use Rattle.job_invariant.specs.Stores.{at_id}
use Rattle.job_model.specs.JobScript.{Script}
use Rattle.job_protocol.specs.Cleanups.{Aborting, Clean, CleanOver, Naming, Removing, Sweeping, Walking, clean_after, clean_asks}
use Rattle.job_protocol.specs.Cleanups.{clean_start}
use Rattle.job_protocol.specs.Scope.{NoneLive, NothingLeft}
use Rattle.job_protocol.specs.Seen.{is_magic, is_staging}
use Rattle.job_protocol.specs.Setup.{dest_prefix}
use Rattle.list_walk.specs.Walks.{last_ref}
use Rattle.magic_paths.specs.Layout.{cluster_prefix}
use Rattle.retries.specs.Retries.{Retried, step}
use Rattle.s3_types.specs.Answer.{answer}
use Rattle.s3_types.specs.Moment.{IsHonestOutcome, effect}
use Rattle.s3_types.specs.Multipart.{is_behind}
use Rattle.s3_types.specs.Pages.{begins}
use Rattle.s3_types.specs.Store.{Content, Scene, Upload}
use Rattle.s3_types.specs.declared.journal.Outcome.{Outcome}
use Rattle.s3_types.specs.declared.request.Request.{Request}
use Rattle.s3_types.specs.declared.request.UploadRef.{UploadRef}
use Rattle.std.specs.Prelude.{List, None, Some, true, ℕ, ◌∷◌, ◌≡◌, ◌⊎◌}
use Rattle.store_frame.specs.Held.{HasBucket}
use Rattle.std.specs.FinMap as fin
use Rattle.job_model.specs.declared.ends.CleanEnd.TheVariants as ends

-- An upload as a listing shows it.
abbrev pub ref_at : ℕ → Upload → UploadRef
ref_at id u = record { key = u.key; upload = id }

-- Each live upload below the destination is among these.
abbrev pub LiveIn : Script → Content → List UploadRef → Type 0
LiveIn w c found = (id : ℕ) (u : Upload) → at_id w c id ≡ Some u → begins (dest_prefix w) u.key ≡ true → IsIn (ref_at id u) found

-- Each live upload below the destination is among these, or a later page lists it.
abbrev pub LiveOrBehind : Script → Content → List UploadRef → Type 0
LiveOrBehind w c found = (id : ℕ) (u : Upload) → at_id w c id ≡ Some u → begins (dest_prefix w) u.key ≡ true → IsIn (ref_at id u) found
    ⊎ (is_behind (last_ref None found) (ref_at id u) ≡ true)

-- Each file of the job in the cluster is among these.
abbrev pub FilesIn : Script → Scene → List (List ℕ) → Type 0
FilesIn w s paths = (p bytes : List ℕ) → fin.get s.files p ≡ Some bytes → begins (cluster_prefix w.job) p ≡ true → IsIn p paths

-- Each upload and file that is still to go is already found or yet to be found. If the operation ended Done, nothing is left.
abbrev pub Clears : Script → Scene → Clean → Type 0
Clears w s (Walking found) = HasBucket s.content w.dest.bucket × LiveOrBehind w s.content found
Clears w s (Aborting u us) = HasBucket s.content w.dest.bucket × LiveIn w s.content (u ∷ us)
Clears w s (Sweeping t) = (is_magic w.committer ≡ true) × NoneLive w s.content × HasBucket s.content w.dest.bucket × FitsSweep w t
    × Empties w s.content t
Clears w s Naming = (is_staging w.committer ≡ true) × NoneLive w s.content
Clears w s (Removing p ps) = (is_staging w.committer ≡ true) × NoneLive w s.content × FilesIn w s (p ∷ ps)
Clears w s (CleanOver end) = end ≡ ends.Done → NothingLeft w.committer w s

-- An abort or clean of the job keeps this, for every committer, from any store that has the bucket.
pub record CleanClears : Type 0 where
  pub begins : (w : Script) (s : Scene) → HasBucket s.content w.dest.bucket → Clears w s clean_start
  pub goes : (w : Script) (s : Scene) (retries : ℕ) (t : Retried Clean) → Clears w s t.operation → (r : Request)
      → clean_asks w t.operation ≡ Some r → (o : Outcome) → IsHonestOutcome o (answer s r)
      → Clears w (effect s r o) (step retries (clean_after w) t o).operation
  pub done : (w : Script) (s : Scene) → Clears w s (CleanOver ends.Done) → NothingLeft w.committer w s
