-- The states of an abort or clean at a shared destination, and the files in the job's directory in the cluster.
use Rattle.job_invariant.specs.Driver.{AllCluster, AllMagic}
use Rattle.job_model.specs.Attempts.{Who}
use Rattle.job_model.specs.JobScript.{Script}
use Rattle.job_model.specs.Known.{Drawn}
use Rattle.job_protocol.specs.Seen.{is_magic, is_staging}
use Rattle.job_protocol.specs.Sparing.{Aborting, Deleting, Naming, Reading, Removing, Sparing, SparingOver, Walking}
use Rattle.magic_paths.specs.Places.{is_record}
use Rattle.s3_types.specs.declared.request.UploadRef.{UploadRef}
use Rattle.std.specs.Prelude.{List, true, ℕ, ◌∷◌, ◌≡◌}
use Rattle.text_and_lists.specs.Members.{IsIn}

-- Each is an upload that an attempt of the job knows, with its key.
abbrev pub AllKnown : (Who → List Drawn) → List UploadRef → Type 0
AllKnown drawn us = (u : UploadRef) → IsIn u us → (a : Who) × (d : Drawn) × IsIn d (drawn a) × (d.upload ≡ u.upload) × (d.key ≡ u.key)

-- All places are where the job's committer keeps its own: in the magic directory or in the cluster.
pub record AllOwn (w : Script) (places : List (List ℕ)) : Type 0 where
  pub keys : is_magic w.committer ≡ true → AllMagic w places
  pub paths : is_staging w.committer ≡ true → AllCluster w places

-- The state of such an abort or clean fits: an attempt of the job knows all that it aborts, and all that it deletes is the job's own.
abbrev pub FitsSparing : Script → (Who → List Drawn) → Sparing → Type 0
FitsSparing w drawn (Walking keys) = (is_magic w.committer ≡ true) × AllMagic w keys
FitsSparing w drawn Naming = is_staging w.committer ≡ true
FitsSparing w drawn (Reading named p ps all) = AllKnown drawn named × AllOwn w (p ∷ ps) × AllOwn w all
    × (is_magic w.committer ≡ true → (k : List ℕ) → IsIn k (p ∷ ps) → is_record k ≡ true)
FitsSparing w drawn (Aborting u us all) = AllKnown drawn (u ∷ us) × AllOwn w all
FitsSparing w drawn (Deleting k ks) = AllMagic w (k ∷ ks)
FitsSparing w drawn (Removing p ps) = AllCluster w (p ∷ ps)
FitsSparing w drawn (SparingOver end) = Unit {0}
