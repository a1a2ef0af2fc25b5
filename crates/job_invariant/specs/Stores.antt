-- What is in a store and in the cluster at the places of a job, and how a request may change it.
use Rattle.job_model.specs.Attempts.{Who}
use Rattle.job_model.specs.JobScript.{Script}
use Rattle.job_model.specs.Known.{Drawn}
use Rattle.job_protocol.specs.Scope.{upload_at}
use Rattle.job_protocol.specs.View.{object_at}
use Rattle.magic_paths.specs.Places.{ClusterPlace, Place, SetPlace, StagedSetPlace, key_at, path_at}
use Rattle.s3_types.specs.Store.{Content, Scene, Upload}
use Rattle.s3_types.specs.declared.object.Object.{Object}
use Rattle.s3_types.specs.declared.request.Committer.{Committer}
use Rattle.s3_types.specs.declared.request.Committer.TheVariants.{Magic}
use Rattle.std.specs.Option.{option_map}
use Rattle.std.specs.Prelude.{List, Option, ℕ, ◌≡◌}
use Rattle.text_and_lists.specs.Members.{IsIn}
use Rattle.std.specs.FinMap as fin

-- The object at a key of the job's bucket, or none.
abbrev pub at_key : Script → Content → List ℕ → Option Object
at_key w c k = object_at c w.dest.bucket k

-- The object at a place of the job, or none.
abbrev pub at_place : Script → Content → Place → Option Object
at_place w c p = at_key w c (key_at w.dest.key w.job p)

-- The live upload with an id, or none.
abbrev pub at_id : Script → Content → ℕ → Option Upload
at_id w c id = upload_at c w.dest.bucket id

-- The bytes of the file at a place in the cluster, or none.
abbrev pub at_path : Script → Scene → ClusterPlace → Option (List ℕ)
at_path w s p = fin.get s.files (path_at w.job p)

-- The bytes of a task's set where this committer keeps it, in the store or in the cluster, or none.
abbrev pub set_at : Committer → Script → Scene → ℕ → Option (List ℕ)
set_at Magic w s t = option_map (λ o. o.bytes) (at_place w s.content (SetPlace t))
set_at _ w s t = at_path w s (StagedSetPlace t)

-- The bytes of a task's set where the job's committer keeps it, or none.
abbrev pub sets_at : Script → Scene → ℕ → Option (List ℕ)
sets_at w s t = set_at w.committer w s t

-- Some attempt knows the upload.
abbrev pub IsKnown : (Who → List Drawn) → ℕ → Type 0
IsKnown drawn id = (a : Who) × (d : Drawn) × IsIn d (drawn a) × (d.upload ≡ id)

-- ---- how a scene may change
