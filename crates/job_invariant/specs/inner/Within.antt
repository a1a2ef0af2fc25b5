-- Definitions beside those of `Within` that no public contract cites.
use Rattle.job_model.specs.JobScript.{Script}
use Rattle.job_protocol.specs.Setup.{dest_prefix}
use Rattle.s3_types.specs.Pages.{begins}
use Rattle.s3_types.specs.declared.request.Request.{Request}
use Rattle.s3_types.specs.declared.request.Request.TheVariants.{AbortUpload, CompleteUpload, CopyObject, CreateUpload, DeleteObject}
use Rattle.s3_types.specs.declared.request.Request.TheVariants.{DeleteObjects, MakeBucket, PutObject, UploadPart}
use Rattle.std.specs.Prelude.{List, true, ℕ, ◌≡◌}
use Rattle.text_and_lists.specs.Members.{IsIn}

-- The key is below the destination, in its bucket.
abbrev pub IsBelow : Script → List ℕ → List ℕ → Type 0
IsBelow w bucket key = (bucket ≡ w.dest.bucket) × (begins (dest_prefix w) key ≡ true)

-- Each key that the request may change is below the destination; it copies nothing and makes no bucket.
abbrev pub IsWithin : Script → Request → Type 0
IsWithin w (MakeBucket n) = ⊥
IsWithin w (CopyObject n source target) = ⊥
IsWithin w (PutObject n k bytes header) = IsBelow w n k
IsWithin w (DeleteObject n k) = IsBelow w n k
IsWithin w (DeleteObjects n ks) = (n ≡ w.dest.bucket) × ((k : List ℕ) → IsIn k ks → begins (dest_prefix w) k ≡ true)
IsWithin w (CreateUpload n k) = IsBelow w n k
IsWithin w (UploadPart n k id number bytes) = IsBelow w n k
IsWithin w (CompleteUpload n k id parts) = IsBelow w n k
IsWithin w (AbortUpload n k id) = IsBelow w n k
IsWithin w _ = Unit {0}
