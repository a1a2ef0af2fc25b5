-- A walk over the live uploads of a bucket below a prefix, as an operation (Amazon S3 API: ListMultipartUploads).
use Rattle.bucket_ops.specs.declared.uploads.UploadsBelow.{UploadsBelow}
use Rattle.list_walk.specs.Walks.{More, Walked, Whole, last_ref, uploads_after, walked_uploads}
use Rattle.operations.specs.declared.plan.Step.{Step}
use Rattle.operations.specs.declared.plan.Step.TheVariants.{End, Next}
use Rattle.s3_types.specs.Multipart.{listed}
use Rattle.s3_types.specs.Store.{Scene}
use Rattle.s3_types.specs.declared.reply.Refusal.{Refusal}
use Rattle.s3_types.specs.declared.reply.Refusal.TheVariants.{NoSuchBucket}
use Rattle.s3_types.specs.declared.reply.Reply.{Reply}
use Rattle.s3_types.specs.declared.reply.Reply.TheVariants.{Refused}
use Rattle.s3_types.specs.declared.request.Request.{Request}
use Rattle.s3_types.specs.declared.request.UploadRef.{UploadRef}
use Rattle.std.specs.Prelude.{List, None, Option, Some, length, option_map, ℕ, [], ◌++◌, ◌≡◌}
use Rattle.std.specs.FinMap as fin

-- The live uploads whose keys begin with a prefix and that come after the given one, in order, if the bucket exists.
abbrev pub uploads_from : Scene → List ℕ → List ℕ → Option UploadRef → Option (List UploadRef)
uploads_from s b p m = option_map (λ c. listed p m c.uploads) (fin.get s.content.buckets b)

-- The scene has not changed.
abbrev pub IsStill : Scene → Scene → Type 0
IsStill z s = s ≡ z

-- The request for the page after the uploads found so far.
abbrev pub asks : UploadsBelow → Request
asks w = uploads_after w.bucket w.prefix w.walk

-- The walk with these uploads found.
abbrev pub with_found : UploadsBelow → List UploadRef → UploadsBelow
with_found w found = record { bucket = w.bucket; prefix = w.prefix; walk = found }

-- The walk goes on, or ends with all uploads found.
abbrev pub led : UploadsBelow → Walked UploadRef → Step UploadsBelow (Option (List UploadRef))
led w (More found) = Next (with_found w found)
led w (Whole found) = End (Some found)

-- If the bucket does not exist, the walk ends with None.
abbrev pub refused : UploadsBelow → Refusal → Step UploadsBelow (Option (List UploadRef))
refused w NoSuchBucket = End None
refused w r = Next w

-- Where a reply leads.
abbrev pub goes : UploadsBelow → Reply → Step UploadsBelow (Option (List UploadRef))
goes w (Refused r) = refused w r
goes w r = led w (walked_uploads w.walk r)

-- Nothing is found yet.
abbrev pub Begins : UploadsBelow → Type 0
Begins w = w.walk ≡ []

-- Started at o in the scene z: the scene has not changed, and the uploads found so far and those that are left are all.
pub record IsListing (o : UploadsBelow) (z : Scene) (w : UploadsBelow) (s : Scene) : Type 0 where
  pub same : s ≡ z
  pub bucket : w.bucket ≡ o.bucket
  pub prefix : w.prefix ≡ o.prefix
  pub whole : option_map (λ l. w.walk ++ l) (uploads_from z w.bucket w.prefix (last_ref None w.walk)) ≡ uploads_from z o.bucket o.prefix
      None

-- The scene has not changed, and the answer is all uploads, if the bucket exists.
abbrev pub Gives : UploadsBelow → Scene → Option (List UploadRef) → Scene → Type 0
Gives o z a s = (s ≡ z) × (a ≡ uploads_from z o.bucket o.prefix None)

-- A walk over uploads changes nothing.
abbrev pub IsSame : UploadsBelow → Scene → Scene → Type 0
IsSame o z s = IsStill z s

-- The request is for a page of the bucket below the prefix, wherever the page begins.
abbrev pub IsPageOf : List ℕ → List ℕ → Request → Type 0
IsPageOf b p r = (found : List UploadRef) × (r ≡ uploads_after b p found)

-- A walk over uploads requests only pages of its bucket below its prefix.
abbrev pub Pages : UploadsBelow → Scene → Request → Type 0
Pages o z r = IsPageOf o.bucket o.prefix r

-- How many uploads are in the list, if there is one.
abbrev pub size : Option (List UploadRef) → ℕ
size (Some l) = length l
size None = 0

-- How many uploads the walk has yet to find.
abbrev pub left : UploadsBelow → Scene → ℕ
left w s = size (uploads_from s w.bucket w.prefix (last_ref None w.walk))
