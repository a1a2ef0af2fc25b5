-- What each request is answered, and what it leaves in the store. A refused request changes nothing.
use Rattle.s3_types.specs.Multipart.{is_part_number, joined, live, sizes, with_part}
use Rattle.s3_types.specs.Names.{is_bucket}
use Rattle.s3_types.specs.Pages.{begins}
use Rattle.s3_types.specs.Store.{BucketContent, Content, Files, Objects, Scene, Upload, Uploads, new_bucket}
use Rattle.s3_types.specs.Tags.{joined_tag, plain_tag}
use Rattle.s3_types.specs.declared.limits.TheConstants.{MOST_ENTRIES}
use Rattle.s3_types.specs.declared.object.Object.{Object}
use Rattle.s3_types.specs.declared.reply.Refusal.{Refusal}
use Rattle.s3_types.specs.declared.reply.Refusal.TheVariants.{BadName, BadPartNumber, BucketExists, NoSuchBucket, NoSuchFile, NoSuchKey}
use Rattle.s3_types.specs.declared.reply.Refusal.TheVariants.{NoSuchUpload, TooManyKeys}
use Rattle.s3_types.specs.declared.reply.Reply.{Reply}
use Rattle.s3_types.specs.declared.reply.Reply.TheVariants.{Aborted, ClusterBytes, ClusterDone, ClusterNames, Completed, Copied, Deleted}
use Rattle.s3_types.specs.declared.reply.Reply.TheVariants.{Head, Made, Object as Found, Part, Parts, Refused, Stored, Upload as Drawn}
use Rattle.s3_types.specs.declared.request.NamedPart.{NamedPart}
use Rattle.s3_types.specs.declared.request.Request.{Request}
use Rattle.s3_types.specs.declared.request.Request.TheVariants.{AbortUpload, ClusterDelete, ClusterGet, ClusterList, ClusterPut}
use Rattle.s3_types.specs.declared.request.Request.TheVariants.{ClusterRename, CompleteUpload, CopyObject, CreateUpload, DeleteObject}
use Rattle.s3_types.specs.declared.request.Request.TheVariants.{DeleteObjects, GetObject, HeadObject, ListPage, ListParts, ListUploads}
use Rattle.s3_types.specs.declared.request.Request.TheVariants.{MakeBucket, PutObject, UploadPart}
use Rattle.std.specs.List.{filter}
use Rattle.std.specs.Prelude.{Bool, Err, List, None, Ok, Option, Result, Some, cond, false, length, map, nat_lt, true, ℕ, [], ◌+◌, ◌∷◌}
use Rattle.std.specs.FinMap as fin
use Rattle.s3_types.specs.Pages as pages
use Rattle.s3_types.specs.Multipart as uploads

-- ---- answers

-- GetObject: the object's bytes and header.
abbrev pub found : Option Object → Reply
found (Some o) = Found o.bytes o.header
found None = Refused NoSuchKey

-- HeadObject: the object's length and header.
abbrev pub head : Option Object → Reply
head (Some o) = Head (length o.bytes) o.header
head None = Refused NoSuchKey

-- CopyObject: NoSuchKey if the source does not exist.
abbrev pub copy_answer : Option Object → Reply
copy_answer (Some o) = Copied
copy_answer None = Refused NoSuchKey

-- UploadPart: NoSuchUpload unless the upload is live, then BadPartNumber unless the number is in range, then the part's tag.
abbrev pub part_answer : Option Upload → ℕ → List ℕ → Reply
part_answer None n bytes = Refused NoSuchUpload
part_answer (Some u) n bytes = cond (is_part_number n) (Part (plain_tag bytes)) (Refused BadPartNumber)

-- CompleteMultipartUpload: the tag of the object that the named parts make, or why they cannot be joined.
abbrev pub complete_answer : List NamedPart → Result (List ℕ) Refusal → Reply
complete_answer ns (Ok bytes) = Completed (joined_tag (map (λ n. n.tag) ns))
complete_answer ns (Err r) = Refused r

-- AbortMultipartUpload: NoSuchUpload unless the upload is live.
abbrev pub abort_answer : Option Upload → Reply
abort_answer (Some u) = Aborted
abort_answer None = Refused NoSuchUpload

-- ListParts: the parts of a live upload, or NoSuchUpload.
abbrev pub parts_answer : Option Upload → Reply
parts_answer (Some u) = Parts (sizes u.parts)
parts_answer None = Refused NoSuchUpload

-- The answer of a bucket that exists. `next` is the id that the next upload gets, `minimum` the least size of a part.
abbrev pub answer_in : BucketContent → ℕ → ℕ → Request → Reply
answer_in b next minimum (PutObject n k bytes header) = Stored (plain_tag bytes)
answer_in b next minimum (GetObject n k) = found (fin.get b.objects k)
answer_in b next minimum (HeadObject n k) = head (fin.get b.objects k)
answer_in b next minimum (DeleteObject n k) = Deleted
answer_in b next minimum (DeleteObjects n ks) = cond (nat_lt MOST_ENTRIES (length ks)) (Refused TooManyKeys) Deleted
answer_in b next minimum (CopyObject n source target) = copy_answer (fin.get b.objects source)
answer_in b next minimum (ListPage n p delimited after limit) = pages.page limit (pages.listed p delimited after b.objects)
answer_in b next minimum (CreateUpload n k) = Drawn next
answer_in b next minimum (UploadPart n k id number bytes) = part_answer (live b.uploads k id) number bytes
answer_in b next minimum (CompleteUpload n k id ns) = complete_answer ns (joined (live b.uploads k id) ns minimum)
answer_in b next minimum (AbortUpload n k id) = abort_answer (live b.uploads k id)
answer_in b next minimum (ListParts n k id) = parts_answer (live b.uploads k id)
answer_in b next minimum (ListUploads n p after limit) = uploads.page limit (uploads.listed p after b.uploads)
-- The other requests do not reach a bucket that exists.
answer_in b next minimum _ = Refused NoSuchBucket

-- The name of the bucket that a request names, or the empty text for a request to the cluster.
abbrev pub bucket_of : Request → List ℕ
bucket_of (MakeBucket n) = n
bucket_of (PutObject n k bytes header) = n
bucket_of (GetObject n k) = n
bucket_of (HeadObject n k) = n
bucket_of (DeleteObject n k) = n
bucket_of (DeleteObjects n ks) = n
bucket_of (CopyObject n source target) = n
bucket_of (ListPage n p delimited after limit) = n
bucket_of (CreateUpload n k) = n
bucket_of (UploadPart n k id number bytes) = n
bucket_of (CompleteUpload n k id ns) = n
bucket_of (AbortUpload n k id) = n
bucket_of (ListParts n k id) = n
bucket_of (ListUploads n p after limit) = n
bucket_of _ = []

-- The answer of the named bucket, or NoSuchBucket if it does not exist.
abbrev pub answer_at : Option BucketContent → ℕ → ℕ → Request → Reply
answer_at None next minimum r = Refused NoSuchBucket
answer_at (Some b) next minimum r = answer_in b next minimum r

-- CreateBucket: BadName unless the name follows the naming rules, then BucketExists if a bucket has that name.
abbrev pub make_answer : List ℕ → Option BucketContent → Reply
make_answer name None = cond (is_bucket name) Made (Refused BadName)
make_answer name (Some b) = cond (is_bucket name) (Refused BucketExists) (Refused BadName)

-- The answer of the store.
abbrev pub answer_store : Content → Request → Reply
answer_store c (MakeBucket name) = make_answer name (fin.get c.buckets name)
answer_store c r = answer_at (fin.get c.buckets (bucket_of r)) c.next c.minimum r

-- A rename in the cluster: NoSuchFile if the source does not exist.
abbrev pub rename_answer : Option (List ℕ) → Reply
rename_answer (Some bytes) = ClusterDone
rename_answer None = Refused NoSuchFile

-- A read of a file in the cluster: its bytes, or NoSuchFile.
abbrev pub read_answer : Option (List ℕ) → Reply
read_answer (Some bytes) = ClusterBytes bytes
read_answer None = Refused NoSuchFile

-- The answer of the store and the cluster.
abbrev pub answer : Scene → Request → Reply
answer s (ClusterPut path bytes) = ClusterDone
answer s (ClusterRename source target) = rename_answer (fin.get s.files source)
answer s (ClusterGet path) = read_answer (fin.get s.files path)
answer s (ClusterDelete path) = ClusterDone
answer s (ClusterList p) = ClusterNames (filter (begins p) (fin.keys s.files))
answer s r = answer_store s.content r

-- ---- effects

-- The bucket with these objects, its uploads unchanged.
abbrev pub with_objects : BucketContent → Objects → BucketContent
with_objects b m = record { objects = m; uploads = b.uploads }

-- The bucket with these uploads, its objects unchanged.
abbrev pub with_uploads : BucketContent → Uploads → BucketContent
with_uploads b m = record { objects = b.objects; uploads = m }

-- The objects without these keys.
abbrev pub without : Objects → List (List ℕ) → Objects
without m [] = m
without m (k ∷ ks) = without (fin.remove m k) ks

-- CopyObject: the target becomes the object at the source, if there is one.
abbrev pub copied : Objects → List ℕ → Option Object → Objects
copied m target (Some o) = fin.insert m target o
copied m target None = m

-- UploadPart: the live upload gets this part, if the number is in range.
abbrev pub part_put : Uploads → ℕ → Option Upload → ℕ → List ℕ → Uploads
part_put m id None n bytes = m
part_put m id (Some u) n bytes = cond (is_part_number n) (fin.insert m id (with_part u n bytes)) m

-- CompleteMultipartUpload: the object gets the joined bytes and no header, and the upload is gone.
abbrev pub completed : BucketContent → List ℕ → ℕ → Result (List ℕ) Refusal → BucketContent
completed b k id (Ok bytes) = record {
  objects = fin.insert b.objects k (record { bytes = bytes; header = None });
  uploads = fin.remove
      b.uploads id;
}
completed b k id (Err r) = b

-- AbortMultipartUpload: the upload is gone, if it was live.
abbrev pub aborted : Uploads → ℕ → Option Upload → Uploads
aborted m id (Some u) = fin.remove m id
aborted m id None = m

-- The bucket after a request that names it.
abbrev pub apply_in : BucketContent → ℕ → ℕ → Request → BucketContent
apply_in b next minimum (PutObject n k bytes header) = with_objects b (fin.insert b.objects k (record { bytes = bytes; header = header }))
apply_in b next minimum (DeleteObject n k) = with_objects b (fin.remove b.objects k)
apply_in b next minimum (DeleteObjects n ks) = with_objects b (cond (nat_lt MOST_ENTRIES (length ks)) b.objects (without b.objects ks))
apply_in b next minimum (CopyObject n source target) = with_objects b (copied b.objects target (fin.get b.objects source))
apply_in b next minimum (CreateUpload n k) = with_uploads b (fin.insert b.uploads next (record { key = k; parts = fin.empty }))
apply_in b next minimum (UploadPart n k id number bytes) = with_uploads b (part_put b.uploads id (live b.uploads k id) number bytes)
apply_in b next minimum (CompleteUpload n k id ns) = completed b k id (joined (live b.uploads k id) ns minimum)
apply_in b next minimum (AbortUpload n k id) = with_uploads b (aborted b.uploads id (live b.uploads k id))
apply_in b next minimum _ = b

-- True if the request takes an upload's id.
abbrev pub draws : Request → Bool
draws (CreateUpload n k) = true
draws _ = false

-- The store after a request to this bucket. A request to a bucket that does not exist changes nothing.
abbrev pub apply_at : Option BucketContent → Content → Request → Content
apply_at None c r = c
apply_at (Some b) c r = record {
  buckets = fin.insert c.buckets (bucket_of r) (apply_in b c.next c.minimum r);
  next = cond (draws r)
      (c.next + 1) c.next;
  minimum = c.minimum;
}

-- CreateBucket: the store with a new bucket, if the name follows the rules and no bucket has it.
abbrev pub made : Content → List ℕ → Option BucketContent → Content
made c name None = cond (is_bucket name) (record { buckets = fin.insert c.buckets name new_bucket; next = c.next; minimum = c.minimum }) c
made c name (Some b) = c

-- The store after a request.
abbrev pub apply_store : Content → Request → Content
apply_store c (MakeBucket name) = made c name (fin.get c.buckets name)
apply_store c r = apply_at (fin.get c.buckets (bucket_of r)) c r

-- Rename: the target gets the bytes of the source, and the source is gone unless it is the target.
abbrev pub renamed : Files → List ℕ → List ℕ → Option (List ℕ) → Files
renamed m source target (Some bytes) = fin.insert (fin.remove m source) target bytes
renamed m source target None = m

-- The scene with these cluster files, its store unchanged.
abbrev pub with_files : Scene → Files → Scene
with_files s m = record { content = s.content; files = m }

-- The store and the cluster after a request.
abbrev pub apply : Scene → Request → Scene
apply s (ClusterPut path bytes) = with_files s (fin.insert s.files path bytes)
apply s (ClusterRename source target) = with_files s (renamed s.files source target (fin.get s.files source))
apply s (ClusterGet path) = s
apply s (ClusterDelete path) = with_files s (fin.remove s.files path)
apply s (ClusterList p) = s
apply s r = record { content = apply_store s.content r; files = s.files }
