-- The requests that each command may send: those of its operation, and no other (Amazon S3 API reference; Hadoop FileSystem specification).
use Rattle.bucket_ops.specs.Asks.{Ask, is_look, request_of}
use Rattle.bucket_ops.specs.Phases.{SendsIn}
use Rattle.bucket_ops.specs.Uploads.{IsPageOf}
use Rattle.copy_tree.specs.Public.{CopySends}
use Rattle.dir_markers.specs.declared.marker.MarkerPolicy.{MarkerPolicy}
use Rattle.dir_markers.specs.declared.marker.MarkerPolicy.TheVariants.{Delete, Keep}
use Rattle.fs_files.specs.declared.create.CreateFile.{CreateFile}
use Rattle.fs_files.specs.declared.create.CreateStage.TheVariants.{Here}
use Rattle.fs_ops.specs.Places.{look_asks}
use Rattle.fs_rename.specs.Public.{RenameSends}
use Rattle.marker_tool.specs.Works.{CleanSends, FillSends}
use Rattle.path_keys.specs.Paths.{Path, below}
use Rattle.s3_types.specs.Blocks.{block_of}
use Rattle.s3_types.specs.Store.{BucketContent, Scene}
use Rattle.s3_types.specs.declared.request.Request.{Request}
use Rattle.s3_types.specs.declared.request.Request.TheVariants.{ListParts, MakeBucket}
use Rattle.s3_types.specs.declared.request.UploadRef.{UploadRef}
use Rattle.s3a_shell.specs.Doings.{most_input}
use Rattle.s3a_shell.specs.Moving.{route}
use Rattle.s3a_shell.specs.Uploading.{aborts, uploads_below}
use Rattle.s3a_words.specs.declared.command.Command.{Command}
use Rattle.s3a_words.specs.declared.command.Command.TheVariants.{AbortUploads, Cat, CleanMarkers, Cp, FillMarkers, Ls, Markers, Mb, Mkdir}
use Rattle.s3a_words.specs.declared.command.Command.TheVariants.{Mv, Put, PutDrop, PutForce, Rm, Rmr, Stat, Uploads}
use Rattle.std.specs.Prelude.{Bool, List, None, Option, Some, false, length, nat_lt, true, ℕ, [], ◌≡◌, ◌⊎◌}
use Rattle.text_and_lists.specs.Members.{IsIn}
use Rattle.std.specs.FinMap as fin
use Rattle.fs_ops.specs.code.Make as make
use Rattle.fs_ops.specs.code.Delete as delete
use Rattle.fs_files.specs.code.Create as create

-- ---- on a path

-- Holds if the request only looks in this bucket: at a key, at an object's bytes, or at a page of a listing.
abbrev pub LooksIn : List ℕ → Request → Type 0
LooksIn bucket r = (a : Ask) × (r ≡ request_of bucket a) × (is_look a ≡ true)

-- `mkdir`: looks, and the put of the marker if nothing exists there and no file is above.
abbrev pub MakeSends : Path → Scene → Request → Type 0
MakeSends path z r = SendsIn path.bucket (look_asks path.key) (make.sends path.key) z r

-- `rm` and `rmr`: looks, the deletion of what may be deleted, and then the put of the marker above if nothing is there.
abbrev pub DeleteSends : Bool → Path → Scene → Request → Type 0
DeleteSends recursive path z r =
    SendsIn path.bucket (look_asks path.key) (delete.Asks (record { path = path.key; recursive = recursive })) z r

-- `clean-markers`: looks, and the deletion of surplus markers.
abbrev pub CleanMarkersSends : Path → Scene → Request → Type 0
CleanMarkersSends path z r = SendsIn path.bucket (look_asks path.key) (CleanSends path.key) z r

-- `fill-markers`: looks, and the puts of missing markers.
abbrev pub FillMarkersSends : Path → Scene → Request → Type 0
FillMarkersSends path z r = SendsIn path.bucket (look_asks path.key) (FillSends path.key) z r

-- ---- a file of the input

-- The file to make. Its block length follows from the length of the input and the least size of a part in the store.
abbrev pub file_of : Path → List ℕ → Bool → MarkerPolicy → Scene → CreateFile
file_of path bytes overwrite policy z =
    record {
      file = record {
        path = path;
        bytes = bytes;
        block = block_of (length bytes) 0 z.content.minimum;
        overwrite =
            overwrite;
        policy = policy;
      };
      stage = Here;
    }

-- The requests that make this file. For an input that is too large nothing is sent.
abbrev pub PutSendsUnless : Bool → Path → List ℕ → Bool → MarkerPolicy → Scene → Request → Type 0
PutSendsUnless true path bytes overwrite policy z r = ⊥
PutSendsUnless false path bytes overwrite policy z r = create.sends (file_of path bytes overwrite policy z) z r

-- `put`, `put-force` and `put-drop`: the requests that make the file, unless the input is too large.
abbrev pub PutSends : Path → List ℕ → Bool → MarkerPolicy → Scene → Request → Type 0
PutSends path bytes overwrite policy z r = PutSendsUnless (nat_lt most_input (length bytes)) path bytes overwrite policy z r

-- ---- from one path to another one

-- `mv`: the requests of a rename. Between two buckets nothing is sent.
abbrev pub MoveSends : Path → Path → Scene → Request → Type 0
MoveSends from to z r = (from.bucket ≡ to.bucket) × RenameSends (route from to) z r

-- `cp`: the requests of a copy. Between two buckets nothing is sent.
abbrev pub CopyTreeSends : Path → Path → Scene → Request → Type 0
CopyTreeSends from to z r = (from.bucket ≡ to.bucket) × CopySends (route from to) z r

-- ---- uploads

-- Holds if the bucket exists and has this live upload below the path.
abbrev pub IsLiveIn : Option BucketContent → Path → UploadRef → Type 0
IsLiveIn None path u = ⊥
IsLiveIn (Some c) path u = IsIn u (uploads_below path c)

-- The request for the parts of an upload.
abbrev pub lists : List ℕ → UploadRef → Request
lists bucket u = ListParts bucket u.key u.upload

-- Holds if this is such a request on an upload that is live below the path.
abbrev pub OnLive : (List ℕ → UploadRef → Request) → Path → Scene → Request → Type 0
OnLive asks path z r = (u : UploadRef) × IsLiveIn (fin.get z.content.buckets path.bucket) path u × (r ≡ asks path.bucket u)

-- Holds if this lists a page of the live uploads below the path, or is such a request on one of them.
abbrev pub UploadSends : (List ℕ → UploadRef → Request) → Path → Scene → Request → Type 0
UploadSends asks path z r = IsPageOf path.bucket (below path.key []) r ⊎ OnLive asks path z r

-- ---- each command

-- Holds if the command, begun in the scene z with this input, may send this request.
abbrev pub MaySend : Command → List ℕ → Scene → Request → Type 0
MaySend (Mb name) bytes z r = r ≡ MakeBucket name
MaySend (Ls path) bytes z r = LooksIn path.bucket r
MaySend (Stat path) bytes z r = LooksIn path.bucket r
MaySend (Cat path) bytes z r = LooksIn path.bucket r
MaySend (Put path) bytes z r = PutSends path bytes false Keep z r
MaySend (PutForce path) bytes z r = PutSends path bytes true Keep z r
MaySend (PutDrop path) bytes z r = PutSends path bytes false Delete z r
MaySend (Mkdir path) bytes z r = MakeSends path z r
MaySend (Mv from to) bytes z r = MoveSends from to z r
MaySend (Cp from to) bytes z r = CopyTreeSends from to z r
MaySend (Rm path) bytes z r = DeleteSends false path z r
MaySend (Rmr path) bytes z r = DeleteSends true path z r
MaySend (Uploads path) bytes z r = UploadSends lists path z r
MaySend (AbortUploads path) bytes z r = UploadSends aborts path z r
MaySend (Markers path) bytes z r = LooksIn path.bucket r
MaySend (CleanMarkers path) bytes z r = CleanMarkersSends path z r
MaySend (FillMarkers path) bytes z r = FillMarkersSends path z r
MaySend _ bytes z r = ⊥
