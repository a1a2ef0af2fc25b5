-- What each command does and says.
use Rattle.bucket_ops.specs.Phases.{AlwaysIn, GivesIn}
use Rattle.copy_tree.specs.Public.{StandsCopied}
use Rattle.dir_markers.specs.Markers.{created}
use Rattle.dir_markers.specs.declared.marker.MarkerPolicy.{MarkerPolicy}
use Rattle.dir_markers.specs.declared.marker.MarkerPolicy.TheVariants.{Delete, Keep}
use Rattle.fs_files.specs.Placed.{InFile, NoneLeft, object_of}
use Rattle.fs_files.specs.code.Create.{IsUndone}
use Rattle.fs_rename.specs.Public.{StandsWhole}
use Rattle.fs_tree.specs.Answers.{Creates, Deletes, Lists, Makes, Reads, Stats}
use Rattle.fs_tree.specs.MarkerTool.{Audits, Cleans, Fills, IsCleaning, IsFilling}
use Rattle.fs_tree.specs.declared.answers.FsRefusal.{FsRefusal}
use Rattle.fs_tree.specs.declared.answers.FsRefusal.TheVariants.{NoSuchBucket}
use Rattle.path_keys.specs.Paths.{Path}
use Rattle.s3_types.specs.Answer.{answer, apply, without}
use Rattle.s3_types.specs.Store.{Objects, Scene}
use Rattle.s3_types.specs.declared.reply.Refusal.TheVariants.{BadName, BucketExists}
use Rattle.s3_types.specs.declared.reply.Reply.{Reply}
use Rattle.s3_types.specs.declared.reply.Reply.TheVariants.{Refused}
use Rattle.s3_types.specs.declared.request.Request.TheVariants.{MakeBucket}
use Rattle.s3a_shell.specs.Moving.{DidCopy, DidMove, route}
use Rattle.s3a_shell.specs.Sendings.{AppliedOrNot}
use Rattle.s3a_shell.specs.Texts.{bytes_alone, cleaned_line, entry_lines, filled_line, fine, marker_lines, nothing, refusing, said}
use Rattle.s3a_shell.specs.Texts.{status_line}
use Rattle.s3a_shell.specs.Uploading.{AbortedSome, DidAbort, DidList}
use Rattle.s3a_shell.specs.declared.said.Said.{Said}
use Rattle.s3a_words.specs.Kinds.{is_look, is_on_buckets, kind_of}
use Rattle.s3a_words.specs.declared.command.Command.{Command}
use Rattle.s3a_words.specs.declared.command.Command.TheVariants.{AbortUploads, Cat, CleanMarkers, Cp, FillMarkers, Ls, Markers, Mb, Mkdir}
use Rattle.s3a_words.specs.declared.command.Command.TheVariants.{Mv, Put, PutDrop, PutForce, Rm, Rmr, Stat, Uploads}
use Rattle.std.specs.Prelude.{Bool, Err, List, None, Option, Result, Some, codes, false, length, nat_lt, true, ℕ, [], ◌≡◌, ◌⊎◌}
use Rattle.std.specs.FinMap as fin
use Rattle.fs_ops.specs.code.Delete as delete
use Rattle.fs_ops.specs.code.Make as make

-- ---- on a path

-- An operation on a path was done in the scene z and left s, and its answer or refusal was said.
pub record Did {A : Type 0} (path : Path) (gives : Objects → Result A FsRefusal → Objects → Type 0) (text : A → List ℕ) (z : Scene)
    (what : Said) (s : Scene) : Type 0 where
  pub answer : Result A FsRefusal
  pub given : GivesIn path.bucket gives (Err NoSuchBucket) z answer s
  pub told : what ≡ said text answer

-- ---- a file of the input

-- The most bytes of an input.
abbrev pub most_input : ℕ
most_input = 67108864

-- A file was made, and the markers above it were kept or deleted; or the command was refused.
pub record Created (path : Path) (bytes : List ℕ) (overwrite : Bool) (policy : MarkerPolicy) (z : Scene) (what : Said) (s : Scene) : Type 0
  where
    pub answer : Result (Unit {0}) FsRefusal
    pub given : InFile (fin.get z.content.buckets path.bucket) (λ m n. Creates path bytes overwrite policy m answer n)
        (answer ≡ Err NoSuchBucket) z path.bucket s
    pub undone : IsUndone answer z s
    -- no upload that was begun by it is live
    pub none : NoneLeft z path.bucket s
    pub told : what ≡ said nothing answer

-- The file was made, or an input that is too large was refused before anything was sent.
abbrev pub CreatedUnless : Bool → Path → List ℕ → Bool → MarkerPolicy → Scene → Said → Scene → Type 0
CreatedUnless true path bytes overwrite policy z what s = (what ≡ refusing (codes "too-large") None) × (s ≡ z)
CreatedUnless false path bytes overwrite policy z what s = Created path bytes overwrite policy z what s

-- The objects with the whole file added.
abbrev pub with_file : Path → List ℕ → Objects → Objects
with_file path bytes m = fin.insert m path.key (object_of bytes)

-- The objects are as they were, or the whole file is there. Of the markers above it that must go, all or none are gone.
abbrev pub IsMadeOrNot : MarkerPolicy → Path → List ℕ → Objects → Objects → Type 0
IsMadeOrNot policy path bytes m n = (n ≡ m) ⊎ ((n ≡ with_file path bytes m) ⊎ (n ≡ without (with_file path bytes m) (created policy path)))

-- Holds at every point while a file is made: the objects are as they were, or the whole file is there.
abbrev pub FileOrNot : MarkerPolicy → Path → List ℕ → Scene → Scene → Type 0
FileOrNot policy path bytes z s = InFile (fin.get z.content.buckets path.bucket) (IsMadeOrNot policy path bytes) (Unit {0}) z path.bucket s

-- A file was made of the input, or the command was refused.
abbrev pub DidPut : Path → List ℕ → Bool → MarkerPolicy → Scene → Said → Scene → Type 0
DidPut path bytes overwrite policy z what s = CreatedUnless (nat_lt most_input (length bytes)) path bytes overwrite policy z what s

-- ---- a bucket

-- The word for the refusal of a new bucket, if the reply is one.
abbrev pub refusal_word : Reply → Option (List ℕ)
refusal_word (Refused BadName) = Some (codes "bad-name")
refusal_word (Refused BucketExists) = Some (codes "bucket-exists")
refusal_word _ = None

-- What the command says: the refusal with this word, or nothing.
abbrev pub refused_or_fine : Option (List ℕ) → Said
refused_or_fine (Some word) = refusing word None
refused_or_fine None = fine []

-- A bucket was made, or the command was refused.
abbrev pub DidMake : List ℕ → Scene → Said → Scene → Type 0
DidMake name z what s = (what ≡ refused_or_fine (refusal_word (answer z (MakeBucket name)))) × (s ≡ apply z (MakeBucket name))

-- ---- each command

-- True for the commands that work on the buckets of a store.
abbrev pub is_of_shell : Command → Bool
is_of_shell command = is_on_buckets (kind_of command)

-- True for the commands that change nothing.
abbrev pub only_looks : Command → Bool
only_looks command = is_look (kind_of command)

-- The command, begun in the scene z with this input, says this and leaves the scene s.
abbrev pub Does : Command → List ℕ → Scene → Said → Scene → Type 0
Does (Mb name) bytes z what s = DidMake name z what s
Does (Ls path) bytes z what s = Did path (Lists path.key) entry_lines z what s
Does (Stat path) bytes z what s = Did path (Stats path.key) status_line z what s
Does (Cat path) bytes z what s = Did path (Reads path.key) bytes_alone z what s
Does (Put path) bytes z what s = DidPut path bytes false Keep z what s
Does (PutForce path) bytes z what s = DidPut path bytes true Keep z what s
Does (PutDrop path) bytes z what s = DidPut path bytes false Delete z what s
Does (Mkdir path) bytes z what s = Did path (Makes path.key) nothing z what s
Does (Mv from to) bytes z what s = DidMove from to z what s
Does (Cp from to) bytes z what s = DidCopy from to z what s
Does (Rm path) bytes z what s = Did path (Deletes false path.key) nothing z what s
Does (Rmr path) bytes z what s = Did path (Deletes true path.key) nothing z what s
Does (Uploads path) bytes z what s = DidList path z what s
Does (AbortUploads path) bytes z what s = DidAbort path z what s
Does (Markers path) bytes z what s = Did path (Audits path.key) marker_lines z what s
Does (CleanMarkers path) bytes z what s = Did path (Cleans path.key) cleaned_line z what s
Does (FillMarkers path) bytes z what s = Did path (Fills path.key) filled_line z what s
Does _ bytes z what s = ⊥

-- Holds if the path is deleted in part.
abbrev pub DeletedSome : Bool → Path → Scene → Scene → Type 0
DeletedSome recursive path z s = AlwaysIn path.bucket (delete.InPart (record { path = path.key; recursive = recursive })) z s

-- Holds if a command that was begun in the scene z, with this input, may leave the scene s if it stops at any point.
abbrev pub MayStandAt : Command → List ℕ → Scene → Scene → Type 0
MayStandAt (Mb name) bytes z s = AppliedOrNot (MakeBucket name) z s
MayStandAt (Put path) bytes z s = FileOrNot Keep path bytes z s
MayStandAt (PutForce path) bytes z s = FileOrNot Keep path bytes z s
MayStandAt (PutDrop path) bytes z s = FileOrNot Delete path bytes z s
MayStandAt (Mkdir path) bytes z s = AlwaysIn path.bucket (make.always path.key) z s
MayStandAt (Mv from to) bytes z s = StandsWhole (route from to) z s
MayStandAt (Cp from to) bytes z s = StandsCopied (route from to) z s
MayStandAt (Rm path) bytes z s = DeletedSome false path z s
MayStandAt (Rmr path) bytes z s = DeletedSome true path z s
MayStandAt (AbortUploads path) bytes z s = AbortedSome path z s
MayStandAt (CleanMarkers path) bytes z s = AlwaysIn path.bucket (IsCleaning path.key) z s
MayStandAt (FillMarkers path) bytes z s = AlwaysIn path.bucket (IsFilling path.key) z s
MayStandAt _ bytes z s = s ≡ z
