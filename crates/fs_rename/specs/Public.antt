-- The answer of a rename and the scene that it leaves (Hadoop FileSystem specification, rename).
use Rattle.bucket_ops.specs.Asks.{objects_at}
use Rattle.bucket_ops.specs.Phases.{AlwaysIn, SendsIn}
use Rattle.bucket_ops.specs.Walking.{all_below}
use Rattle.fs_ops.specs.Places.{prefix_of}
use Rattle.fs_rename.specs.Between.{GivesBetween, Route, most_in}
use Rattle.fs_rename.specs.code.Meaning.{Asks}
use Rattle.fs_rename.specs.code.Rename.{Answer, Renaming, asks, first}
use Rattle.fs_tree.specs.Moves.{MayStand}
use Rattle.fs_tree.specs.Renames.{Renames}
use Rattle.fs_tree.specs.declared.rename.RenameRefusal.TheVariants.{NoSuchBucket, OtherBucket}
use Rattle.s3_types.specs.Store.{Scene}
use Rattle.s3_types.specs.declared.request.Request.{Request}
use Rattle.std.specs.Prelude.{Err, length, ℕ, ◌*◌, ◌+◌}

-- In one bucket the rename does to its objects what `Renames` says, and nothing else changes. Between two buckets it is refused before
-- anything is sent, and nothing changes.
abbrev pub RenamesIn : Route → Scene → Answer → Scene → Type 0
RenamesIn r z a s = GivesBetween r.bucket r.to_bucket (Renames r.source r.target) (Err NoSuchBucket) (Err OtherBucket) z a s

-- The two paths of a route, without their buckets.
abbrev pub renaming_of : Route → Renaming
renaming_of r = record { source = r.source; target = r.target }

-- Holds if the rename may send this request: a look, or, if the source may be moved, a copy of one of its keys to its new key, the deletion
-- of its keys in a batch, or the put of the marker above it.
abbrev pub RenameSends : Route → Scene → Request → Type 0
RenameSends r z e = SendsIn r.bucket (asks (renaming_of r) (first (renaming_of r))) (Asks (renaming_of r)) z e

-- A bound on the requests of a rename, each counted once however often it is retried: thirteen, and four for each key below the source.
abbrev pub most_moves : Route → Scene → ℕ
most_moves r z = most_in (objects_at z r.bucket) (λ m. 13 + 4 * length (all_below (prefix_of r.source) m))

-- Holds at every point: each object of the source is whole at its old or at its new place, and all else is as it was.
abbrev pub StandsWhole : Route → Scene → Scene → Type 0
StandsWhole r z s = AlwaysIn r.bucket (MayStand r.source r.target) z s
