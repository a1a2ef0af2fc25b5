-- The answer of the copy of a tree and the scene that it leaves (Hadoop FileSystem shell, cp).
use Rattle.bucket_ops.specs.Asks.{objects_at}
use Rattle.bucket_ops.specs.Phases.{AlwaysIn, SendsIn}
use Rattle.bucket_ops.specs.Walking.{all_below}
use Rattle.copy_tree.specs.code.Copy.{Answer, CopyPaths, asks, climb, first}
use Rattle.copy_tree.specs.code.Meaning.{sends}
use Rattle.fs_ops.specs.Places.{prefix_of}
use Rattle.fs_rename.specs.Between.{GivesBetween, Route, most_in}
use Rattle.fs_tree.specs.Copies.{Copies, MayStandCopied}
use Rattle.fs_tree.specs.declared.copy.CopyRefusal.TheVariants.{NoSuchBucket, OtherBucket}
use Rattle.s3_types.specs.Store.{Scene}
use Rattle.s3_types.specs.declared.request.Request.{Request}
use Rattle.std.specs.Prelude.{Err, length, ℕ, ◌*◌, ◌+◌}

-- In one bucket the copy does to its objects what `Copies` says, and nothing else changes. Between two buckets it is refused before
-- anything is sent, and nothing changes.
abbrev pub CopiesIn : Route → Scene → Answer → Scene → Type 0
CopiesIn r z a s = GivesBetween r.bucket r.to_bucket (Copies r.source r.target) (Err NoSuchBucket) (Err OtherBucket) z a s

-- The two paths of a route, without their buckets.
abbrev pub paths_of : Route → CopyPaths
paths_of r = record { source = r.source; target = r.target }

-- Holds if the copy may send this request: a look or a read, or, if the source may be copied, a copy of a key to its new key, which is
-- absent.
abbrev pub CopySends : Route → Scene → Request → Type 0
CopySends r z e = SendsIn r.bucket (asks (paths_of r) (first (paths_of r))) (sends (paths_of r)) z e

-- A bound on the requests of a copy, each counted once however often it is retried: eight, one for the target's path and for each path
-- above it, four for each key below the source, and two for each key below the target.
abbrev pub most_copies : Route → Scene → ℕ
most_copies r z = most_in (objects_at z r.bucket)
    (λ m. 8 + length (climb r.target) + 4 * length (all_below (prefix_of r.source) m) + 2 * length (all_below (prefix_of r.target) m))

-- Holds at every point: each new key that was absent is still absent or is its source's whole copy, and all else is as it was.
abbrev pub StandsCopied : Route → Scene → Scene → Type 0
StandsCopied r z s = AlwaysIn r.bucket (MayStandCopied r.source r.target) z s
