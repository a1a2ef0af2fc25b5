-- Definitions beside those of `Meaning` that no public contract cites.
use Rattle.bucket_ops.specs.Asks.{Ask}
use Rattle.bucket_ops.specs.Sweeping.{IsDeleting, sweep_left}
use Rattle.bucket_ops.specs.inner.Sweeping.{IsDeleted}
use Rattle.bucket_ops.specs.Walking.{IsWalking, walk_left}
use Rattle.fs_ops.specs.Places.{NoFileAt, prefix_of}
use Rattle.fs_rename.specs.inner.Copies.{IsCopying, copied_all, copies_left, moves_of, sources}
use Rattle.fs_rename.specs.code.Meaning.{Asks}
use Rattle.fs_rename.specs.code.Rename.{Answer, Renaming, place_at}
use Rattle.fs_rename.specs.declared.stages.RenameStage.{RenameStage}
use Rattle.fs_rename.specs.declared.stages.RenameStage.TheVariants.{Batch, Copy, Look as Looking, Parent, PutMarker, Walk}
use Rattle.fs_rename.specs.declared.stages.Spot.{Spot}
use Rattle.fs_rename.specs.declared.stages.Spot.TheVariants.{Above, Inside, Source, Target}
use Rattle.fs_tree.specs.Changes.{IsMarked, marker_if, parent}
use Rattle.fs_tree.specs.Moves.{AllFit, IsAtOrBelow, IsPlace, inside}
use Rattle.fs_tree.specs.Renames.{Renames}
use Rattle.fs_tree.specs.Tree.{HasDir, HasFile, IsAbsent, IsDirectory, NoneBelow}
use Rattle.list_walk.specs.Walks.{sweep_start}
use Rattle.path_keys.specs.Paths.{is_key}
use Rattle.s3_types.specs.Answer.{without}
use Rattle.s3_types.specs.Store.{Objects}
use Rattle.std.specs.Prelude.{Bool, Err, List, Ok, Some, false, length, take, true, ℕ, ◌*◌, ◌+◌, ◌≡◌, ◌⊎◌}

-- Holds if the source is a directory (d true) or a file.
abbrev pub IsSource : Bool → Objects → List ℕ → Type 0
IsSource true z p = NoFileAt z p × HasDir z p
IsSource false z p = HasFile z p

-- The source exists, and the target is neither the source nor below it.
pub record Begun (o : Renaming) (z : Objects) (d : Bool) : Type 0 where
  pub source : IsSource d z o.source
  pub apart : IsAtOrBelow o.source o.target → ⊥

-- What is known before a look at each path.
abbrev pub Before : Renaming → Objects → Spot → Bool → Type 0
Before o z Source d = Unit {0}
Before o z Target d = Begun o z d
Before o z Inside d = Begun o z d × IsDirectory z o.target
Before o z Above d = Begun o z d × IsAbsent z o.target

-- The path that is looked at.
abbrev pub path_at : Renaming → Spot → List ℕ
path_at o Source = o.source
path_at o Target = o.target
path_at o Inside = inside o.source o.target
path_at o Above = parent o.target

-- Holds if no file exists at the path, provided that this was already looked for.
abbrev pub NoFileIf : Bool → Objects → List ℕ → Type 0
NoFileIf true z p = NoFileAt z p
NoFileIf false z p = Unit {0}

-- The source may be moved to the new place q, where nothing exists.
pub record IsReady (o : Renaming) (z : Objects) (d i : Bool) (q : List ℕ) : Type 0 where
  pub begun : Begun o z d
  pub place : IsPlace z o.source o.target q
  pub free : IsAbsent z q
  pub at : place_at o i ≡ Some q

-- The source may be moved to the new place q, and no new key is over its limit.
pub record MayGo (o : Renaming) (z : Objects) (d i : Bool) (q : List ℕ) : Type 0 where
  pub ready : IsReady o z d i q
  pub fit : AllFit z o.source q

-- The objects after all keys are moved.
abbrev pub moved : Renaming → Objects → Bool → List ℕ → Objects
moved o z d q = without (copied_all z (moves_of d o.source q z)) (sources (moves_of d o.source q z))

-- Holds if every key of the source is at its new place, whichever place that is.
abbrev pub IsMoved : Renaming → Objects → Objects → Type 0
IsMoved o z n = (d : Bool) × (i : Bool) × (q : List ℕ) × MayGo o z d i q × (n ≡ moved o z d q)

-- What holds at each stage.
abbrev pub holds : Renaming → Objects → RenameStage → Objects → Type 0
holds o z (Looking s b d) m = (m ≡ z) × Before o z s d × NoFileIf b z (path_at o s)
holds o z (Walk i found) m = (m ≡ z) × ((q : List ℕ) × IsReady o z true i q) × IsWalking (prefix_of o.source) z found
holds o z (Copy c) m = (d : Bool) × (i : Bool) × (q : List ℕ) × MayGo o z d i q × IsCopying z (moves_of d o.source q z) c m
holds o z (Batch w) m = (d : Bool) × (i : Bool) × (q : List ℕ) × MayGo o z d i q
    × IsDeleted (copied_all z (moves_of d o.source q z)) (sources (moves_of d o.source q z)) (Some w) m
holds o z (Parent k) m = (marker_if (parent o.source) ≡ Some k) × IsMoved o z m
holds o z (PutMarker k) m = (marker_if (parent o.source) ≡ Some k) × IsMoved o z m × NoneBelow m k

-- After success all keys are moved, and the marker above the source is put if its directory is left empty. A refusal has its cause.
abbrev pub gives : Renaming → Objects → Answer → Objects → Type 0
gives o z (Ok x) m = (n : Objects) × IsMoved o z n × IsMarked (marker_if (parent o.source)) n m
gives o z (Err r) m = Renames o.source o.target z (Err r) m

-- Holds if some keys are copied; or all are, and some of the old ones are deleted; or all are moved, and the marker above the source is put
-- if its directory is left empty.
abbrev pub IsOnWay : Renaming → Objects → Bool → List ℕ → Objects → Type 0
IsOnWay o z d q m =
    ((n : ℕ) × (m ≡ copied_all z (take n (moves_of d o.source q z))))
    ⊎ (((left : List (List ℕ)) × IsDeleting (copied_all z (moves_of d o.source q z)) (sources (moves_of d o.source q z)) left m)
    ⊎ IsMarked (marker_if (parent o.source)) (moved o z d q) m)

-- Holds at every point: nothing has changed, or the source may be moved and is on its way.
abbrev pub always : Renaming → Objects → Objects → Type 0
always o z m = (m ≡ z) ⊎ ((d : Bool) × (i : Bool) × (q : List ℕ) × MayGo o z d i q × IsOnWay o z d q m)

-- Holds if the rename of a source with a valid key may send this request.
abbrev pub sends : Renaming → Objects → Ask → Type 0
sends o z a = is_key o.source ≡ true → Asks o z a

-- The number of looks that may still come.
abbrev pub looks_left : Spot → Bool → ℕ
looks_left Source false = 6
looks_left Source true = 5
looks_left Target false = 4
looks_left Target true = 3
looks_left s false = 2
looks_left s true = 1

-- The most requests that are still to come.
abbrev pub left : Renaming → RenameStage → Objects → ℕ
left o (Looking s b d) m = 2 * sweep_left (prefix_of o.source) sweep_start m + 4 + looks_left s b
left o (Walk i found) m = 2 * walk_left (prefix_of o.source) found m + 4
left o (Copy c) m = copies_left c + length c.keys + 4
left o (Batch w) m = sweep_left (prefix_of o.source) w m + 3
left o (Parent k) m = 1
left o (PutMarker k) m = 0
