-- The rename of a file or a directory, by its stages.
use Rattle.bucket_ops.specs.Asks.{Ask, Page, Put}
use Rattle.bucket_ops.specs.Sweeping.{sweep_asks}
use Rattle.bucket_ops.specs.Walking.{walk_asks}
use Rattle.dir_markers.specs.Markers.{marker_of}
use Rattle.fs_ops.specs.Places.{below_asks, key_if, look_asks, prefix_of}
use Rattle.fs_rename.specs.Copies.{copy_asks}
use Rattle.fs_rename.specs.Keys.{fitting, place_of}
use Rattle.fs_rename.specs.declared.stages.Kind.{Kind}
use Rattle.fs_rename.specs.declared.stages.Kind.TheVariants.{Directory, File, Nothing}
use Rattle.fs_rename.specs.declared.stages.RenameStage.{RenameStage}
use Rattle.fs_rename.specs.declared.stages.RenameStage.TheVariants.{Batch, Copy, Look as Looking, Parent, PutMarker, Walk}
use Rattle.fs_rename.specs.declared.stages.Spot.{Spot}
use Rattle.fs_rename.specs.declared.stages.Spot.TheVariants.{Above, Inside, Source, Target}
use Rattle.fs_tree.specs.Changes.{parent}
use Rattle.fs_tree.specs.Moves.{inside}
use Rattle.fs_tree.specs.declared.rename.RenameRefusal.{RenameRefusal}
use Rattle.fs_tree.specs.declared.rename.RenameRefusal.TheVariants.{ParentIsFile, ParentMissing, SourceMissing, SourceRoot, TargetExists}
use Rattle.fs_tree.specs.declared.rename.RenameRefusal.TheVariants.{TargetFile, TooLong, UnderSource}
use Rattle.operations.specs.declared.plan.Step.{Step}
use Rattle.operations.specs.declared.plan.Step.TheVariants.{End, Next}
use Rattle.s3_types.specs.Pages.{begins}
use Rattle.std.specs.Prelude.{Bool, Err, List, None, Option, Result, Some, false, true, ℕ, [], ◌∷◌}

-- The paths of a source and a target.
pub record Renaming : Type 0 where
  pub source : List ℕ
  pub target : List ℕ

-- The answer of a rename.
abbrev pub Answer : Type 0
Answer = Result (Unit {0}) RenameRefusal

-- The path inside the target as a new place; the root cannot be moved.
abbrev pub inside_of : List ℕ → List ℕ → Option (List ℕ)
inside_of [] t = None
inside_of (x ∷ p) t = key_if (inside (x ∷ p) t)

-- The new place inside the target (true), or at it.
abbrev pub place_by : List ℕ → List ℕ → Bool → Option (List ℕ)
place_by p t true = inside_of p t
place_by p t false = place_of p t

-- The new place of a rename, inside the target (true) or at it.
abbrev pub place_at : Renaming → Bool → Option (List ℕ)
place_at o i = place_by o.source o.target i

-- ---- looks

-- The request that looks for a file at a path, or for anything below it (true).
abbrev pub asks_at : List ℕ → Bool → Ask
asks_at p true = below_asks p 1
asks_at p false = look_asks p

-- The same for a path that may be over the limit of keys: the request lists the first key that begins with it.
abbrev pub inside_asks : List ℕ → Bool → Ask
inside_asks q true = Page (marker_of q) false [] 1
inside_asks q false = Page q false [] 1

-- The look at the place inside the target, if there is such a place.
abbrev pub inside_asks_if : Renaming → Option (List ℕ) → Bool → Ask
inside_asks_if o (Some q) b = inside_asks q b
inside_asks_if o None b = asks_at o.source b

-- The look at each of the paths.
abbrev pub look_at_asks : Renaming → Spot → Bool → Ask
look_at_asks o Source b = asks_at o.source b
look_at_asks o Target b = asks_at o.target b
look_at_asks o Above b = asks_at (parent o.target) b
look_at_asks o Inside b = inside_asks_if o (place_at o true) b

-- True if the path is a bucket's root.
abbrev pub is_root : List ℕ → Bool
is_root [] = true
is_root (x ∷ p) = false

-- ---- the steps after looks

-- The step that copies the file's own key. The source is missing without a key, and the key is too long without a new one.
abbrev pub one_copy : Option (List ℕ) → Option (List ℕ) → Step RenameStage Answer
one_copy None l = End (Err SourceMissing)
one_copy (Some k) None = End (Err (TooLong k))
one_copy (Some k) (Some l) = Next (Copy (record { keys = k ∷ []; places = l ∷ []; from = 0 }))

-- The step that copies a file to its new place, if its key fits there.
abbrev pub file_to : Renaming → Option (List ℕ) → Step RenameStage Answer
file_to o None = End (Err SourceMissing)
file_to o (Some q) = one_copy (key_if o.source) (fitting q)

-- The step that lists the keys below a directory, or copies a file.
abbrev pub go : Renaming → Bool → Bool → Step RenameStage Answer
go o true i = Next (Walk i [])
go o false i = file_to o (place_at o i)

-- The step that looks at the target next, unless it is below the source.
abbrev pub begun : Bool → Bool → Step RenameStage Answer
begun true d = End (Err UnderSource)
begun false d = Next (Looking Target false d)

-- The step after it is known what exists at the source.
abbrev pub on_kind : Bool → Kind → Step RenameStage Answer
on_kind under File = begun under false
on_kind under Directory = begun under true
on_kind under Nothing = End (Err SourceMissing)

-- The step after it is known what exists at the source; the root is refused.
abbrev pub on_source : Renaming → Bool → Kind → Step RenameStage Answer
on_source o true k = End (Err SourceRoot)
on_source o false k = on_kind (begins (prefix_of o.source) (prefix_of o.target)) k

-- The step after it is known what exists at the target.
abbrev pub on_target : Bool → Kind → Step RenameStage Answer
on_target d File = End (Err TargetFile)
on_target d Directory = Next (Looking Inside false d)
on_target d Nothing = Next (Looking Above false d)

-- The step after it is known what exists inside the target.
abbrev pub on_inside : Renaming → Bool → Kind → Step RenameStage Answer
on_inside o d File = End (Err TargetFile)
on_inside o d Directory = End (Err TargetExists)
on_inside o d Nothing = go o d true

-- The step after it is known what exists above the target.
abbrev pub on_above : Renaming → Bool → Kind → Step RenameStage Answer
on_above o d File = End (Err ParentIsFile)
on_above o d Directory = go o d false
on_above o d Nothing = End (Err ParentMissing)

-- The step after it is known what exists at each of the paths.
abbrev pub found : Renaming → Spot → Bool → Kind → Step RenameStage Answer
found o Source d k = on_source o (is_root o.source) k
found o Target d k = on_target d k
found o Inside d k = on_inside o d k
found o Above d k = on_above o d k

-- ---- the walk, the copies and the batches

-- ---- the stages

-- A rename begins with a look at the source.
abbrev pub first : Renaming → RenameStage
first o = Looking Source false false

-- The request of each stage.
abbrev pub asks : Renaming → RenameStage → Ask
asks o (Looking s b d) = look_at_asks o s b
asks o (Walk i found) = walk_asks (prefix_of o.source) found
asks o (Copy c) = copy_asks c
asks o (Batch w) = sweep_asks (prefix_of o.source) w
asks o (Parent k) = Page k false [] 1
asks o (PutMarker k) = Put k []
