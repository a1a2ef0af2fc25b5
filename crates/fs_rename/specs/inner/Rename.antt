-- Definitions beside those of `Rename` that no public contract cites.
use Rattle.bucket_ops.specs.Looks.{look_of}
use Rattle.bucket_ops.specs.Walking.{fits}
use Rattle.bucket_ops.specs.declared.look.Look.{Look}
use Rattle.bucket_ops.specs.declared.look.Look.TheVariants.{Nothing as NothingThere, There}
use Rattle.dir_markers.specs.Markers.{marker_of}
use Rattle.fs_ops.specs.Places.{prefix_of}
use Rattle.fs_ops.specs.code.Delete.{entries_in}
use Rattle.fs_ops.specs.code.Steps.{unless}
use Rattle.fs_rename.specs.Copies.{copied_next, has_more}
use Rattle.fs_rename.specs.Keys.{new_keys}
use Rattle.fs_rename.specs.code.Rename.{Answer, Renaming, found, is_root, place_at}
use Rattle.fs_rename.specs.declared.copying.CopyStep.{CopyStep}
use Rattle.fs_rename.specs.declared.copying.CopyStep.TheVariants.{All, Next as NextCopy}
use Rattle.fs_rename.specs.declared.stages.Kind.{Kind}
use Rattle.fs_rename.specs.declared.stages.Kind.TheVariants.{Directory, File, Nothing}
use Rattle.fs_rename.specs.declared.stages.RenameStage.{RenameStage}
use Rattle.fs_rename.specs.declared.stages.RenameStage.TheVariants.{Batch, Copy, Look as Looking, Parent, PutMarker, Walk}
use Rattle.fs_rename.specs.declared.stages.Spot.{Spot}
use Rattle.fs_rename.specs.declared.stages.Spot.TheVariants.{Above, Inside, Source, Target}
use Rattle.fs_tree.specs.Changes.{marker_if, parent}
use Rattle.fs_tree.specs.declared.rename.RenameRefusal.TheVariants.{NoSuchBucket, SourceMissing, TooLong}
use Rattle.list_walk.specs.Walks.{More, Walked, Whole, all_go, deleting, keys_on, sweep_hears, walked_entries}
use Rattle.operations.specs.declared.plan.Step.{Step}
use Rattle.operations.specs.declared.plan.Step.TheVariants.{End, Next}
use Rattle.s3_types.specs.Pages.{text_in}
use Rattle.s3_types.specs.declared.reply.PageEntry.{PageEntry}
use Rattle.s3_types.specs.declared.reply.Reply.{Reply}
use Rattle.std.specs.Prelude.{Bool, Err, List, None, Ok, Option, Result, Some, false, if◌then◌else◌, true, ℕ, [], ◌∷◌}
use Rattle.text_and_lists.specs.Order.{text_eq}
use Rattle.list_walk.specs.Walks as walks

-- Shows whether the first entry is the path itself.
abbrev pub first_is : List ℕ → List PageEntry → Look
first_is q [] = NothingThere
first_is q (e ∷ es) = if text_eq (text_in e) q then There else NothingThere

-- What the look inside the target showed.
abbrev pub seen_inside : Option (List ℕ) → Bool → Reply → Look
seen_inside (Some q) false r = first_is q (entries_in r)
seen_inside (Some q) true r = look_of r
seen_inside None b r = NothingThere

-- What the look at each path showed.
abbrev pub seen_at : Renaming → Spot → Bool → Reply → Look
seen_at o Inside b r = seen_inside (place_at o true) b r
seen_at o _ b r = look_of r

-- True if there is no such place.
abbrev pub is_none : Option (List ℕ) → Bool
is_none None = true
is_none (Some q) = false

-- True if the path that is looked at has no key.
abbrev pub is_root_at : Renaming → Spot → Bool
is_root_at o Source = is_root o.source
is_root_at o Target = is_root o.target
is_root_at o Inside = is_none (place_at o true)
is_root_at o Above = is_root (parent o.target)

-- What exists at a path, if that is known after this look; the root is a directory.
abbrev pub kind_of : Bool → Bool → Look → Option Kind
kind_of true b l = Some Directory
kind_of false false There = Some File
kind_of false false l = None
kind_of false true There = Some Directory
kind_of false true l = Some Nothing

-- The step after a look at a path. If no file exists there, the next look is below it.
abbrev pub looked : Renaming → Spot → Bool → Option Kind → Step RenameStage Answer
looked o s d None = Next (Looking s true d)
looked o s d (Some k) = found o s d k

-- The step that copies the keys to their new keys, or refuses the first that would be too long.
abbrev pub with_places : List (List ℕ) → Result (List (List ℕ)) (List ℕ) → Step RenameStage Answer
with_places ks (Err k) = End (Err (TooLong k))
with_places [] (Ok ls) = End (Err SourceMissing)
with_places (k ∷ ks) (Ok ls) = Next (Copy (record { keys = k ∷ ks; places = ls; from = 0 }))

-- The step after the keys below the source were listed.
abbrev pub listed_to : Renaming → Option (List ℕ) → List (List ℕ) → Step RenameStage Answer
listed_to o None ks = End (Err SourceMissing)
listed_to o (Some q) ks = with_places ks (new_keys (prefix_of o.source) (marker_of q) ks)

-- The step after a page.
abbrev pub on_walked : Renaming → Bool → Walked PageEntry → Step RenameStage Answer
on_walked o i (More found) = Next (Walk i found)
on_walked o i (Whole found) = listed_to o (place_at o i) (keys_on found)

-- The step after a reply to the walk. A reply that does not fit leaves the walk where it is.
abbrev pub on_walk : Renaming → Bool → List PageEntry → Reply → Bool → Step RenameStage Answer
on_walk o i found r true = on_walked o i (walked_entries found r)
on_walk o i found r false = Next (Walk i found)

-- The step that looks whether anything is left below the directory above the source, unless that is the root.
abbrev pub up_to : Option (List ℕ) → Step RenameStage Answer
up_to None = End (Ok tt)
up_to (Some k) = Next (Parent k)

-- The step that looks at the directory above the source, unless it is the root.
abbrev pub up : Renaming → Step RenameStage Answer
up o = up_to (marker_if (parent o.source))

-- The step after a batch.
abbrev pub swept : Renaming → Option walks.Sweep → Step RenameStage Answer
swept o (Some w) = Next (Batch w)
swept o None = up o

-- The step after a copy: the next copy, or the deletion of the old keys.
abbrev pub on_copied : Renaming → CopyStep → Step RenameStage Answer
on_copied o (NextCopy c) = Next (Copy c)
on_copied o (All ks) = swept o (deleting ks)

-- The step after a reply to a batch. A reply that does not fit leaves the batches where they are.
abbrev pub on_batch : Renaming → walks.Sweep → Reply → Bool → Step RenameStage Answer
on_batch o w r true = swept o (sweep_hears all_go w r)
on_batch o w r false = Next (Batch w)

-- The step after the look below the directory above: its marker is put if nothing is left there.
abbrev pub on_parent : List ℕ → Look → Step RenameStage Answer
on_parent k There = End (Ok tt)
on_parent k l = Next (PutMarker k)

-- The step after a reply, at each stage.
abbrev pub on : Renaming → RenameStage → Reply → Step RenameStage Answer
on o (Looking s b d) r = looked o s d (kind_of (is_root_at o s) b (seen_at o s b r))
on o (Walk i found) r = on_walk o i found r (fits r)
on o (Copy c) r = on_copied o (copied_next (has_more c) c)
on o (Batch w) r = on_batch o w r (fits r)
on o (Parent k) r = on_parent k (look_of r)
on o (PutMarker k) r = End (Ok tt)

-- The step after a reply. If there is no bucket, the rename ends with NoSuchBucket.
abbrev pub goes : Renaming → RenameStage → Reply → Step RenameStage Answer
goes o x r = unless (look_of r) (End (Err NoSuchBucket)) (on o x r)
