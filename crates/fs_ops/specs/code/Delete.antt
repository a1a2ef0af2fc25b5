-- The deletion of a path, by its stages.
use Rattle.bucket_ops.specs.Asks.{Ask, Drop, DropAll, Page, Put, is_look}
use Rattle.bucket_ops.specs.Looks.{look_of}
use Rattle.bucket_ops.specs.Sweeping.{IsSweeping, sweep_asks, sweep_left}
use Rattle.bucket_ops.specs.Walking.{fits}
use Rattle.bucket_ops.specs.declared.look.Look.{Look}
use Rattle.bucket_ops.specs.declared.look.Look.TheVariants.{There}
use Rattle.dir_markers.specs.Markers.{marker_of}
use Rattle.fs_ops.specs.Places.{NoFileAt, below_asks, drop_asks, drop_marker_asks, look_asks, prefix_of}
use Rattle.fs_ops.specs.declared.delete.DeleteStage.{DeleteStage}
use Rattle.fs_ops.specs.declared.delete.DeleteStage.TheVariants.{Below, DropFile, DropMarker, Here, Parent, PutMarker, Sweep}
use Rattle.fs_ops.specs.declared.delete.Inside.{Inside}
use Rattle.fs_ops.specs.declared.delete.Inside.TheVariants.{Children, Empty, MarkerAlone}
use Rattle.fs_tree.specs.Answers.{Deletes}
use Rattle.fs_tree.specs.Changes.{IsWithoutBelow, marker_if, parent}
use Rattle.fs_tree.specs.Tree.{HasFile, IsEmpty, NoneBelow, SomeBelow, Stands, marker}
use Rattle.fs_tree.specs.declared.answers.FsRefusal.{FsRefusal}
use Rattle.fs_tree.specs.declared.answers.FsRefusal.TheVariants.{IsRoot, NotEmpty, NotFound}
use Rattle.list_walk.specs.Walks.{all_go, sweep_hears, sweep_start}
use Rattle.operations.specs.declared.plan.Step.{Step}
use Rattle.operations.specs.declared.plan.Step.TheVariants.{End, Next}
use Rattle.path_keys.specs.Paths.{is_key}
use Rattle.s3_types.specs.Pages.{begins, text_in}
use Rattle.s3_types.specs.Store.{Objects}
use Rattle.s3_types.specs.declared.reply.PageEntry.{PageEntry}
use Rattle.s3_types.specs.declared.reply.Reply.{Reply}
use Rattle.s3_types.specs.declared.reply.Reply.TheVariants.{Page as APage}
use Rattle.std.specs.Prelude.{Bool, Err, List, None, Ok, Option, Result, Some, false, if◌then◌else◌, length, true, ℕ, [], ◌&&◌, ◌+◌, ◌==◌}
use Rattle.std.specs.Prelude.{◌∷◌, ◌≡◌, ◌≤◌, ◌⊎◌}
use Rattle.text_and_lists.specs.Members.{IsIn}
use Rattle.text_and_lists.specs.Order.{text_eq}
use Rattle.std.specs.FinMap as fin
use Rattle.list_walk.specs.Walks as walks

-- A path to delete, and whether all below it is to be deleted with it.
pub record Deletion : Type 0 where
  pub path : List ℕ
  pub recursive : Bool

-- The answer of a deletion.
abbrev pub DeleteAnswer : Type 0
DeleteAnswer = Result (Unit {0}) FsRefusal

-- A deletion begins with a look for a file.
abbrev pub first : Deletion → DeleteStage
first o = Here

-- The request of each stage.
abbrev pub asks : Deletion → DeleteStage → Ask
asks o Here = look_asks o.path
asks o DropFile = drop_asks o.path
asks o Below = below_asks o.path 2
asks o DropMarker = drop_marker_asks o.path
asks o (Sweep w) = sweep_asks (prefix_of o.path) w
asks o (Parent k) = Page k false [] 1
asks o (PutMarker k) = Put k []

-- The step after the deletion: the look whether anything is left below the directory above, unless that is the root.
abbrev pub up_to : Option (List ℕ) → Step DeleteStage DeleteAnswer
up_to None = End (Ok tt)
up_to (Some k) = Next (Parent k)

-- The step after the deletion of this path.
abbrev pub up : Deletion → Step DeleteStage DeleteAnswer
up o = up_to (marker_if (parent o.path))

-- The step after the look for a file, if the path is not the root.
abbrev pub here : Look → Step DeleteStage DeleteAnswer
here There = Next DropFile
here _ = Next Below

-- The step after the look for a file; the root is refused.
abbrev pub on_here : List ℕ → Look → Step DeleteStage DeleteAnswer
on_here [] l = End (Err IsRoot)
on_here (x ∷ p) l = here l

-- What the first two entries below a directory show.
abbrev pub inside : List ℕ → List PageEntry → Inside
inside q [] = Empty
inside q (e ∷ es) = if (length (e ∷ es) == 1) && text_eq (text_in e) q then MarkerAlone else Children

-- The entries of a page.
abbrev pub entries_in : Reply → List PageEntry
entries_in (APage es more) = es
entries_in _ = []

-- The step for a directory with children: a sweep if the deletion is recursive, else a refusal.
abbrev pub children : Bool → Step DeleteStage DeleteAnswer
children true = Next (Sweep sweep_start)
children false = End (Err NotEmpty)

-- The step after it is known what is below the directory.
abbrev pub on_inside : Bool → Inside → Step DeleteStage DeleteAnswer
on_inside recursive Empty = End (Err NotFound)
on_inside recursive MarkerAlone = Next DropMarker
on_inside recursive Children = children recursive

-- The step after the reply about the entries below the path.
abbrev pub on_below : Deletion → Reply → Step DeleteStage DeleteAnswer
on_below o r = on_inside o.recursive (inside (prefix_of o.path) (entries_in r))

-- The step after a page or a batch of the sweep.
abbrev pub swept : Deletion → Option walks.Sweep → Step DeleteStage DeleteAnswer
swept o (Some w) = Next (Sweep w)
swept o None = up o

-- The step after a reply to the sweep. A reply that does not fit leaves the sweep where it is.
abbrev pub on_sweep : Deletion → walks.Sweep → Reply → Bool → Step DeleteStage DeleteAnswer
on_sweep o w r true = swept o (sweep_hears all_go w r)
on_sweep o w r false = Next (Sweep w)

-- The step after the look below the directory above: its marker is put if nothing is left there.
abbrev pub on_parent : List ℕ → Look → Step DeleteStage DeleteAnswer
on_parent k There = End (Ok tt)
on_parent k _ = Next (PutMarker k)

-- The step after a reply, at each stage.
abbrev pub on : Deletion → DeleteStage → Reply → Step DeleteStage DeleteAnswer
on o Here r = on_here o.path (look_of r)
on o Below r = on_below o r
on o (Sweep w) r = on_sweep o w r (fits r)
on o (Parent k) r = on_parent k (look_of r)
on o (PutMarker k) r = End (Ok tt)
on o _ r = up o

-- ---- what holds

-- n is z without the file, or without the directory's marker and all that was below it.
abbrev pub Removed : Deletion → Objects → Objects → Type 0
Removed o z n = (HasFile z o.path × (n ≡ fin.remove z o.path))
    ⊎ (NoFileAt z o.path × SomeBelow z (prefix_of o.path) × (o.recursive ≡ false → IsEmpty z o.path)
    × IsWithoutBelow (prefix_of o.path) z n)

-- What holds at each stage.
abbrev pub holds : Deletion → Objects → DeleteStage → Objects → Type 0
holds o z Here m = m ≡ z
holds o z DropFile m = HasFile z o.path × (m ≡ z)
holds o z Below m = NoFileAt z o.path × (m ≡ z)
holds o z DropMarker m = NoFileAt z o.path × IsEmpty z o.path × (m ≡ z)
holds o z (Sweep w) m = NoFileAt z o.path × SomeBelow z (prefix_of o.path) × (o.recursive ≡ true) × IsSweeping (prefix_of o.path) z w m
holds o z (Parent k) m = (marker_if (parent o.path) ≡ Some k) × Removed o z m
holds o z (PutMarker k) m = (marker_if (parent o.path) ≡ Some k) × Removed o z m × NoneBelow m k

-- Holds if there is something that this deletion deletes.
abbrev pub IsDue : Deletion → Objects → Type 0
IsDue o z = HasFile z o.path ⊎ (NoFileAt z o.path × SomeBelow z (prefix_of o.path) × (o.recursive ≡ false → IsEmpty z o.path))

-- These keys, at most a thousand, exist below the directory, and the deletion is recursive.
pub record IsBatch (o : Deletion) (z : Objects) (ks : List (List ℕ)) : Type 0 where
  pub recursive : o.recursive ≡ true
  pub directory : NoFileAt z o.path
  pub few : length ks ≤ 1000
  pub each : (k : List ℕ) → IsIn k ks → (begins (prefix_of o.path) k ≡ true) × Stands z k

-- Holds if the request puts the marker of the directory above, and nothing was at its key.
abbrev pub PutsAbove : List ℕ → Objects → Ask → Type 0
PutsAbove p z a = (k : List ℕ) × (a ≡ Put k []) × (marker_if (parent p) ≡ Some k) × (fin.get z k ≡ None)

-- Holds if the request deletes the file, the marker of an empty directory, or keys below a directory in one batch, or puts the marker of
-- the directory above.
abbrev pub Changes : Deletion → Objects → Ask → Type 0
Changes o z a =
    (HasFile z o.path × (a ≡ Drop o.path))
    ⊎ ((NoFileAt z o.path × IsEmpty z o.path × (a ≡ Drop (marker_of o.path)))
    ⊎ (((k : List ℕ) × (ks : List (List ℕ)) × (a ≡ DropAll (k ∷ ks)) × IsBatch o z (k ∷ ks))
    ⊎ PutsAbove o.path z a))

-- Holds if the request only looks, or if there is something to delete and the request deletes it or puts the marker above.
abbrev pub Asks : Deletion → Objects → Ask → Type 0
Asks o z a = (is_look a ≡ true) ⊎ (IsDue o z × Changes o z a)

-- Holds if the deletion of a path with a valid key may send this request.
abbrev pub sends : Deletion → Objects → Ask → Type 0
sends o z a = is_key o.path ≡ true → Asks o z a

-- Holds if the key belongs to the path: the key of a file, or of a directory its marker and the keys below it.
abbrev pub GoesWith : Deletion → Objects → List ℕ → Type 0
GoesWith o z k = (HasFile z o.path × (k ≡ o.path)) ⊎ (NoFileAt z o.path × (begins (prefix_of o.path) k ≡ true))

-- Holds if the key is the marker of the directory above, which was put, and nothing was there.
abbrev pub IsPut : Deletion → Objects → Objects → List ℕ → Type 0
IsPut o z m k = (marker_if (parent o.path) ≡ Some k) × (fin.get z k ≡ None) × (fin.get m k ≡ Some marker)

-- Holds if the key is as it was, or belongs to the path and is gone, or is the marker of the directory above, put where nothing was.
abbrev pub IsKept : Deletion → Objects → Objects → List ℕ → Type 0
IsKept o z m k = (fin.get m k ≡ fin.get z k) ⊎ (((fin.get m k ≡ None) × GoesWith o z k) ⊎ IsPut o z m k)

-- Holds if nothing has changed, or if there is something to delete and each key is as `IsKept` says.
abbrev pub InPart : Deletion → Objects → Objects → Type 0
InPart o z m = (m ≡ z) ⊎ (IsDue o z × ((k : List ℕ) → IsKept o z m k))

-- Holds at every point of the deletion of a path with a valid key.
abbrev pub always : Deletion → Objects → Objects → Type 0
always o z m = is_key o.path ≡ true → InPart o z m

-- The answer and the tree that the deletion of a path with a valid key leaves; each key is then also as `always` says.
abbrev pub gives : Deletion → Objects → DeleteAnswer → Objects → Type 0
gives o z a m = (is_key o.path ≡ true → Deletes o.recursive o.path z a m) × always o z m

-- The number of requests that are still to come.
abbrev pub left : Deletion → DeleteStage → Objects → ℕ
left o Here m = sweep_left (prefix_of o.path) sweep_start m + 4
left o Below m = sweep_left (prefix_of o.path) sweep_start m + 3
left o (Sweep w) m = sweep_left (prefix_of o.path) w m + 2
left o (Parent k) m = 1
left o (PutMarker k) m = 0
left o _ m = 2
