-- How file operations change the tree, and what a directory contains (Hadoop FileSystem specification: mkdirs, delete, create,
-- listStatus).
use Rattle.text_and_lists.specs.Members.{IsIn}
use Rattle.text_and_lists.specs.Order.{text_cmp}
use Rattle.text_and_lists.specs.Parts.{is_other, parts_of}
use Rattle.dir_markers.specs.Markers.{keys_above, marker_of}
use Rattle.dir_markers.specs.declared.status.Status.{Status}
use Rattle.dir_markers.specs.declared.status.Status.TheVariants.{Directory, File}
use Rattle.fs_tree.specs.Tree.{HasDir, IsStatus, NoneBelow, SomeBelow, Stands, is_marker, marker}
use Rattle.fs_tree.specs.declared.answers.DirEntry.{DirEntry}
use Rattle.path_keys.specs.Paths.{below, without_last}
use Rattle.s3_types.specs.Names.{is_element, is_key}
use Rattle.s3_types.specs.Pages.{begins}
use Rattle.s3_types.specs.Store.{Objects}
use Rattle.std.specs.List.{join_with_byte, list_all}
use Rattle.std.specs.List.Sorted.{IsStrictlySortedBy}
use Rattle.std.specs.Prelude.{List, None, Option, Some, false, map, true, ℕ, [], ◌&&◌, ◌∷◌, ◌≡◌, ◌⊎◌}
use Rattle.std.specs.FinMap as fin

-- Every file is as before, with its header.
abbrev pub SameFiles : Objects → Objects → Type 0
SameFiles z m = (k : List ℕ) → is_marker k ≡ false → fin.get m k ≡ fin.get z k

-- The path and the paths above it are directories, no other directory is new, and every file is as before.
pub record MakesDirs (p : List ℕ) (z m : Objects) : Type 0 where
  pub files : SameFiles z m
  pub kept : (q : List ℕ) → HasDir z q → HasDir m q
  pub path : HasDir m p
  pub above : (q : List ℕ) → IsIn q (keys_above p) → HasDir m q
  pub only : (q : List ℕ) → HasDir m q → HasDir z q ⊎ IsIn q (p ∷ keys_above p)

-- The file is gone, and every other file and every directory is as before.
pub record DropsFile (p : List ℕ) (z m : Objects) : Type 0 where
  pub gone : fin.get m p ≡ None
  pub files : (k : List ℕ) → is_marker k ≡ false → (k ≡ p → ⊥) → fin.get m k ≡ fin.get z k
  pub kept : (q : List ℕ) → HasDir z q → HasDir m q
  pub only : (q : List ℕ) → HasDir m q → HasDir z q

-- The directory and everything below it are gone. Every other file and directory is as before.
pub record DropsDir (p : List ℕ) (z m : Objects) : Type 0 where
  pub below : (k : List ℕ) → begins (marker_of p) k ≡ true → fin.get m k ≡ None
  pub files : (k : List ℕ) → is_marker k ≡ false → begins (marker_of p) k ≡ false → fin.get m k ≡ fin.get z k
  pub gone : (q : List ℕ) → begins (marker_of p) (marker_of q) ≡ true → HasDir m q → ⊥
  pub kept : (q : List ℕ) → begins (marker_of p) (marker_of q) ≡ false → HasDir z q → HasDir m q
  pub only : (q : List ℕ) → HasDir m q → HasDir z q

-- The path is a file with these bytes and no header, and the paths above it are directories. Everything else is as before.
pub record MakesFile (p bytes : List ℕ) (z m : Objects) : Type 0 where
  pub file : fin.get m p ≡ Some (record { bytes = bytes; header = None })
  pub files : (k : List ℕ) → is_marker k ≡ false → (k ≡ p → ⊥) → fin.get m k ≡ fin.get z k
  pub above : (q : List ℕ) → IsIn q (keys_above p) → HasDir m q
  pub kept : (q : List ℕ) → HasDir z q → HasDir m q
  pub only : (q : List ℕ) → HasDir m q → HasDir z q ⊎ IsIn q (keys_above p)

-- ---- what a directory contains

-- The name of a child: an element of a path, without a `/`.
abbrev pub IsName : List ℕ → Type 0
IsName n = is_element n && list_all (is_other 47) n ≡ true

-- The text by which a child is ordered: its name, with `/` after a directory's.
abbrev pub text_by : List ℕ → Status → List ℕ
text_by n Directory = marker_of n
text_by n (File length) = n

-- The text by which an entry is ordered.
abbrev pub text_of : DirEntry → List ℕ
text_of e = text_by e.name e.status

-- The entry comes from an object whose key is not valid: a file's own key, or one below the directory.
abbrev pub HasOddKey : Objects → List ℕ → Status → Type 0
HasOddKey z p Directory = (k : List ℕ) × (begins (marker_of p) k ≡ true) × Stands z k × (is_key k ≡ false)
HasOddKey z p (File length) = Stands z p × (is_key p ≡ false)

-- The entries of a directory: each child once, with its status, in order. An entry that is no child comes from a key that is not valid.
pub record HasEntries (p : List ℕ) (z : Objects) (es : List DirEntry) : Type 0 where
  pub child : (e : DirEntry) → IsIn e es → (IsName e.name × IsStatus z (below p e.name) e.status) ⊎ HasOddKey z (below p e.name) e.status
  pub all : (n : List ℕ) (s : Status) → IsName n → IsStatus z (below p n) s → IsIn (record { name = n; status = s }) es
  pub rises : IsStrictlySortedBy text_cmp (map text_of es)

-- If all objects have valid keys, each entry of a listing is a child.
pub record ListChildren : Type 0 where
  pub children : (p : List ℕ) (z : Objects) (es : List DirEntry) → ((k : List ℕ) → Stands z k → is_key k ≡ true) → HasEntries p z es
      → (e : DirEntry) → IsIn e es → IsName e.name × IsStatus z (below p e.name) e.status

-- The last of a path's elements.
abbrev pub last_of : List (List ℕ) → List ℕ
last_of [] = []
last_of (e ∷ []) = e
last_of (e ∷ f ∷ es) = last_of (f ∷ es)

-- The name of a path: its last element.
abbrev pub own_name : List ℕ → List ℕ
own_name p = last_of (parts_of 47 p)

-- ---- markers

-- The path above a path, empty at the root.
abbrev pub parent : List ℕ → List ℕ
parent p = join_with_byte 47 (without_last (parts_of 47 p))

-- The marker of a directory. The root has none.
abbrev pub marker_if : List ℕ → Option (List ℕ)
marker_if [] = None
marker_if (x ∷ p) = Some (marker_of (x ∷ p))

-- m is n, and if nothing is below the directory, with its marker. The root gets no marker.
abbrev pub IsMarked : Option (List ℕ) → Objects → Objects → Type 0
IsMarked None n m = m ≡ n
IsMarked (Some k) n m = (SomeBelow n k × (m ≡ n)) ⊎ (NoneBelow n k × (m ≡ fin.insert n k marker))

-- m is n, and if the directory above the path is left empty, with the marker of that directory.
abbrev pub IsMarkedAbove : List ℕ → Objects → Objects → Type 0
IsMarkedAbove p n m = IsMarked (marker_if (parent p)) n m

-- m is z without the keys that begin with q.
pub record IsWithoutBelow (q : List ℕ) (z m : Objects) : Type 0 where
  pub gone : (k : List ℕ) → begins q k ≡ true → fin.get m k ≡ None
  pub others : (k : List ℕ) → begins q k ≡ false → fin.get m k ≡ fin.get z k
