-- How the objects of a bucket form a tree of files and directories (Hadoop FileSystem specification, the model of a file system; Hadoop,
-- S3A, directory markers).
use Rattle.dir_markers.specs.Markers.{marker_of}
use Rattle.dir_markers.specs.declared.status.Status.{Status}
use Rattle.dir_markers.specs.declared.status.Status.TheVariants.{Directory, File}
use Rattle.s3_types.specs.Pages.{begins}
use Rattle.s3_types.specs.Store.{Objects}
use Rattle.s3_types.specs.declared.object.Object.{Object}
use Rattle.std.specs.Prelude.{Bool, List, None, Some, false, length, true, ℕ, [], ◌==◌, ◌∷◌, ◌≡◌, ◌⊎◌}
use Rattle.std.specs.FinMap as fin

-- An object exists at k.
abbrev pub Stands : Objects → List ℕ → Type 0
Stands m k = (o : Object) × (fin.get m k ≡ Some o)

-- An object exists at some key that begins with q.
abbrev pub SomeBelow : Objects → List ℕ → Type 0
SomeBelow m q = (k : List ℕ) × (begins q k ≡ true) × (o : Object) × (fin.get m k ≡ Some o)

-- No object exists at a key that begins with q.
abbrev pub NoneBelow : Objects → List ℕ → Type 0
NoneBelow m q = (k : List ℕ) → begins q k ≡ true → fin.get m k ≡ None

-- True if the key ends in `/`, so that it is a marker's. All other keys are those of files.
abbrev pub is_marker : List ℕ → Bool
is_marker [] = false
is_marker (x ∷ []) = x == 47
is_marker (x ∷ y ∷ q) = is_marker (y ∷ q)

-- The object of a directory's marker: no bytes, and no header.
abbrev pub marker : Object
marker = record { bytes = []; header = None }

-- The path is among the directories: it is the root, it has a marker, or some key is below it.
abbrev pub HasDir : Objects → List ℕ → Type 0
HasDir m [] = Unit {0}
HasDir m (x ∷ p) = SomeBelow m (marker_of (x ∷ p))

-- ---- the status of a path: a file if there is one, else a directory, else absent; the root is a directory

-- The path is a file with this object. The root is no file.
abbrev pub IsFile : Objects → List ℕ → Object → Type 0
IsFile m [] o = ⊥
IsFile m (x ∷ p) o = fin.get m (x ∷ p) ≡ Some o

-- The path is no file.
abbrev pub NoFile : Objects → List ℕ → Type 0
NoFile m [] = Unit {0}
NoFile m (x ∷ p) = fin.get m (x ∷ p) ≡ None

-- The path is a file.
abbrev pub HasFile : Objects → List ℕ → Type 0
HasFile m p = (o : Object) × IsFile m p o

-- The path is a directory and no file.
abbrev pub IsDirectory : Objects → List ℕ → Type 0
IsDirectory m p = NoFile m p × HasDir m p

-- The path is neither a file nor a directory.
abbrev pub IsAbsent : Objects → List ℕ → Type 0
IsAbsent m [] = ⊥
IsAbsent m (x ∷ p) = (fin.get m (x ∷ p) ≡ None) × NoneBelow m (marker_of (x ∷ p))

-- The path has this status; a file has this length in bytes.
abbrev pub IsStatus : Objects → List ℕ → Status → Type 0
IsStatus m p Directory = IsDirectory m p
IsStatus m p (File n) = (o : Object) × IsFile m p o × (length o.bytes ≡ n)

-- ---- the directories above a path, from the top down

-- None of these paths is a file.
abbrev pub NoFiles : Objects → List (List ℕ) → Type 0
NoFiles m [] = Unit {0}
NoFiles m (k ∷ ks) = (fin.get m k ≡ None) × NoFiles m ks

-- a is the first of these paths that is a file.
abbrev pub IsFirstFile : Objects → List (List ℕ) → List ℕ → Type 0
IsFirstFile m [] a = ⊥
IsFirstFile m (k ∷ ks) a = ((a ≡ k) × Stands m k) ⊎ ((fin.get m k ≡ None) × IsFirstFile m ks a)

-- ---- below a directory

-- Something is below the directory beside its marker.
abbrev pub HasChildren : Objects → List ℕ → Type 0
HasChildren m p = (k : List ℕ) × (begins (marker_of p) k ≡ true) × (k ≡ marker_of p → ⊥) × (o : Object) × (fin.get m k ≡ Some o)

-- The directory has its marker, and nothing else is below it.
abbrev pub IsEmpty : Objects → List ℕ → Type 0
IsEmpty m p = Stands m (marker_of p) × ((k : List ℕ) → begins (marker_of p) k ≡ true → (k ≡ marker_of p → ⊥) → fin.get m k ≡ None)
