-- What each file operation answers and leaves, where z are the objects of the bucket. Refusals are in the order of the checks, and each
-- changes nothing (Hadoop FileSystem specification: getFileStatus, open, listStatus, create, mkdirs, delete).
use Rattle.dir_markers.specs.Markers.{created, keys_above, marker_of}
use Rattle.dir_markers.specs.declared.marker.MarkerPolicy.{MarkerPolicy}
use Rattle.dir_markers.specs.declared.status.Status.{Status}
use Rattle.dir_markers.specs.declared.status.Status.TheVariants.{File}
use Rattle.fs_tree.specs.Changes.{DropsDir, DropsFile, HasEntries, IsMarkedAbove, IsWithoutBelow, MakesDirs, MakesFile, own_name}
use Rattle.fs_tree.specs.Tree.{HasChildren, HasFile, IsAbsent, IsDirectory, IsEmpty, IsFile, IsFirstFile, IsStatus, NoFiles, marker}
use Rattle.fs_tree.specs.declared.answers.DirEntry.{DirEntry}
use Rattle.fs_tree.specs.declared.answers.FsRefusal.{FsRefusal}
use Rattle.fs_tree.specs.declared.answers.FsRefusal.TheVariants.{AlreadyExists, IsDirectory as ADirectory, IsRoot, NotDirectory, NotEmpty}
use Rattle.fs_tree.specs.declared.answers.FsRefusal.TheVariants.{NotFound}
use Rattle.path_keys.specs.Paths.{Path}
use Rattle.s3_types.specs.Answer.{without}
use Rattle.s3_types.specs.Store.{Objects}
use Rattle.s3_types.specs.declared.object.Object.{Object}
use Rattle.std.specs.Prelude.{Bool, Err, List, None, Ok, Result, false, length, true, ℕ, [], ◌∷◌, ◌≡◌, ◌⊎◌}
use Rattle.std.specs.FinMap as fin

-- getFileStatus: the status of a path, or NotFound. Nothing changes.
abbrev pub Stats : List ℕ → Objects → Result Status FsRefusal → Objects → Type 0
Stats p z (Ok s) m = IsStatus z p s × (m ≡ z)
Stats p z (Err NotFound) m = IsAbsent z p × (m ≡ z)
Stats p z (Err r) m = ⊥

-- open: the bytes of a file, or why it cannot be read. Nothing changes.
abbrev pub Reads : List ℕ → Objects → Result (List ℕ) FsRefusal → Objects → Type 0
Reads p z (Ok bytes) m = ((o : Object) × IsFile z p o × (o.bytes ≡ bytes)) × (m ≡ z)
Reads p z (Err ADirectory) m = IsDirectory z p × (m ≡ z)
Reads p z (Err NotFound) m = IsAbsent z p × (m ≡ z)
Reads p z (Err r) m = ⊥

-- listStatus: the entries of a directory, or a file's own entry, or NotFound. Nothing changes.
abbrev pub Lists : List ℕ → Objects → Result (List DirEntry) FsRefusal → Objects → Type 0
Lists p z (Ok es) m = (((o : Object) × IsFile z p o × (es ≡ record { name = own_name p; status = File (length o.bytes) } ∷ []))
    ⊎ (IsDirectory z p × HasEntries p z es)) × (m ≡ z)
Lists p z (Err NotFound) m = IsAbsent z p × (m ≡ z)
Lists p z (Err r) m = ⊥

-- create: writes a file if nothing is at the path, or a file that may be replaced, and no file is above it. The markers above it that are
-- not kept are deleted.
abbrev pub Creates : Path → List ℕ → Bool → MarkerPolicy → Objects → Result (Unit {0}) FsRefusal → Objects → Type 0
Creates p bytes overwrite policy z (Ok x) m =
    ((HasFile z p.key × (overwrite ≡ true)) ⊎ IsAbsent z p.key) × NoFiles z (keys_above p.key) × MakesFile p.key bytes z m
    × (m ≡ without (fin.insert z p.key (record { bytes = bytes; header = None })) (created policy p))
Creates p bytes overwrite policy z (Err AlreadyExists) m = HasFile z p.key × (overwrite ≡ false) × (m ≡ z)
Creates p bytes overwrite policy z (Err ADirectory) m = IsDirectory z p.key × (m ≡ z)
Creates p bytes overwrite policy z (Err (NotDirectory a)) m = ((HasFile z p.key × (overwrite ≡ true)) ⊎ IsAbsent z p.key)
    × IsFirstFile z (keys_above p.key) a × (m ≡ z)
Creates p bytes overwrite policy z (Err r) m = ⊥

-- Either the directory exists, and nothing changes; or nothing is at the path and no file above it, and its marker is put.
abbrev pub PutsDir : List ℕ → Objects → Objects → Type 0
PutsDir p z m = (IsDirectory z p × (m ≡ z)) ⊎ (IsAbsent z p × NoFiles z (keys_above p) × (m ≡ fin.insert z (marker_of p) marker))

-- mkdirs: makes a directory, or says why not.
abbrev pub Makes : List ℕ → Objects → Result (Unit {0}) FsRefusal → Objects → Type 0
Makes p z (Ok x) m = MakesDirs p z m × PutsDir p z m
Makes p z (Err AlreadyExists) m = HasFile z p × (m ≡ z)
Makes p z (Err (NotDirectory a)) m = IsAbsent z p × IsFirstFile z (keys_above p) a × (m ≡ z)
Makes p z (Err r) m = ⊥

-- The file is gone. If its directory is left empty, that directory gets its marker.
pub record DeletesFile (p : List ℕ) (z m : Objects) : Type 0 where
  pub file : HasFile z p
  pub tree : DropsFile p z m
  pub marked : IsMarkedAbove p (fin.remove z p) m

-- The directory is gone with everything below it; unless `recursive` is true, it was empty. If the directory above it is left empty, that
-- one gets its marker.
pub record DeletesDir (recursive : Bool) (p : List ℕ) (z m : Objects) : Type 0 where
  pub directory : IsDirectory z p
  pub empty : recursive ≡ false → IsEmpty z p
  pub tree : DropsDir p z m
  pub without : Objects
  pub emptied : IsWithoutBelow (marker_of p) z without
  pub marked : IsMarkedAbove p without m

-- delete of a path that is not the root.
abbrev pub DeletesPath : Bool → List ℕ → Objects → Result (Unit {0}) FsRefusal → Objects → Type 0
DeletesPath recursive p z (Ok x) m = DeletesFile p z m ⊎ DeletesDir recursive p z m
DeletesPath recursive p z (Err NotFound) m = IsAbsent z p × (m ≡ z)
DeletesPath recursive p z (Err NotEmpty) m = (recursive ≡ false) × IsDirectory z p × HasChildren z p × (m ≡ z)
DeletesPath recursive p z (Err r) m = ⊥

-- delete: a root is refused with IsRoot.
abbrev pub Deletes : Bool → List ℕ → Objects → Result (Unit {0}) FsRefusal → Objects → Type 0
Deletes recursive [] z a m = (a ≡ Err IsRoot) × (m ≡ z)
Deletes recursive (x ∷ p) z a m = DeletesPath recursive (x ∷ p) z a m
