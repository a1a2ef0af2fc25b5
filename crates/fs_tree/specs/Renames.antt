-- What a rename answers and leaves, where z are the objects of its bucket. Refusals are in the order of the checks, and each changes
-- nothing (Hadoop FileSystem specification: rename).
use Rattle.fs_tree.specs.Changes.{IsMarkedAbove, parent}
use Rattle.fs_tree.specs.Moves.{AllFit, IsAtOrBelow, IsDirMoved, IsFileMoved, IsFirstTooLong, IsFreePlace, MayMove, MovesDir, MovesFile}
use Rattle.fs_tree.specs.Moves.{inside}
use Rattle.fs_tree.specs.Tree.{HasFile, IsAbsent, IsDirectory}
use Rattle.fs_tree.specs.declared.rename.RenameRefusal.{RenameRefusal}
use Rattle.fs_tree.specs.declared.rename.RenameRefusal.TheVariants.{ParentIsFile, ParentMissing, SourceMissing, SourceRoot, TargetExists}
use Rattle.fs_tree.specs.declared.rename.RenameRefusal.TheVariants.{TargetFile, TooLong, UnderSource}
use Rattle.s3_types.specs.Store.{Objects}
use Rattle.std.specs.Prelude.{Err, List, Ok, Result, ℕ, [], ◌∷◌, ◌≡◌, ◌⊎◌}

-- A file moves to q. If its old directory is left empty, that directory gets its marker.
pub record RenamesFile (p q : List ℕ) (z m : Objects) : Type 0 where
  pub file : HasFile z p
  pub tree : MovesFile p q z m
  pub moved : Objects
  pub placed : IsFileMoved p q z moved
  pub marked : IsMarkedAbove p moved m

-- A directory moves to q with everything below it. If the directory above its old place is left empty, that one gets its marker.
pub record RenamesDir (p q : List ℕ) (z m : Objects) : Type 0 where
  pub directory : IsDirectory z p
  pub tree : MovesDir p q z m
  pub moved : Objects
  pub placed : IsDirMoved p q z moved
  pub marked : IsMarkedAbove p moved m

-- Renames a path that is not the root.
abbrev pub RenamesPath : List ℕ → List ℕ → Objects → Result (Unit {0}) RenameRefusal → Objects → Type 0
RenamesPath p t z (Ok x) m = (q : List ℕ) × IsFreePlace z p t q × AllFit z p q × (RenamesFile p q z m ⊎ RenamesDir p q z m)
RenamesPath p t z (Err SourceMissing) m = IsAbsent z p × (m ≡ z)
RenamesPath p t z (Err UnderSource) m = (HasFile z p ⊎ IsDirectory z p) × IsAtOrBelow p t × (m ≡ z)
RenamesPath p t z (Err TargetFile) m = MayMove z p t × (HasFile z t ⊎ (IsDirectory z t × HasFile z (inside p t))) × (m ≡ z)
RenamesPath p t z (Err TargetExists) m = MayMove z p t × IsDirectory z t × IsDirectory z (inside p t) × (m ≡ z)
RenamesPath p t z (Err ParentIsFile) m = MayMove z p t × IsAbsent z t × HasFile z (parent t) × (m ≡ z)
RenamesPath p t z (Err ParentMissing) m = MayMove z p t × IsAbsent z t × IsAbsent z (parent t) × (m ≡ z)
RenamesPath p t z (Err (TooLong k)) m = ((q : List ℕ) × IsFreePlace z p t q × IsFirstTooLong z p q k) × (m ≡ z)
RenamesPath p t z (Err r) m = ⊥

-- rename of the source p to the target t; a root is refused with SourceRoot.
abbrev pub Renames : List ℕ → List ℕ → Objects → Result (Unit {0}) RenameRefusal → Objects → Type 0
Renames [] t z a m = (a ≡ Err SourceRoot) × (m ≡ z)
Renames (x ∷ p) t z a m = RenamesPath (x ∷ p) t z a m
