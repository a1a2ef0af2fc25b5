-- Copies everything below a directory to another place of its bucket. A copy that was stopped can be started again (Hadoop FileSystem
-- shell: cp).
use Rattle.text_and_lists.specs.Order.{text_cmp}
use Rattle.dir_markers.specs.Markers.{keys_above}
use Rattle.fs_tree.specs.MarkerTool.{AreAll}
use Rattle.fs_tree.specs.Moves.{AllFit, IsFirstTooLong, IsMove}
use Rattle.fs_tree.specs.Tree.{HasFile, IsAbsent, IsDirectory, IsFirstFile, NoFiles, Stands}
use Rattle.fs_tree.specs.declared.copy.CopyCount.{CopyCount}
use Rattle.fs_tree.specs.declared.copy.CopyRefusal.{CopyRefusal}
use Rattle.fs_tree.specs.declared.copy.CopyRefusal.TheVariants.{Differs, Overlap, SourceIsFile, SourceMissing, TargetFile, TooLong}
use Rattle.path_keys.specs.Paths.{below}
use Rattle.s3_types.specs.Pages.{begins}
use Rattle.s3_types.specs.Store.{Objects}
use Rattle.std.specs.Ordering.{is_lt}
use Rattle.std.specs.Prelude.{Err, List, None, Ok, Result, length, true, ℕ, [], ◌++◌, ◌∷◌, ◌≡◌, ◌⊎◌}
use Rattle.std.specs.FinMap as fin

-- One path is the other, or below it. Every path is below the root.
abbrev pub IsOverlap : List ℕ → List ℕ → Type 0
IsOverlap p t = (begins (below p []) (below t []) ≡ true) ⊎ (begins (below t []) (below p []) ≡ true)

-- The paths above the target, from the top down without the root, and then the target.
abbrev pub to_target : List ℕ → List (List ℕ)
to_target t = keys_above t ++ t ∷ []

-- The source is a directory, and neither path is the other or below it.
pub record HasSource (z : Objects) (p t : List ℕ) : Type 0 where
  pub apart : IsOverlap p t → ⊥
  pub directory : IsDirectory z p

-- The source is as `HasSource` says, and no file is at the target or above it.
pub record HasPlace (z : Objects) (p t : List ℕ) : Type 0 where
  pub source : HasSource z p t
  pub free : NoFiles z (to_target t)

-- The new key l has an object that differs from that of its source k, in its bytes or its header.
abbrev pub IsOther : Objects → List ℕ → List ℕ → Type 0
IsOther z k l = Stands z l × (fin.get z l ≡ fin.get z k → ⊥)

-- Each new key is absent, or has the object of its source.
abbrev pub AllAgree : Objects → List ℕ → List ℕ → Type 0
AllAgree z p t = (k l : List ℕ) → IsMove z p t k l → (fin.get z l ≡ None) ⊎ (fin.get z l ≡ fin.get z k)

-- l is the least new key with an object that differs from that of its source.
pub record IsFirstOther (z : Objects) (p t l : List ℕ) : Type 0 where
  pub key : List ℕ
  pub moves : IsMove z p t key l
  pub other : IsOther z key l
  pub first : (j i : List ℕ) → IsMove z p t j i → is_lt (text_cmp i l) ≡ true → (fin.get z i ≡ None) ⊎ (fin.get z i ≡ fin.get z j)

-- The source may be copied to the target.
pub record MayCopy (z : Objects) (p t : List ℕ) : Type 0 where
  pub place : HasPlace z p t
  pub fit : AllFit z p t
  pub agree : AllAgree z p t

-- Each key of the source has its copy, and every other key is as before. `copied` counts the copies that were absent before, `skipped`
-- those that existed.
pub record CopiesTree (p t : List ℕ) (z : Objects) (count : CopyCount) (m : Objects) : Type 0 where
  pub absent : List (List ℕ)
  pub stood : List (List ℕ)
  pub all_absent : AreAll (λ l. (k : List ℕ) × IsMove z p t k l × (fin.get z l ≡ None)) absent
  pub all_stood : AreAll (λ l. (k : List ℕ) × IsMove z p t k l × Stands z l) stood
  pub copied : count.copied ≡ length absent
  pub skipped : count.skipped ≡ length stood
  pub copies : (k l : List ℕ) → IsMove z p t k l → fin.get m l ≡ fin.get z k
  pub others : (q : List ℕ) → ((k : List ℕ) → IsMove z p t k q → ⊥) → fin.get m q ≡ fin.get z q

-- What a copy within one existing bucket answers and leaves. Refusals are in the order of the checks, and each changes nothing.
abbrev pub Copies : List ℕ → List ℕ → Objects → Result CopyCount CopyRefusal → Objects → Type 0
Copies p t z (Ok count) m = MayCopy z p t × CopiesTree p t z count m
Copies p t z (Err Overlap) m = IsOverlap p t × (m ≡ z)
Copies p t z (Err SourceIsFile) m = (IsOverlap p t → ⊥) × HasFile z p × (m ≡ z)
Copies p t z (Err SourceMissing) m = (IsOverlap p t → ⊥) × IsAbsent z p × (m ≡ z)
Copies p t z (Err (TargetFile a)) m = HasSource z p t × IsFirstFile z (to_target t) a × (m ≡ z)
Copies p t z (Err (TooLong k)) m = HasPlace z p t × IsFirstTooLong z p t k × (m ≡ z)
Copies p t z (Err (Differs l)) m = HasPlace z p t × AllFit z p t × IsFirstOther z p t l × (m ≡ z)
Copies p t z (Err r) m = ⊥

-- The objects at some point of the copy. Each new key that was absent is still absent, or has the whole object of its source. The new keys
-- come in order. Every other key is as before.
pub record IsCopiedInPart (p t : List ℕ) (z m : Objects) : Type 0 where
  -- A new key that was absent is still absent, or has the object of its source.
  pub new : (k l : List ℕ) → IsMove z p t k l → fin.get z l ≡ None → (fin.get m l ≡ None) ⊎ (fin.get m l ≡ fin.get z k)
  -- The copies come in the order of their keys.
  pub in_order : (k l j i : List ℕ) → IsMove z p t k l → IsMove z p t j i → fin.get z l ≡ None → is_lt (text_cmp j k) ≡ true
      → fin.get m l ≡ fin.get z k → fin.get m i ≡ fin.get z j
  -- Each object of before stays.
  pub old : (q : List ℕ) → Stands z q → fin.get m q ≡ fin.get z q
  pub others : (q : List ℕ) → ((k : List ℕ) → IsMove z p t k q → ⊥) → fin.get m q ≡ fin.get z q

-- What may be there at any point of a copy: nothing has changed, or the first of the absent new keys are there, each whole.
abbrev pub MayStandCopied : List ℕ → List ℕ → Objects → Objects → Type 0
MayStandCopied p t z m = (m ≡ z) ⊎ (MayCopy z p t × IsCopiedInPart p t z m)

-- After a stop at any point, a second copy is not refused, and ends with the same objects as a copy that was never stopped.
pub record CopiesResume : Type 0 where
  -- The second copy is not refused.
  pub again : (p t : List ℕ) (z m : Objects) → MayCopy z p t → IsCopiedInPart p t z m → MayCopy m p t
  -- It ends with the same objects.
  pub same : (p t : List ℕ) (z m n o : Objects) (c d : CopyCount) → MayCopy z p t → IsCopiedInPart p t z m → CopiesTree p t m c n
      → CopiesTree p t z d o
      → (q : List ℕ) → fin.get n q ≡ fin.get o q
