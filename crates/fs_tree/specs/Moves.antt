-- Moving a file or a directory to another place of its bucket (Hadoop FileSystem specification: rename).
use Rattle.text_and_lists.specs.Order.{text_cmp}
use Rattle.dir_markers.specs.Markers.{marker_of}
use Rattle.fs_tree.specs.Changes.{marker_if, own_name, parent}
use Rattle.fs_tree.specs.Tree.{HasDir, HasFile, IsAbsent, IsDirectory, Stands, is_marker, marker}
use Rattle.path_keys.specs.Paths.{below}
use Rattle.s3_types.specs.Pages.{begins}
use Rattle.s3_types.specs.Store.{Objects}
use Rattle.std.specs.Ordering.{is_lt}
use Rattle.std.specs.Prelude.{Bool, List, None, Some, cond, false, length, nat_lt, true, ℕ, ◌++◌, ◌≡◌, ◌⊎◌}
use Rattle.std.specs.FinMap as fin

-- ---- the source, the target and the new place

-- t is p or below it.
abbrev pub IsAtOrBelow : List ℕ → List ℕ → Type 0
IsAtOrBelow p t = (t ≡ p) ⊎ (begins (marker_of p) t ≡ true)

-- The source p is a file or a directory, and the target t is neither p nor below it.
pub record MayMove (z : Objects) (p t : List ℕ) : Type 0 where
  pub stands : HasFile z p ⊎ IsDirectory z p
  pub apart : IsAtOrBelow p t → ⊥

-- The path inside the directory t with the name of the source.
abbrev pub inside : List ℕ → List ℕ → List ℕ
inside p t = below t (own_name p)

-- The new place q. If the target is a directory, q is inside it, with the name of the source. If nothing is at the target and the path
-- above it is a directory, q is the target.
abbrev pub IsPlace : Objects → List ℕ → List ℕ → List ℕ → Type 0
IsPlace z p t q = (IsDirectory z t × (q ≡ inside p t)) ⊎ (IsAbsent z t × IsDirectory z (parent t) × (q ≡ t))

-- The source may be moved, q is its new place, and nothing is there.
pub record IsFreePlace (z : Objects) (p t q : List ℕ) : Type 0 where
  pub source : MayMove z p t
  pub place : IsPlace z p t q
  pub free : IsAbsent z q

-- ---- keys and their new keys

-- k is a key of the source p, and l is the key that it gets at q, with the same rest.
abbrev pub IsMove : Objects → List ℕ → List ℕ → List ℕ → List ℕ → Type 0
IsMove z p q k l =
    (HasFile z p × (k ≡ p) × (l ≡ q))
    ⊎ (IsDirectory z p × Stands z k × ((rest : List ℕ) × (k ≡ marker_of p ++ rest) × (l ≡ marker_of q ++ rest)))

-- The key is longer than it may be: 1,024 bytes for a marker, and 1,023 for a file.
abbrev pub is_too_long : List ℕ → Bool
is_too_long k = nat_lt (cond (is_marker k) 1024 1023) (length k)

-- No new key is too long.
abbrev pub AllFit : Objects → List ℕ → List ℕ → Type 0
AllFit z p q = (k l : List ℕ) → IsMove z p q k l → is_too_long l ≡ false

-- k is the least key whose new key is too long.
pub record IsFirstTooLong (z : Objects) (p q k : List ℕ) : Type 0 where
  pub new : List ℕ
  pub moves : IsMove z p q k new
  pub long : is_too_long new ≡ true
  pub first : (j l : List ℕ) → IsMove z p q j l → is_lt (text_cmp j k) ≡ true → is_too_long l ≡ false

-- ---- what a rename does

-- n is z with the object of p moved to q, header included.
pub record IsFileMoved (p q : List ℕ) (z n : Objects) : Type 0 where
  pub moved : fin.get n q ≡ fin.get z p
  pub gone : fin.get n p ≡ None
  pub others : (k : List ℕ) → (k ≡ p → ⊥) → (k ≡ q → ⊥) → fin.get n k ≡ fin.get z k

-- n is z with all keys below p moved below q, headers and markers included.
pub record IsDirMoved (p q : List ℕ) (z n : Objects) : Type 0 where
  pub moved : (rest : List ℕ) → fin.get n (marker_of q ++ rest) ≡ fin.get z (marker_of p ++ rest)
  pub gone : (k : List ℕ) → begins (marker_of p) k ≡ true → fin.get n k ≡ None
  pub others : (k : List ℕ) → begins (marker_of p) k ≡ false → begins (marker_of q) k ≡ false → fin.get n k ≡ fin.get z k

-- In the tree: the file p is now q, with its header. Every other file and every directory is as before.
pub record MovesFile (p q : List ℕ) (z m : Objects) : Type 0 where
  pub moved : fin.get m q ≡ fin.get z p
  pub gone : fin.get m p ≡ None
  pub files : (k : List ℕ) → is_marker k ≡ false → (k ≡ p → ⊥) → (k ≡ q → ⊥) → fin.get m k ≡ fin.get z k
  pub kept : (d : List ℕ) → HasDir z d → HasDir m d
  pub only : (d : List ℕ) → HasDir m d → HasDir z d

-- In the tree: everything at p and below it is now at q, with the same rest. Everything else is as before.
pub record MovesDir (p q : List ℕ) (z m : Objects) : Type 0 where
  pub moved : (rest : List ℕ) → fin.get m (marker_of q ++ rest) ≡ fin.get z (marker_of p ++ rest)
  pub directory : HasDir m q
  pub moved_dirs : (rest : List ℕ) → HasDir z (marker_of p ++ rest) → HasDir m (marker_of q ++ rest)
  pub only_moved : (rest : List ℕ) → HasDir m (marker_of q ++ rest) → HasDir z (marker_of p ++ rest)
  pub gone : (k : List ℕ) → begins (marker_of p) k ≡ true → fin.get m k ≡ None
  pub gone_dirs : (d : List ℕ) → IsAtOrBelow p d → HasDir m d → ⊥
  pub files : (k : List ℕ) → is_marker k ≡ false → begins (marker_of p) k ≡ false → begins (marker_of q) k ≡ false
      → fin.get m k ≡ fin.get z k
  pub kept : (d : List ℕ) → (IsAtOrBelow p d → ⊥) → HasDir z d → HasDir m d
  pub only : (d : List ℕ) → (IsAtOrBelow q d → ⊥) → HasDir m d → HasDir z d

-- ---- during a rename

-- k is neither an old key nor a new one.
abbrev pub IsElsewhere : Objects → List ℕ → List ℕ → List ℕ → Type 0
IsElsewhere z p q k = ((l : List ℕ) → IsMove z p q k l → ⊥) × ((j : List ℕ) → IsMove z p q j k → ⊥)

-- The objects at some point of a rename. Each object of the source is whole at its old or its new key, and nothing else is at the new
-- keys. The copies come in the order of their keys, and no old key goes before all copies are there. Every file elsewhere is as before,
-- with its header. So is every marker elsewhere; only that of the directory above the source may be new.
pub record IsWhole (p q : List ℕ) (z m : Objects) : Type 0 where
  -- If a key of the source is gone, its object is at the new key.
  pub moved : (k l : List ℕ) → IsMove z p q k l → (fin.get m k ≡ fin.get z k) ⊎ ((fin.get m k ≡ None) × (fin.get m l ≡ fin.get z k))
  -- A new key is absent, or has the object of its source.
  pub new : (k l : List ℕ) → IsMove z p q k l → (fin.get m l ≡ None) ⊎ (fin.get m l ≡ fin.get z k)
  -- The copies come in the order of their keys.
  pub in_order : (k l j i : List ℕ) → IsMove z p q k l → IsMove z p q j i → is_lt (text_cmp j k) ≡ true → fin.get m l ≡ fin.get z k
      → fin.get m i ≡ fin.get z j
  -- No key goes before all are copied.
  pub all_first : (k l j i : List ℕ) → IsMove z p q k l → IsMove z p q j i → fin.get m k ≡ None → fin.get m i ≡ fin.get z j
  pub files : (k : List ℕ) → is_marker k ≡ false → IsElsewhere z p q k → fin.get m k ≡ fin.get z k
  pub markers : (k : List ℕ) → IsElsewhere z p q k
      → (fin.get m k ≡ fin.get z k) ⊎ ((marker_if (parent p) ≡ Some k) × (fin.get z k ≡ None) × (fin.get m k ≡ Some marker))

-- What may be there at any point of a rename: nothing has changed, or the source is on its way to its new place.
abbrev pub MayStand : List ℕ → List ℕ → Objects → Objects → Type 0
MayStand p t z m = (m ≡ z) ⊎ ((q : List ℕ) × IsFreePlace z p t q × IsWhole p q z m)
