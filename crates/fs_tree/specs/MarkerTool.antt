-- What the marker tool reports about the markers below a path, and which it removes or puts (Hadoop, S3A: directory markers, the marker
-- tool).
use Rattle.text_and_lists.specs.Members.{IsIn}
use Rattle.text_and_lists.specs.Order.{text_cmp}
use Rattle.fs_tree.specs.Changes.{SameFiles}
use Rattle.fs_tree.specs.Tree.{HasDir, HasFile, IsAbsent, IsDirectory, SomeBelow, Stands, is_marker, marker}
use Rattle.fs_tree.specs.declared.answers.FsRefusal.{FsRefusal}
use Rattle.fs_tree.specs.declared.answers.FsRefusal.TheVariants.{NotDirectory, NotFound}
use Rattle.fs_tree.specs.declared.markers.MarkerEntry.{MarkerEntry}
use Rattle.fs_tree.specs.declared.markers.MarkerKind.{MarkerKind}
use Rattle.fs_tree.specs.declared.markers.MarkerKind.TheVariants.{Leaf, Odd, Surplus}
use Rattle.path_keys.specs.Paths.{below}
use Rattle.s3_types.specs.Pages.{begins}
use Rattle.s3_types.specs.Store.{Objects}
use Rattle.s3_types.specs.declared.object.Object.{Object}
use Rattle.std.specs.List.Sorted.{IsStrictlySortedBy}
use Rattle.std.specs.Prelude.{Err, List, None, Ok, Result, Some, length, map, true, ℕ, [], ◌<◌, ◌≡◌, ◌⊎◌}
use Rattle.std.specs.FinMap as fin

-- Both have the same files, with their headers, and the same directories.
pub record SameTree (z m : Objects) : Type 0 where
  pub files : SameFiles z m
  pub kept : (q : List ℕ) → HasDir z q → HasDir m q
  pub only : (q : List ℕ) → HasDir m q → HasDir z q

-- The key k is that of a marker, of the directory at p or one below it; at the root, of any directory.
abbrev pub IsMarkerBelow : List ℕ → List ℕ → Type 0
IsMarkerBelow p k = (begins (below p []) k ≡ true) × (is_marker k ≡ true)

-- The object at k exists and has no bytes.
abbrev pub IsBare : Objects → List ℕ → Type 0
IsBare z k = (o : Object) × (fin.get z k ≡ Some o) × (length o.bytes ≡ 0)

-- The object at k exists and has bytes.
abbrev pub HasBytes : Objects → List ℕ → Type 0
HasBytes z k = (o : Object) × (fin.get z k ≡ Some o) × (0 < length o.bytes)

-- Another existing key begins with k.
abbrev pub HasMore : Objects → List ℕ → Type 0
HasMore z k = (j : List ℕ) × (begins k j ≡ true) × (j ≡ k → ⊥) × Stands z j

-- The kind of the marker at k. Odd: it has bytes. Surplus: it has none, and another key begins with it. Leaf: it has none, and no other
-- key begins with it.
abbrev pub IsKind : Objects → List ℕ → MarkerKind → Type 0
IsKind z k Odd = HasBytes z k
IsKind z k Surplus = IsBare z k × HasMore z k
IsKind z k Leaf = IsBare z k × (HasMore z k → ⊥)

-- A surplus marker below the path: it has no bytes, and its directory exists without it, since another key begins with it.
abbrev pub IsSurplus : List ℕ → Objects → List ℕ → Type 0
IsSurplus p z k = IsMarkerBelow p k × IsKind z k Surplus

-- A missing marker below the path: there is no object at its key, but some key begins with it.
abbrev pub IsMissing : List ℕ → Objects → List ℕ → Type 0
IsMissing p z k = IsMarkerBelow p k × (fin.get z k ≡ None) × SomeBelow z k

-- The list has exactly the keys with P, each once, in order.
pub record AreAll (P : List ℕ → Type 0) (ks : List (List ℕ)) : Type 0 where
  pub each : (k : List ℕ) → IsIn k ks → P k
  pub all : (k : List ℕ) → P k → IsIn k ks
  pub rises : IsStrictlySortedBy text_cmp ks

-- ---- answers and what is left

-- Why the path is not a directory: it is a file, or nothing is there.
abbrev pub IsNoDirectory : List ℕ → Objects → FsRefusal → Type 0
IsNoDirectory p z (NotDirectory a) = HasFile z p × (a ≡ p)
IsNoDirectory p z NotFound = IsAbsent z p
IsNoDirectory p z r = ⊥

-- The list has all markers below the path with their kinds, in the order of their keys.
pub record HasMarkers (p : List ℕ) (z : Objects) (ms : List MarkerEntry) : Type 0 where
  pub each : (x : MarkerEntry) → IsIn x ms → IsMarkerBelow p x.key × IsKind z x.key x.kind
  pub all : (k : List ℕ) (kind : MarkerKind) → IsMarkerBelow p k → IsKind z k kind → IsIn (record { key = k; kind = kind }) ms
  pub rises : IsStrictlySortedBy text_cmp (map (λ x. x.key) ms)

-- audit: the markers below a directory. Nothing changes.
abbrev pub Audits : List ℕ → Objects → Result (List MarkerEntry) FsRefusal → Objects → Type 0
Audits p z (Ok ms) m = IsDirectory z p × HasMarkers p z ms × (m ≡ z)
Audits p z (Err r) m = IsNoDirectory p z r × (m ≡ z)

-- All n surplus markers below the path are gone, and every other key is as before. Files and directories are the same.
pub record CleansMarkers (p : List ℕ) (z : Objects) (n : ℕ) (m : Objects) : Type 0 where
  pub surplus : List (List ℕ)
  pub all : AreAll (IsSurplus p z) surplus
  pub number : n ≡ length surplus
  pub gone : (k : List ℕ) → IsIn k surplus → fin.get m k ≡ None
  pub others : (k : List ℕ) → (IsIn k surplus → ⊥) → fin.get m k ≡ fin.get z k
  pub none : (k : List ℕ) → IsSurplus p m k → ⊥
  pub tree : SameTree z m

-- clean: removes all surplus markers below a directory and answers how many they were, or says why not.
abbrev pub Cleans : List ℕ → Objects → Result ℕ FsRefusal → Objects → Type 0
Cleans p z (Ok n) m = IsDirectory z p × CleansMarkers p z n m
Cleans p z (Err r) m = IsNoDirectory p z r × (m ≡ z)

-- All n missing markers below the path are put, and every other key is as before. Files and directories are the same.
pub record FillsMarkers (p : List ℕ) (z : Objects) (n : ℕ) (m : Objects) : Type 0 where
  pub missing : List (List ℕ)
  pub all : AreAll (IsMissing p z) missing
  pub number : n ≡ length missing
  pub put : (k : List ℕ) → IsIn k missing → fin.get m k ≡ Some marker
  pub others : (k : List ℕ) → (IsIn k missing → ⊥) → fin.get m k ≡ fin.get z k
  pub none : (k : List ℕ) → IsMissing p m k → ⊥
  pub tree : SameTree z m

-- fill: puts all missing markers below a directory and answers how many they were, or says why not.
abbrev pub Fills : List ℕ → Objects → Result ℕ FsRefusal → Objects → Type 0
Fills p z (Ok n) m = IsDirectory z p × FillsMarkers p z n m
Fills p z (Err r) m = IsNoDirectory p z r × (m ≡ z)

-- ---- at any point

-- At any point of a clean: only surplus markers below a directory are gone. Files and directories are the same.
pub record IsCleaning (p : List ℕ) (z m : Objects) : Type 0 where
  pub tree : SameTree z m
  pub kept : (k : List ℕ) → (fin.get m k ≡ fin.get z k) ⊎ ((fin.get m k ≡ None) × IsDirectory z p × IsSurplus p z k)

-- At any point of a fill: only missing markers below a directory are put. Files and directories are the same.
pub record IsFilling (p : List ℕ) (z m : Objects) : Type 0 where
  pub tree : SameTree z m
  pub kept : (k : List ℕ) → (fin.get m k ≡ fin.get z k) ⊎ ((fin.get m k ≡ Some marker) × IsDirectory z p × IsMissing p z k)
