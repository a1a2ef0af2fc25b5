-- The places where a job writes, in the store and in the cluster's file system, as data.
use Rattle.path_keys.specs.Paths.{below}
use Rattle.s3_types.specs.Names.{is_job_id}
use Rattle.s3_types.specs.Pages.{begins}
use Rattle.std.specs.List.{ends_with}
use Rattle.std.specs.Prelude.{Bool, List, codes, false, length, nat_eq, not, true, ℕ, [], ◌++◌, ◌<◌, ◌^◌, ◌∷◌, ◌≡◌, ◌≤◌}
use Rattle.magic_paths.specs.Layout as layout

-- A place in the store: a file, the marker of a file, the record of a file, a task's set, or the marker of a committed job.
pub data Place : Type 0 where
  FilePlace : (path : List ℕ) → Place
  MarkerPlace : (task attempt : ℕ) (path : List ℕ) → Place
  RecordPlace : (task attempt : ℕ) (path : List ℕ) → Place
  SetPlace : (task : ℕ) → Place
  SuccessPlace : Place

-- A place in the cluster's file system: an attempt's temporary file, or a task's set.
pub data ClusterPlace : Type 0 where
  TemporaryPlace : (task attempt : ℕ) → ClusterPlace
  StagedSetPlace : (task : ℕ) → ClusterPlace

-- The key of a job's place, at a destination.
abbrev pub key_at : List ℕ → List ℕ → Place → List ℕ
key_at dest job (FilePlace p) = below dest p
key_at dest job (MarkerPlace t a p) = below (layout.attempt_key dest job t a) p
key_at dest job (RecordPlace t a p) = below (layout.attempt_key dest job t a) (p ++ codes ".pending")
key_at dest job (SetPlace t) = layout.set_key dest job t
key_at dest job SuccessPlace = layout.success_key dest

-- The path of a job's place in the cluster.
abbrev pub path_at : List ℕ → ClusterPlace → List ℕ
path_at job (TemporaryPlace t a) = layout.temporary_path job t a
path_at job (StagedSetPlace t) = layout.staged_set_path job t

-- True if the path is not empty and does not begin with `_`.
abbrev pub is_open : List ℕ → Bool
is_open [] = false
is_open (b ∷ bs) = not (nat_eq b 95)

-- True if the path ends as a record's does, with `.pending`.
abbrev pub is_record : List ℕ → Bool
is_record path = ends_with nat_eq path (codes ".pending")

-- The bounds of a place: numbers are below 2^64, a file's path is not empty and does not begin with `_`, and no path below an attempt's
-- directory ends with `.pending`.
abbrev pub IsPlace : Place → Type 0
IsPlace (FilePlace p) = is_open p ≡ true
IsPlace (MarkerPlace t a p) = (t < 2 ^ 64) × (a < 2 ^ 64) × (is_record p ≡ false)
IsPlace (RecordPlace t a p) = (t < 2 ^ 64) × (a < 2 ^ 64) × (is_record p ≡ false)
IsPlace (SetPlace t) = t < 2 ^ 64
IsPlace SuccessPlace = Unit {0}

-- The bounds of a place in the cluster.
abbrev pub IsClusterPlace : ClusterPlace → Type 0
IsClusterPlace (TemporaryPlace t a) = (t < 2 ^ 64) × (a < 2 ^ 64)
IsClusterPlace (StagedSetPlace t) = t < 2 ^ 64

-- True if the place is below the job's magic directory.
abbrev pub is_magic_place : Place → Bool
is_magic_place (FilePlace p) = false
is_magic_place SuccessPlace = false
is_magic_place _ = true

-- Two keys at a destination that is not a bucket's root, or two paths in the cluster, are equal only if their places are equal, even if
-- they are of two jobs. If the place is a job's own, both are of the same job.
pub record AreApart : Type 0 where
  pub places : (dest job other : List ℕ) (p q : Place) → 1 ≤ length dest → is_job_id job ≡ true → is_job_id other ≡ true → IsPlace p
      → IsPlace q → key_at dest job p ≡ key_at dest other q → p ≡ q
  pub jobs : (dest job other : List ℕ) (p q : Place) → 1 ≤ length dest → is_job_id job ≡ true → is_job_id other ≡ true → IsPlace p
      → IsPlace q → key_at dest job p ≡ key_at dest other q → is_magic_place p ≡ true → job ≡ other
  pub cluster : (job other : List ℕ) (p q : ClusterPlace) → is_job_id job ≡ true → is_job_id other ≡ true → IsClusterPlace p
      → IsClusterPlace q → path_at job p ≡ path_at other q → (p ≡ q) × (job ≡ other)
  -- The places below a job's magic directory are exactly its magic places, and none is of another job.
  pub magic : (dest job : List ℕ) (p : Place) → 1 ≤ length dest → IsPlace p
      → begins (layout.magic_prefix dest job) (key_at dest job p) ≡ is_magic_place p
  pub strange : (dest job other : List ℕ) (p : Place) → 1 ≤ length dest → is_job_id job ≡ true → is_job_id other ≡ true → IsPlace p
      → begins (layout.magic_prefix dest job) (key_at dest other p) ≡ true → job ≡ other
