-- What each conflict mode checks, deletes and keeps (Hadoop, S3A committers: fs.s3a.committer.staging.conflict-mode).
use Rattle.job_model.specs.JobScript.{Script}
use Rattle.job_model.specs.declared.displaced.Displaced.{Displaced}
use Rattle.job_model.specs.declared.displaced.Displaced.TheVariants.{Everything, Nothing, Partitions}
use Rattle.job_protocol.specs.Outputs.{Picks, ordered, wanted_paths}
use Rattle.path_keys.specs.Paths.{Path, below}
use Rattle.s3_types.specs.Pages.{begins}
use Rattle.s3_types.specs.declared.request.Committer.{Committer}
use Rattle.s3_types.specs.declared.request.Committer.TheVariants.{Directory, Partitioned}
use Rattle.s3_types.specs.declared.request.Mode.{Mode}
use Rattle.s3_types.specs.declared.request.Mode.TheVariants.{Fail, Replace}
use Rattle.std.specs.List.{list_any}
use Rattle.std.specs.Prelude.{Bool, List, None, Option, Some, codes, cond, false, map, nat_eq, not, true, ℕ, [], ◌++◌, ◌∷◌}

-- The directory of the path x ∷ p, where the directory of p is given.
abbrev pub dir_from : ℕ → List ℕ → Option (List ℕ) → Option (List ℕ)
dir_from x p (Some d) = Some (x ∷ d)
dir_from x p None = cond (nat_eq x 47) (Some []) None

-- The directory that a path is in: the text before its last `/`, or none.
abbrev pub dir_of : List ℕ → Option (List ℕ)
dir_of [] = None
dir_of (x ∷ p) = dir_from x p (dir_of p)

-- The directories with one more, if there is one.
abbrev pub with_dir : Option (List ℕ) → List (List ℕ) → List (List ℕ)
with_dir (Some d) ds = d ∷ ds
with_dir None ds = ds

-- The directories that these paths are in.
abbrev pub dirs_of : List (List ℕ) → List (List ℕ)
dirs_of [] = []
dirs_of (p ∷ ps) = with_dir (dir_of p) (dirs_of ps)

-- The parent directories of the paths, each once, in the order of their bytes; a path without a `/` has none.
abbrev pub partitions : List (List ℕ) → List (List ℕ)
partitions paths = ordered (dirs_of paths)

-- True if the path is below one of these directories.
abbrev pub is_below_any : List (List ℕ) → List ℕ → Bool
is_below_any dirs p = list_any (λ d. begins (d ++ 47 ∷ []) p) dirs

-- What a job deletes at the destination, by its committer and mode.
abbrev pub displaced : Committer → Mode → Displaced
displaced Directory Replace = Everything
displaced Partitioned Replace = Partitions
displaced _ _ = Nothing

-- True if a path from before the job is kept, where this is deleted and the job writes these partitions.
abbrev pub stays : Displaced → List (List ℕ) → List ℕ → Bool
stays Nothing dirs p = true
stays Everything dirs p = false
stays Partitions dirs p = not (is_below_any dirs p)

-- True if a path from before the job is kept, where the job writes these partitions.
abbrev pub keeps : Committer → Mode → List (List ℕ) → List ℕ → Bool
keeps c m dirs p = stays (displaced c m) dirs p

-- The prefix of the keys below a partition.
abbrev pub prefix_below : Path → List ℕ → List ℕ
prefix_below dest d = below dest.key (d ++ codes "/")

-- The prefixes below which this is deleted, where the job writes these partitions.
abbrev pub emptied : Displaced → Path → List (List ℕ) → List (List ℕ)
emptied Nothing dest dirs = []
emptied Everything dest dirs = (dest.key ++ codes "/") ∷ []
emptied Partitions dest dirs = map (prefix_below dest) dirs

-- True if a path from before the job is kept, where the job publishes these chosen attempts.
abbrev pub keeps_of : Script → Picks → List ℕ → Bool
keeps_of w picks p = keeps w.committer w.mode (partitions (wanted_paths w picks)) p

-- True if the set-up looks for files at the destination.
abbrev pub checks_all : Committer → Mode → Bool
checks_all Directory Fail = true
checks_all _ _ = false

-- True if a task's commit looks for files in the partitions that it writes.
abbrev pub checks_partitions : Committer → Mode → Bool
checks_partitions Partitioned Fail = true
checks_partitions _ _ = false
