-- The files that the chosen attempts of a job write below its destination.
use Rattle.text_and_lists.specs.Order.{text_cmp, text_eq}
use Rattle.job_model.specs.Attempts.{Who}
use Rattle.job_model.specs.Files.{File, has_path}
use Rattle.job_model.specs.JobScript.{Script}
use Rattle.job_model.specs.Placed.{files_of}
use Rattle.job_model.specs.declared.ends.CommitEnd.{CommitEnd}
use Rattle.job_model.specs.declared.ends.CommitEnd.TheVariants.{SamePath}
use Rattle.job_protocol.specs.View.{Shown}
use Rattle.std.specs.BTreeSet.{insert_key}
use Rattle.std.specs.Map.{lookup}
use Rattle.std.specs.Option.{option_map, unwrap_or}
use Rattle.std.specs.Prelude.{Bool, List, None, Option, Some, cond, is_some, map, not, suc, true, zero, ℕ, [], ◌&&◌, ◌++◌, ◌+◌, ◌-◌, ◌∷◌}

-- The files of an attempt at their paths below the destination; none if it is not declared.
abbrev pub files : Script → Who → List File
files w a = unwrap_or (files_of w a) []

-- The chosen attempt of each task, or none.
abbrev pub Picks : Type 0
Picks = ℕ → Option ℕ

-- The files of a task's chosen attempt.
abbrev pub files_picked : Script → ℕ → Option ℕ → List File
files_picked w task (Some attempt) = files w (record { task = task; attempt = attempt })
files_picked w task None = []

-- The files of the chosen attempts of the first t tasks.
abbrev pub wanted_below : Script → Picks → ℕ → List File
wanted_below w picks zero = []
wanted_below w picks (suc t) = wanted_below w picks t ++ files_picked w t (picks t)

-- All files of the chosen attempts, by task and then in the script's order.
abbrev pub wanted : Script → Picks → List File
wanted w picks = wanted_below w picks w.tasks

-- The bytes that the chosen attempts write at a path, or none.
abbrev pub wanted_at : Script → Picks → Shown
wanted_at w picks p = lookup (text_eq p) (wanted w picks)

-- The texts, each once, in the order of their bytes.
abbrev pub ordered : List (List ℕ) → List (List ℕ)
ordered [] = []
ordered (p ∷ ps) = insert_key text_cmp (ordered ps) p

-- The paths of the files, each once, in the order of their bytes.
abbrev pub paths_of : List File → List (List ℕ)
paths_of files = ordered (map (λ f. f.0) files)

-- The paths that the chosen attempts write, each once, in the order of their bytes.
abbrev pub wanted_paths : Script → Picks → List (List ℕ)
wanted_paths w picks = paths_of (wanted w picks)

-- ---- complete choices, and chosen attempts that write the same path

-- True if each of the first t tasks has a chosen attempt.
abbrev pub picked_below : Picks → ℕ → Bool
picked_below picks zero = true
picked_below picks (suc t) = picked_below picks t && is_some (picks t)

-- True if each task has a chosen attempt.
abbrev pub is_picked : Script → Picks → Bool
is_picked w picks = picked_below picks w.tasks

-- ---- the path that two chosen attempts write

-- True if the chosen attempt of the task writes the path.
abbrev pub writes : Script → Picks → List ℕ → ℕ → Bool
writes w picks p t = has_path (files_picked w t (picks t)) p

-- The least of the n numbers from t on that passes the test, or none.
abbrev pub first_where : (ℕ → Bool) → ℕ → ℕ → Option ℕ
first_where test t zero = None
first_where test t (suc n) = cond (test t) (Some t) (first_where test (t + 1) n)

-- The number `t` and the next one that passes the test, or none if there is no such pair.
abbrev pub second_where : (ℕ → Bool) → ℕ → Option ℕ → Option (ℕ × ℕ)
second_where test n None = None
second_where test n (Some t) = option_map (λ u. (t, u)) (first_where test (t + 1) (n - (t + 1)))

-- The two least numbers below n that pass the test, or none if fewer than two do.
abbrev pub two_where : (ℕ → Bool) → ℕ → Option (ℕ × ℕ)
two_where test n = second_where test n (first_where test 0 n)

-- SamePath of this path and these two tasks; without them, the other result.
abbrev pub shared_by : List ℕ → Option (ℕ × ℕ) → Option CommitEnd → Option CommitEnd
shared_by p (Some tasks) others = Some (SamePath p tasks.0 tasks.1)
shared_by p None others = others

-- SamePath of the first of these paths that two chosen attempts write, with the two lowest tasks, or none.
abbrev pub first_shared : Script → Picks → List (List ℕ) → Option CommitEnd
first_shared w picks [] = None
first_shared w picks (p ∷ ps) = shared_by p (two_where (writes w picks p) w.tasks) (first_shared w picks ps)

-- SamePath of the least path that two chosen attempts write, with the two lowest tasks, or none.
abbrev pub same_path : Script → Picks → Option CommitEnd
same_path w picks = first_shared w picks (wanted_paths w picks)

-- True if two chosen attempts write the same path.
abbrev pub is_clash : Script → Picks → Bool
is_clash w picks = is_some (same_path w picks)

-- True if each task has a chosen attempt, and no two of them write the same path.
abbrev pub is_decided : Script → Picks → Bool
is_decided w picks = is_picked w picks && not (is_clash w picks)
