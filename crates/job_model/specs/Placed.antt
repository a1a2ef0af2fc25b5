-- The files of an attempt at their paths below the destination.
use Rattle.text_and_lists.specs.Parts.{parts_of}
use Rattle.job_model.specs.Attempts.{Who, same_name}
use Rattle.job_model.specs.Files.{File}
use Rattle.job_model.specs.JobScript.{Script}
use Rattle.std.specs.List.{join_with_byte}
use Rattle.std.specs.Map.{lookup}
use Rattle.std.specs.Option.{option_map}
use Rattle.std.specs.Prelude.{Bool, List, Option, false, if◌then◌else◌, map, true, ℕ, [], ◌++◌, ◌==◌, ◌∷◌}

-- The name with `-` and the job's id before its first dot, or at its end if it has no dot.
abbrev pub with_id : List ℕ → List ℕ → List ℕ
with_id id [] = 45 ∷ id
with_id id (x ∷ name) = if x == 46 then 45 ∷ (id ++ x ∷ name) else x ∷ with_id id name

-- The elements of a path, with the job's id in the last one.
abbrev pub with_id_last : List ℕ → List (List ℕ) → List (List ℕ)
with_id_last id [] = []
with_id_last id (e ∷ []) = with_id id e ∷ []
with_id_last id (e ∷ f ∷ es) = e ∷ with_id_last id (f ∷ es)

-- The path with the job's id in its last element (Hadoop, S3A committers: fs.s3a.committer.staging.unique-filenames).
abbrev pub unique_name : List ℕ → List ℕ → List ℕ
unique_name path id = join_with_byte 47 (with_id_last id (parts_of 47 path))

-- The path of a file below the destination: made unique to the job, or as the script writes it.
abbrev pub path_of : Bool → List ℕ → List ℕ → List ℕ
path_of true id path = unique_name path id
path_of false id path = path

-- The files at their paths below the destination.
abbrev pub placed : Bool → List ℕ → List File → List File
placed unique id files = map (λ f. (path_of unique id f.0, f.1)) files

-- The files of an attempt at their paths below the destination; `None` if the attempt is not declared.
abbrev pub files_of : Script → Who → Option (List File)
files_of w a = option_map (placed w.unique w.job) (lookup (same_name a) w.attempts)
