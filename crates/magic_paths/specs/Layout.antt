-- Where the committers keep their files: the magic committer below the key of the destination, the staging committers in the cluster's
-- file system (Hadoop, S3A committer architecture).
use Rattle.std.specs.Fmt.{decimal}
use Rattle.std.specs.Prelude.{List, codes, ℕ, ◌++◌}

-- The prefix of all keys below a job's magic directory: DEST/__magic/job-ID/
abbrev pub magic_prefix : List ℕ → List ℕ → List ℕ
magic_prefix dest job = dest ++ (codes "/__magic/job-" ++ (job ++ codes "/"))

-- The directory into which a task attempt writes: DEST/__magic/job-ID/tasks/T_A/__base
abbrev pub attempt_key : List ℕ → List ℕ → ℕ → ℕ → List ℕ
attempt_key dest job task attempt = dest ++ (codes "/__magic/job-" ++ (job ++
    (codes "/tasks/" ++ (decimal task ++ (codes "_" ++ (decimal attempt ++ codes "/__base"))))))

-- The key of a committed task's set of pending uploads: DEST/__magic/job-ID/sets/task_T.pendingset
abbrev pub set_key : List ℕ → List ℕ → ℕ → List ℕ
set_key dest job task = dest ++ (codes "/__magic/job-" ++ (job ++ (codes "/sets/task_" ++ (decimal task ++ codes ".pendingset"))))

-- The key of the marker of a committed job: DEST/_SUCCESS
abbrev pub success_key : List ℕ → List ℕ
success_key dest = dest ++ codes "/_SUCCESS"

-- The prefix of all paths of a job in the cluster: jobs/ID/
abbrev pub cluster_prefix : List ℕ → List ℕ
cluster_prefix job = codes "jobs/" ++ (job ++ codes "/")

-- The path of an attempt's temporary file in the cluster: jobs/ID/tmp/T_A.pendingset
abbrev pub temporary_path : List ℕ → ℕ → ℕ → List ℕ
temporary_path job task attempt = codes "jobs/" ++ (job ++
    (codes "/tmp/" ++ (decimal task ++ (codes "_" ++ (decimal attempt ++ codes ".pendingset")))))

-- The path of a committed task's set in the cluster: jobs/ID/sets/task_T.pendingset
abbrev pub staged_set_path : List ℕ → ℕ → List ℕ
staged_set_path job task = codes "jobs/" ++ (job ++ (codes "/sets/task_" ++ (decimal task ++ codes ".pendingset")))
