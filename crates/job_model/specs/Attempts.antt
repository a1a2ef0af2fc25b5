-- The declared attempts with their files.
use Rattle.job_model.specs.Files.{File}
use Rattle.job_model.specs.declared.attempts.AttemptName.{AttemptName}
use Rattle.s3_types.specs.declared.request.Actor.{Actor}
use Rattle.std.specs.Map.{lookup}
use Rattle.std.specs.Prelude.{Bool, List, false, is_some, nat_eq, true, ℕ, [], ◌&&◌, ◌++◌, ◌∷◌}
use Rattle.s3_types.specs.declared.request.Actor.TheVariants as actor

-- The name of an attempt: the number of its task, and its own number.
abbrev pub Who : Type 0
Who = AttemptName

-- The actor of an attempt.
abbrev pub actor_of : Who → Actor
actor_of a = actor.Attempt a.task a.attempt

-- True if both names have the same numbers.
abbrev pub same_name : Who → Who → Bool
same_name x y = nat_eq x.task y.task && nat_eq x.attempt y.attempt

-- An attempt with its files, at the paths that the script writes.
abbrev pub Declared : Type 0
Declared = Who × List File

-- True if an attempt with this name is declared.
abbrev pub declares : List Declared → Who → Bool
declares attempts name = is_some (lookup (same_name name) attempts)

-- The files of the last attempt; none if there is no attempt.
abbrev pub last_files : List Declared → List File
last_files [] = []
last_files (a ∷ []) = a.1
last_files (a ∷ b ∷ bs) = last_files (b ∷ bs)

-- The attempts, where the last one has one more file.
abbrev pub with_file : List Declared → List ℕ → List ℕ → List Declared
with_file [] path bytes = []
with_file (a ∷ []) path bytes = (a.0, a.1 ++ (path, bytes) ∷ []) ∷ []
with_file (a ∷ b ∷ bs) path bytes = a ∷ with_file (b ∷ bs) path bytes

-- True if the actor is the driver or a declared attempt.
abbrev pub is_known : List Declared → Actor → Bool
is_known attempts actor.Driver = true
is_known attempts (actor.Attempt task attempt) = declares attempts (record { task = task; attempt = attempt })
is_known attempts actor.Shell = false
