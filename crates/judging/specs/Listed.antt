-- A claim by its attempts as they are listed: by the tasks that have attempts.
use Rattle.std.specs.Prelude.{ℕ, suc, zero, ◌+◌, ◌<◌, ◌≡◌, List, [], ◌∷◌, ◌++◌, map, nat_eq}
use Rattle.std.specs.Prelude.{Bool, Option, Some, None, cond, is_some}
use Rattle.std.specs.List.{All, list_any}
use Rattle.std.specs.Map.{lookup}
use Rattle.std.specs.Option.{unwrap_or}
use Rattle.soundness.specs.Claims.{Attempts, Claim, Files, file_at}
use Rattle.soundness.specs.declared.keeps.Keeps.{Keeps}

-- The attempts of a task: each by its number, with its files.
abbrev pub Numbered : Type 0 → Type 0
Numbered I = List (ℕ × Files I)

-- The tasks that have attempts, in the order of their first ones.
abbrev pub Listed : Type 0 → Type 0
Listed I = List (ℕ × Numbered I)

-- The attempts of a task by their numbers.
abbrev pub numbered : {I : Type 0} → ℕ → Listed I → Numbered I
numbered t listed = unwrap_or (lookup (nat_eq t) listed) []

-- Attempts by their files.
abbrev pub files_of : {I : Type 0} → Numbered I → Attempts I
files_of attempts = map (λ a. a.1) attempts

-- The attempts of a task by their files.
abbrev pub of_task : {I : Type 0} → ℕ → Listed I → Attempts I
of_task t listed = files_of (numbered t listed)

-- The attempts of each of `count` tasks, whose numbers count from t on.
abbrev pub by_task : {I : Type 0} → (t count : ℕ) → Listed I → List (Attempts I)
by_task t zero listed = []
by_task t (suc count) listed = of_task t listed ∷ by_task (t + 1) count listed

-- The claim of a job with this number of tasks.
abbrev pub claim_of : {I : Type 0} → Keeps → (tasks : ℕ) → Listed I → Claim I
claim_of keeps tasks listed = record { keeps = keeps; tasks = by_task 0 tasks listed }

-- No task is listed twice.
abbrev pub ListedOnce : {I : Type 0} → Listed I → Type 0
ListedOnce [] = Unit {0}
ListedOnce (x ∷ xs) = (lookup (nat_eq x.0) xs ≡ None) × ListedOnce xs

-- Each listed task is below this number.
abbrev pub ListedBelow : {I : Type 0} → ℕ → Listed I → Type 0
ListedBelow tasks listed = All (λ x. x.0 < tasks) listed

-- ---- how attempts and files are listed

-- The task has an attempt of this number.
abbrev pub has_attempt : {I : Type 0} → ℕ → ℕ → Listed I → Bool
has_attempt t a listed = is_some (lookup (nat_eq a) (numbered t listed))

-- The list with one more attempt of a task, after its others and with no file yet.
abbrev pub with_attempt : {I : Type 0} → ℕ → ℕ → Listed I → Listed I
with_attempt t a [] = (t, (a, []) ∷ []) ∷ []
with_attempt t a (x ∷ xs) = cond (nat_eq t x.0) ((x.0, x.1 ++ (a, []) ∷ []) ∷ xs) (x ∷ with_attempt t a xs)

-- The files of the last attempt.
abbrev pub last_files : {I : Type 0} → Numbered I → Files I
last_files [] = []
last_files (a ∷ []) = a.1
last_files (a ∷ b ∷ bs) = last_files (b ∷ bs)

-- The attempts with one more file of the last one.
abbrev pub with_last : {I : Type 0} → List ℕ → I → Numbered I → Numbered I
with_last p content [] = []
with_last p content (a ∷ []) = (a.0, a.1 ++ (p, content) ∷ []) ∷ []
with_last p content (a ∷ b ∷ bs) = a ∷ with_last p content (b ∷ bs)

-- The list with one more file of the last attempt of a task.
abbrev pub with_file : {I : Type 0} → ℕ → List ℕ → I → Listed I → Listed I
with_file t p content [] = []
with_file t p content (x ∷ xs) = cond (nat_eq t x.0) ((x.0, with_last p content x.1) ∷ xs) (x ∷ with_file t p content xs)

-- Some attempt among these writes the path.
abbrev pub writes_among : {I : Type 0} → List ℕ → Numbered I → Bool
writes_among p attempts = list_any (λ a. is_some (file_at a.1 p)) attempts

-- The first of the listed tasks of which an attempt writes the path.
abbrev pub owner : {I : Type 0} → List ℕ → Listed I → Option ℕ
owner p [] = None
owner p (x ∷ xs) = cond (writes_among p x.1) (Some x.0) (owner p xs)
