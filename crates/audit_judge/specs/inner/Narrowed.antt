-- Definitions beside those of `Narrowed` that no public contract cites.
use Rattle.audit_claims.specs.Claims.{Tags}
use Rattle.audit_judge.specs.Narrowed.{has_flag}
use Rattle.judging.specs.Listed.{Listed, Numbered, writes_among}
use Rattle.soundness.specs.Claims.{Files, file_at}
use Rattle.std.specs.List.{AllZip}
use Rattle.std.specs.Prelude.{Bool, List, None, Option, Some, cond, false, length, map, nat_lt, slice_set, true, ℕ, [], ◌&&◌, ◌++◌, ◌∷◌}
use Rattle.std.specs.Prelude.{◌≡◌}

-- There are flags for each listed task, one for each of its attempts.
abbrev pub Fitting : Listed Tags → List (List Bool) → Type 0
Fitting listed rows = AllZip (λ x flags. length flags ≡ length x.1) listed rows

-- The flag at a place is down, unless its attempt meets a demand.
abbrev pub lowered : Bool → ℕ → List Bool → List Bool
lowered true k flags = flags
lowered false k flags = slice_set flags k false

-- The flags of one task.
abbrev pub narrow_task : (Option Tags → Bool) → List ℕ → Numbered Tags → List Bool → List Bool
narrow_task suits p [] flags = flags
narrow_task suits p (a ∷ attempts) [] = []
narrow_task suits p (a ∷ attempts) (flag ∷ flags) = (flag && suits (file_at a.1 p)) ∷ narrow_task suits p attempts flags

-- The flags of the first listed task that writes the path.
abbrev pub narrow : (List ℕ → Option Tags → Bool) → Listed Tags → List ℕ → List (List Bool) → List (List Bool)
narrow suits [] p rows = rows
narrow suits (x ∷ xs) p [] = []
narrow suits (x ∷ xs) p (row ∷ rows) = cond (writes_among p x.1) (narrow_task (suits p) p x.1 row ∷ rows)
    (row ∷ narrow suits xs p rows)

-- The flags after one path after the other.
abbrev pub narrow_all : (List ℕ → Option Tags → Bool) → Listed Tags → List (List ℕ) → List (List Bool) → List (List Bool)
narrow_all suits listed [] rows = rows
narrow_all suits listed (p ∷ ps) rows = narrow_all suits listed ps (narrow suits listed p rows)

-- The first listed task that writes the path, if none of its flags is up.
abbrev pub empty_at : Listed Tags → List ℕ → List (List Bool) → Option ℕ
empty_at [] p rows = None
empty_at (x ∷ xs) p [] = None
empty_at (x ∷ xs) p (row ∷ rows) = cond (writes_among p x.1) (cond (has_flag row) None (Some x.0)) (empty_at xs p rows)

-- The lesser of two numbers, or the one that is there.
abbrev pub lesser : Option ℕ → Option ℕ → Option ℕ
lesser None o = o
lesser (Some t) None = Some t
lesser (Some t) (Some u) = cond (nat_lt u t) (Some u) (Some t)

-- The least of a number and of the tasks that have no attempt left after their paths were checked.
abbrev pub least_from : (List ℕ → Option Tags → Bool) → Listed Tags → List (List ℕ) → List (List Bool) → Option ℕ → Option ℕ
least_from suits listed [] rows o = o
least_from suits listed (p ∷ ps) rows o = least_from suits listed ps (narrow suits listed p rows)
    (lesser o (empty_at listed p (narrow suits listed p rows)))

-- The paths of some files.
abbrev pub keys_of : Files Tags → List (List ℕ)
keys_of files = map (λ file. file.0) files

-- The paths of a task's attempts.
abbrev pub paths_of_task : Numbered Tags → List (List ℕ)
paths_of_task [] = []
paths_of_task (a ∷ attempts) = keys_of a.1 ++ paths_of_task attempts

-- The paths of all listed tasks.
abbrev pub paths_of_all : Listed Tags → List (List ℕ)
paths_of_all [] = []
paths_of_all (x ∷ xs) = paths_of_task x.1 ++ paths_of_all xs
