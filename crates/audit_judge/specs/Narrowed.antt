-- Candidates: a flag for each listed task and each of its attempts, in their order.
use Rattle.audit_claims.specs.Claims.{Tags}
use Rattle.judging.specs.Listed.{Listed, Numbered, files_of}
use Rattle.soundness.specs.Claims.{Attempts, Files}
use Rattle.std.specs.List.{AllZip, list_any}
use Rattle.std.specs.Prelude.{Bool, List, false, true}

-- The flag says whether a fact holds.
abbrev pub Tells : Type 0 → Bool → Type 0
Tells P true = P
Tells P false = P → ⊥

-- The flags say for which attempts of a task a fact holds.
abbrev pub TellsOfTask : (Attempts Tags → Files Tags → Type 0) → Numbered Tags → List Bool → Type 0
TellsOfTask D attempts flags = AllZip (λ a flag. Tells (D (files_of attempts) a.1) flag) attempts flags

-- The flags say it for each listed task.
abbrev pub TellsOfAll : (Attempts Tags → Files Tags → Type 0) → Listed Tags → List (List Bool) → Type 0
TellsOfAll D listed rows = AllZip (λ x flags. TellsOfTask D x.1 flags) listed rows

-- Some flag is up.
abbrev pub has_flag : List Bool → Bool
has_flag flags = list_any (λ flag. flag) flags

-- ---- ruling out the attempts whose file at a path does not suit

-- ---- the least task that has no attempt left

-- ---- the paths of all attempts
