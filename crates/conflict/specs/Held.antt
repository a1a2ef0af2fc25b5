-- A check before a commit in progress, as data.
use Rattle.conflict.specs.declared.check_state.CheckStage.{CheckStage}
use Rattle.conflict.specs.declared.check_state.CheckState.{CheckState}
use Rattle.job_model.specs.declared.ends.CheckEnd.{CheckEnd}
use Rattle.job_protocol.specs.Rechecks.{Check, CheckOver, Looking, Probing}
use Rattle.list_walk.specs.Walks.{keys_on}
use Rattle.std.specs.Prelude.{List, ℕ, [], ◌∷◌}
use Rattle.conflict.specs.declared.check_state.CheckStage.TheVariants as stages

-- The check that looks below the next of these partitions, or has ended if none is left.
abbrev pub probing_to : CheckEnd → List (List ℕ) → Check
probing_to end [] = CheckOver end
probing_to end (d ∷ ds) = Probing d ds

-- The check at a stage, with the keys of the walk, the partitions left to check, and the end.
abbrev pub check_at : CheckStage → List (List ℕ) → List (List ℕ) → CheckEnd → Check
check_at stages.Looking keys left end = Looking keys
check_at stages.Probing keys left end = probing_to end left
check_at stages.Over keys left end = CheckOver end

-- The check that the kept values represent.
abbrev pub check_of : CheckState → Check
check_of h = check_at h.stage (keys_on h.walk) h.partitions h.end
