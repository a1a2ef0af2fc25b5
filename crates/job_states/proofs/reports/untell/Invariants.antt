use Rattle.std.proofs.Common.{◌≡◌, ℕ, ◌<◌, false, get_or}
use Rattle.job_states.proofs.reports.untell.Given as goal

abbrev pub invariant-loop-is_told : goal.invariant-loop-is_told
invariant-loop-is_told l = (k : ℕ) → k < l.is_told-index → get_or l.told k false ≡ false
