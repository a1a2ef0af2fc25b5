use Rattle.job_protocol.specs.Lanes.{is_in}
use Rattle.std.proofs.Common.{reverse, take, ℕ, ◌≡◌}
use Rattle.std.specs.BTreeSet.{contains}
use Rattle.std.specs.Ordering.{nat_cmp}
use Rattle.commit_lanes.proofs.reverting.numbers_in.Given as goal

abbrev pub invariant-loop-number : goal.invariant-loop-number
invariant-loop-number l = (n : ℕ) → contains nat_cmp l.set n ≡ is_in (reverse (take l.number-index l.numbers)) n
