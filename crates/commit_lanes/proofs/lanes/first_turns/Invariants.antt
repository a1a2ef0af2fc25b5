use Rattle.job_protocol.specs.Lanes.{first_turns}
use Rattle.std.proofs.Common.{◌≡◌}
use Rattle.commit_lanes.proofs.lanes.first_turns.Given as goal

abbrev pub invariant-loop-n : goal.invariant-loop-n
invariant-loop-n l = l.turns.items ≡ first_turns l.n
