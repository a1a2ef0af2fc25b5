use Rattle.std.proofs.Common.{◌≡◌}
use Rattle.job_run.proofs.Firsts.{hands_of}
use Rattle.job_run.proofs.starting.first_hands.Given as goal

abbrev pub invariant-loop-place : goal.invariant-loop-place
invariant-loop-place g l = l.hands.items ≡ hands_of l.script l.minimum l.place
