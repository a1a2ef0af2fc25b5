use Rattle.std.proofs.Common.{◌≡◌, map}
use Rattle.conflict.proofs.dirs.listed.Given as goal

abbrev pub invariant-loop-text : goal.invariant-loop-text
invariant-loop-text l = l.list ≡ map (λ t. t.now) l.yielded
