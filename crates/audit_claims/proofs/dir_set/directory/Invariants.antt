use Rattle.std.proofs.Common.{◌≡◌, length}
use Rattle.soundness.specs.Claims.{directory}
use Rattle.audit_claims.proofs.dir_set.directory.Given as goal

abbrev pub invariant-loop-last : goal.invariant-loop-last
invariant-loop-last l = directory l.dir ≡ directory l.path

abbrev pub decreases-loop-last : goal.decreases-loop-last
decreases-loop-last l = length l.dir
