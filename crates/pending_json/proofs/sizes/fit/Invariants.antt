use Rattle.std.proofs.Common.{drop, ◌==◌, ◌≡◌}
use Rattle.std.specs.List.{sum}
use Rattle.pending_json.proofs.sizes.fit.Given as goal

abbrev pub invariant-loop-size : goal.invariant-loop-size
invariant-loop-size l = (sum (drop l.size-index l.sizes) == l.left) ≡ (sum l.sizes == l.total)
