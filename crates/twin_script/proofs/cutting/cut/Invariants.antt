use Rattle.std.proofs.Common.{drop, length, take, [], ◌-◌, ◌≡◌, ◌≤◌}
use Rattle.twin_script.specs.Cutting.{cut, cut_from}
use Rattle.twin_script.proofs.cutting.cut.Given as goal

abbrev pub invariant-loop-at : goal.invariant-loop-at
invariant-loop-at l = record {
  within : l.at ≤ length l.bytes;
  so_far : cut_from (take l.at l.bytes) [] (drop l.at l.bytes) ≡ cut l.bytes;
}

abbrev pub decreases-loop-at : goal.decreases-loop-at
decreases-loop-at l = length l.bytes - l.at
