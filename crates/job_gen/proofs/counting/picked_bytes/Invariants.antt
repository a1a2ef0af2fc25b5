use Rattle.job_gen.specs.Summary.{pick_bytes}
use Rattle.std.proofs.Common.{take, ◌*◌, ◌≡◌, ◌≤◌}
use Rattle.std.specs.Prelude.{sum_by}
use Rattle.job_gen.proofs.counting.picked_bytes.Given as goal

abbrev pub invariant-loop-pick : goal.invariant-loop-pick
invariant-loop-pick l = record {
  so_far : l.sum ≡ sum_by (pick_bytes l.script) (take l.pick-index l.picks);
  most : l.sum ≤ 67108864 * l.pick-index;
}
