use Rattle.std.proofs.Common.{◌≡◌, ◌≤◌, ◌-◌, vec_len}
use Rattle.s3a_top.proofs.Pieces.{IsReadSoFar}
use Rattle.s3a_top.proofs.input.read_input.Given as goal

abbrev pub invariant-loop-chunk : goal.invariant-loop-chunk
invariant-loop-chunk g l = record {
  calm : g.Q.Source.faults l.input ≡ g.Q.Source.faults l.fn.input;
  few : vec_len l.all ≤ 67108865;
  read : IsReadSoFar (g.Q.Source.left l.fn.input) (g.Q.Source.left l.input) l.all.items;
}

abbrev pub decreases-loop-chunk : goal.decreases-loop-chunk
decreases-loop-chunk g l = 67108865 - vec_len l.all
