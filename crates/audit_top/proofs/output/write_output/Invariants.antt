use Rattle.std.proofs.Common.{◌≡◌, length}
use Rattle.audit_top.proofs.Pieces.{IsWrittenSoFar}
use Rattle.audit_top.proofs.output.write_output.Given as goal

abbrev pub invariant-loop-rest : goal.invariant-loop-rest
invariant-loop-rest g l = record {
  calm : g.K.Sink.faults l.out ≡ g.K.Sink.faults l.fn.out;
  written : IsWrittenSoFar (g.K.Sink.written l.fn.out) (g.K.Sink.written l.out) l.bytes l.rest;
}

abbrev pub decreases-loop-rest : goal.decreases-loop-rest
decreases-loop-rest g l = length l.rest
