use Rattle.cleanup.proofs.SparingPlaces.{reads_at}
use Rattle.cleanup.specs.SparingHeld.{all_of, places_of}
use Rattle.std.proofs.Common.{arith}
use Rattle.cleanup.proofs.sparing_state.SparingState.read_from.Goals as goal

pub returns-clause-goes : goal.returns-clause-goes
returns-clause-goes c =
    let h = c.args.self.now in
    reads_at c.args.committer h.named (places_of c.args.committer h) (all_of c.args.committer h) c.args.at (omega arith)
