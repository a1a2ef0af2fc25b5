use Rattle.cleanup.proofs.SparingPlaces.{aborts_at}
use Rattle.cleanup.specs.SparingHeld.{all_of}
use Rattle.std.proofs.Common.{arith}
use Rattle.cleanup.proofs.sparing_state.SparingState.abort_from.Goals as goal

pub returns-clause-goes : goal.returns-clause-goes
returns-clause-goes c =
    let h = c.args.self.now in
    aborts_at c.args.committer h.named (all_of c.args.committer h) c.args.at (omega arith)
