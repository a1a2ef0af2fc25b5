use Rattle.cleanup.proofs.SparingPlaces.{next_behind}
use Rattle.cleanup.specs.SparingHeld.{all_of}
use Rattle.job_protocol.specs.Sparing.{aborting}
use Rattle.std.proofs.Common.{ap, ◌∙◌}
use Rattle.cleanup.proofs.sparing_state.SparingState.abort_next.Goals as goal

pub returns-clause-goes : goal.returns-clause-goes
returns-clause-goes c =
    let h = c.args.self.now in
    c.abort_from.ensures.goes
    ∙ ap (λ us. aborting c.args.committer us (all_of c.args.committer h)) (next_behind h.at 1 c.next_place-at.result c.len.result h.named
    c.next_place-at.ensures c.len.ensures)
