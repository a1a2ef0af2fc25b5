use Rattle.cleanup.proofs.SparingPlaces.{next_behind}
use Rattle.job_protocol.specs.Sparing.{deleting}
use Rattle.std.proofs.Common.{ap, ◌∙◌}
use Rattle.cleanup.proofs.sparing_state.SparingState.delete_next.Goals as goal

pub returns-clause-goes : goal.returns-clause-goes
returns-clause-goes c = λ k.
    let h = c.args.self.now in
    c.delete_from.ensures.goes k ∙ ap deleting (next_behind h.at 1000 c.next_place-at.result c.len.result h.keys c.next_place-at.ensures
    c.len.ensures)
