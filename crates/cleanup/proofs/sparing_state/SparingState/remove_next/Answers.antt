use Rattle.std.proofs.Common.{ap, ◌∙◌}
use Rattle.job_protocol.specs.Sparing.{removing}
use Rattle.cleanup.proofs.SparingPlaces.{next_behind}
use Rattle.cleanup.proofs.sparing_state.SparingState.remove_next.Goals as goal

pub returns-clause-goes : goal.returns-clause-goes
returns-clause-goes c = λ k.
    let h = c.args.self.now in
    c.remove_from.ensures.goes k ∙ ap removing (next_behind h.at 1 c.next_place-at.result c.len.result h.paths c.next_place-at.ensures
    c.len.ensures)
