use Rattle.cleanup.proofs.SparingPlaces.{next_behind}
use Rattle.cleanup.specs.SparingHeld.{all_of, places_of}
use Rattle.job_protocol.specs.Sparing.{names, reading_on}
use Rattle.std.proofs.Common.{ap, drop, ◌++◌, ◌∙◌}
use Rattle.cleanup.proofs.sparing_state.SparingState.hear_read.Goals as goal

pub returns-clause-goes : goal.returns-clause-goes
returns-clause-goes c =
    let h = c.args.self.now in
    let k = c.args.committer in
    c.read_from.ensures.goes
    ∙ ap (λ us. reading_on k us (drop c.next_place-at.result (places_of k h)) (all_of k h)) c.in_ok-add_names.ensures
    ∙ ap (λ ps. reading_on k (h.named ++ names c.args.reply.now) ps (all_of k h))
    (next_behind h.at 1 c.next_place-at.result c.count.result (places_of k h) c.next_place-at.ensures c.count.ensures)
