use Rattle.std.proofs.Common.{sym, ◌∙◌}
use Rattle.durable_store.proofs.Found.{stand_if, sound_if}
use Rattle.durable_store.proofs.shelf_state.unfolded.Goals as goal

pub returns-in-Ok-clause-stands : goal.returns-in-Ok-clause-stands
returns-in-Ok-clause-stands c =
    stand_if c.followed.result c.args.kept.now c.in-Ok.service c.as_slice-in-Ok.result.now c.as_slice-in-Ok.ensures
    (sym c.as_slice.ensures ∙ c.in-Ok.ensures.found.1) c.followed.ensures.exact

pub returns-in-Ok-clause-sound : goal.returns-in-Ok-clause-sound
returns-in-Ok-clause-sound c = sound_if c.followed.result c.in-Ok.service c.in-Ok.ensures.found.0 c.followed.ensures.sound
