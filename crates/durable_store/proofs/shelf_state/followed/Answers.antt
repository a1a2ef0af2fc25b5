use Rattle.std.proofs.Common.{◌≡◌, true}
use Rattle.durable_store.proofs.Found.{imaged}
use Rattle.durable_store.proofs.shelf_state.followed.Goals as goal

pub returns-in-Ok-true-clause-sound : goal.returns-in-Ok-true-clause-sound
returns-in-Ok-true-clause-sound c =
    let few : c.in-Ok-true.field-0 ≡ true = cc in
    let e = c.in-Ok-true.ensures in
    imaged c.args.service c.follow_all.new.service c.args.changes.now (e.done few) (e.made few) (e.few few)
