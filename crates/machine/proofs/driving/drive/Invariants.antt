use Rattle.machine.proofs.Runs.{work}
use Rattle.machine.specs.inner.Drove.{Driving}
use Rattle.machine.specs.Turns.{retried}
use Rattle.machine.proofs.driving.drive.Given as goal

abbrev pub invariant-sending : goal.invariant-sending
invariant-sending g l =
    let scene = g.S.ObjectStore.scene in
    let losses = g.S.ObjectStore.losses in
    Driving g.M.Machine.after g.M.Machine.wants g.M.Machine.ready g.M.Machine.standing l.actor l.event l.fn.machine l.machine
    (scene l.fn.store) (scene l.store)
    l.fn.journal.entries l.journal.entries (losses l.fn.store) (losses l.store) (g.S.ObjectStore.foretold l.fn.store)
    (g.S.ObjectStore.foretold l.store) (g.S.ObjectStore.requests l.fn.store) (g.S.ObjectStore.requests l.store) l.worn

abbrev pub decreases-sending : goal.decreases-sending
decreases-sending g l = work g.M.Machine.left l.machine.retries (retried l.machine) (g.S.ObjectStore.scene l.store)
