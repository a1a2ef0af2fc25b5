use Rattle.folder_log.proofs.Recorded.{state_is}
use Rattle.folder_log.specs.Calls.{IsImage, Recorded}
use Rattle.folder_log.specs.declared.state.DiskCall.TheVariants.{Swap}
use Rattle.folder_log.specs.declared.state.State.{State}
use Rattle.std.proofs.Common.{Some, ap, subst, ◌++◌}
use Rattle.folder_log.proofs.mem_disk.MemDiskLogDisk.swap.Goals as goal

pub returns-in-Ok-clause-swapped : goal.returns-in-Ok-clause-swapped
returns-in-Ok-clause-swapped c =
    ap (λ (s : State). Some s.now) (state_is c.swapped.new.self c.self.inside.first c.self.inside.calls
    (Swap (c.args.head.now ++ (c.args.body.now ++ c.args.tail.now))) (ap (λ (d : Recorded). d.first) c.in-Ok.ensures.ok)
    (ap (λ (d : Recorded). d.calls) c.in-Ok.ensures.ok))

pub returns-in-Ok-clause-durable : goal.returns-in-Ok-clause-durable
returns-in-Ok-clause-durable c f image =
    subst (λ (s : State). IsImage s f) (state_is c.swapped.new.self c.self.inside.first c.self.inside.calls
    (Swap (c.args.head.now ++ (c.args.body.now ++ c.args.tail.now))) (ap (λ (d : Recorded). d.first) c.in-Ok.ensures.ok)
    (ap (λ (d : Recorded). d.calls) c.in-Ok.ensures.ok)) image
