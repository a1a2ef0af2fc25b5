use Rattle.std.proofs.Common.{refl}
use Rattle.job_run.proofs.Rooms.{quiet_roomy}
use Rattle.job_run.proofs.body.Body.make_room.Goals as goal

pub returns-clause-quiet : goal.returns-clause-quiet
returns-clause-quiet g c =
    let k = c.args.self.now in
    quiet_roomy _ _ _ _ k (record k { side = record k.side { ends = c.reserve.new.self; finished = c.reserve-2.new.self } })
    c.requires.quiet c.reserve.ensures.items c.reserve-2.ensures.items

pub returns-in_err-reserve-clause-quiet : goal.returns-in_err-reserve-clause-quiet
returns-in_err-reserve-clause-quiet g c =
    let k = c.args.self.now in
    quiet_roomy _ _ _ _ k (record k { side = record k.side { ends = c.reserve.new.self } }) c.requires.quiet c.reserve.ensures.items refl
