use Rattle.machine.proofs.Counts.{counted_one}
use Rattle.machine.proofs.driving.send.Goals as goal

pub returns-in_err-turn-clause-counts : goal.returns-in_err-turn-clause-counts
returns-in_err-turn-clause-counts g c =
    let k = c.in-Ok.ensures in
    counted_one _ _ _ _ _ _ _ _ _ _ c.write_down.ensures c.reserve.ensures.entries k.count k.losses k.kept k.foretold

pub returns-clause-counts : goal.returns-clause-counts
returns-clause-counts g c =
    let k = c.in-Ok.ensures in
    counted_one _ _ _ _ _ _ _ _ _ _ c.write_down.ensures c.reserve.ensures.entries k.count k.losses k.kept k.foretold
