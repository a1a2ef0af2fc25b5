use Rattle.std.proofs.Common.{◌<◌, length, refl, arith}
use Rattle.job_run.proofs.Standings.{placed}
use Rattle.job_run.proofs.Turns.{goes_over}
use Rattle.job_run.proofs.TakingUp.{handed_at, in_hand_of}
use Rattle.job_run.proofs.body.Body.take_up.Goals as goal

pub goes_on-requires : goal.goes_on-requires
goes_on-requires g c =
    let k = c.args.self.now in
    let at = c.requires.actor.within in
    let same = c.requires.holds.places in
    let below : c.args.place < length k.side.hands.items = omega arith in
    in_hand_of _ g.W.Acts.end_of _ _ _ _ _ k _ c.in-Ok.work (handed_at _ k _ c.put.new.place _ refl refl below c.put.ensures) _ c.in-Ok.is
    c.requires

pub die-requires-clause-actor : goal.die-requires-clause-actor
die-requires-clause-actor g c = placed _ _ _ c.requires.actor

pub returns-in-Err-clause-going : goal.returns-in-Err-clause-going
returns-in-Err-clause-going g c = goes_over _ _ _ _ _ _ c.requires.others c.requires.during _ _ _ c.die.ensures.holds c.die.ensures.over
