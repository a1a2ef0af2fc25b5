use Rattle.text_and_lists.proofs.Members.{nat_false}
use Rattle.job_run.proofs.Finishes.{has_hand, is_dead}
use Rattle.job_run.proofs.Writes.{set_other, set_so}
use Rattle.job_run.specs.Holds.{all_but}
use Rattle.job_run.specs.declared.hands.Hand.TheVariants.{Empty}
use Rattle.std.proofs.Common.{ap, not, refl}
use Rattle.std.proofs.Math.ListN.{length-set}
use Rattle.job_run.proofs.body.Body.die.Goals as goal

pub returns : goal.returns
returns g c =
    let hands = c.args.self.now.side.hands.items in
    let low = has_hand g.W.Works.is_of g.W.Works.running g.W.Works.picks_of (all_but c.args.place) c.args.self.now c.args.place c.args.actor
    c.requires.holds c.requires.actor in
    is_dead g.W.Works.is_of g.W.Works.running g.W.Works.picks_of c.picks_go.ensures.doing c.args.self.now c.args.place
    (record { actor = c.args.actor; end = _ })
    (all_but c.args.place)
    c.end.new.self c.tell_end.new.finished _ c.requires.actor c.requires.busy c.requires.during c.requires.holds c.tell_end.ensures.items
    c.tell_end.ensures.capacity
    c.end.ensures.stands (length-set hands c.args.place c.put.new.place) (λ q ne. set_other hands c.args.place q c.put.new.place ne)
    refl (λ q ne. ap not (nat_false q c.args.place ne)) (set_so hands c.args.place c.put.new.place Empty low c.put.ensures)
