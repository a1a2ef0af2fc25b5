use Rattle.job_run.proofs.Finishes.{is_over}
use Rattle.job_run.specs.Holds.{all_sound}
use Rattle.std.proofs.Common.{refl}
use Rattle.job_run.proofs.body.Body.over.Goals as goal

pub returns : goal.returns
returns g c =
    is_over g.W.Works.is_of g.W.Works.running g.W.Works.picks_of c.picks_go.ensures.doing c.args.self.now c.args.place
    (record { actor = c.args.actor; end = c.args.end }) all_sound
    c.end.new.self c.tell_end.new.finished c.args.self.now.side.hands c.requires.actor c.requires.busy c.requires.during c.requires.holds
    c.tell_end.ensures.items
    c.tell_end.ensures.capacity
    c.end.ensures.stands refl (λ q ne. refl) g.W.Acts.end_of c.laws.ensures.ends (λ q. refl) (λ q. refl) c.requires.ended
