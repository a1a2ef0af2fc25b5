use Rattle.job_states.proofs.PlaceLemmas.{put_nowhere, put_there}
use Rattle.job_states.proofs.places.put_standing.Goals as goal

pub returns-in-None : goal.returns-in-None
returns-in-None c = λ f g is change. put_nowhere c.args.script.now c.args.actor c.args.standing f g c.args.standings.now.items
    c.in-None.ensures is change

pub returns-then-place-len : goal.returns-then-place-len
returns-then-place-len c = λ f g is change. put_there c.args.script.now c.args.actor c.in-Some.place c.args.standing f g
    c.args.standings.now.items c.in-Some.ensures is change
