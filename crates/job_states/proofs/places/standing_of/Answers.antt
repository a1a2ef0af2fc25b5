use Rattle.job_states.proofs.PlaceLemmas.{found_there}
use Rattle.std.proofs.Common.{length, refl}
use Rattle.std.proofs.lemmas.Option.{slice_get_read}
use Rattle.job_states.proofs.places.standing_of.Goals as goal

pub returns-in-Some-get-clause-known : goal.returns-in-Some-get-clause-known
returns-in-Some-get-clause-known c = λ f is known.
    let all = c.args.standings.now in
    let h = c.in-Some-get.ensures.lookup in
    found_there c.args.script.now c.args.actor c.in-Some.place c.in-Some-get.standing.now f all c.in-Some.ensures is
    (slice_get_read all (length all) c.in-Some.place c.in-Some-get.standing.now refl h.3.0 h.1)
