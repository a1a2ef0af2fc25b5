use Rattle.job_model.specs.JobScript.{Script}
use Rattle.job_states.proofs.PlaceLemmas.{stands_at}
use Rattle.std.proofs.Common.{None, Some, ap, arith, suc, ◌-◌, ◌∙◌, ◌≡◌}
use Rattle.job_states.proofs.places.actor_at.Goals as goal

pub returns-in-Some : goal.returns-in-Some
returns-in-Some c =
    let at : suc (c.args.place - 1) ≡ c.args.place = omega arith in
    stands_at c.args.script.now c.args.place (c.args.place - 1) c.held.result.now.entries
    (Some (c.in-Some.name.now, c.in-Some.field-0-1.now)) (c.held.ensures ∙ ap (λ (w : Script). w.attempts) c.script.view_is) at
    c.in-Some.ensures.entry

pub returns-in-None : goal.returns-in-None
returns-in-None c =
    let at : suc (c.args.place - 1) ≡ c.args.place = omega arith in
    stands_at c.args.script.now c.args.place (c.args.place - 1) c.held.result.now.entries None
    (c.held.ensures ∙ ap (λ (w : Script). w.attempts) c.script.view_is) at c.in-None.ensures.entry
