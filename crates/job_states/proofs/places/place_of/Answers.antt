use Rattle.job_model.specs.JobScript.{Script}
use Rattle.job_states.proofs.PlaceLemmas.{attempt_place, driver_place, no_attempt_place, shell_place}
use Rattle.job_states.specs.Stands.{IsPlace}
use Rattle.s3_types.specs.declared.request.Actor.{Actor}
use Rattle.std.proofs.Common.{None, Some, ap, subst, sym, ◌+◌, ◌∙◌}
use Rattle.job_states.proofs.places.place_of.Goals as goal

pub returns-in-Driver : goal.returns-in-Driver
returns-in-Driver c = subst (λ (a : Actor). IsPlace c.args.script.now a (Some 0)) (sym c.in-Driver.is) (driver_place c.args.script.now)

pub returns-in-Some : goal.returns-in-Some
returns-in-Some c =
    subst (λ (a : Actor). IsPlace c.args.script.now a (Some (c.in-Some.index + 1))) (sym c.in-Attempt.is)
    (attempt_place c.args.script.now (record { task = c.in-Attempt.task; attempt = c.in-Attempt.attempt }) c.in-Some.index
    c.held.result.now.entries
    (c.held.ensures ∙ ap (λ (w : Script). w.attempts) c.script.view_is) c.in-Some.ensures.index c.in-Some.ensures.found
    c.in-Some.ensures.unique)

pub returns-in-None : goal.returns-in-None
returns-in-None c =
    subst (λ (a : Actor). IsPlace c.args.script.now a None) (sym c.in-Attempt.is)
    (no_attempt_place c.args.script.now (record { task = c.in-Attempt.task; attempt = c.in-Attempt.attempt }) c.held.result.now.entries
    (c.held.ensures ∙ ap (λ (w : Script). w.attempts) c.script.view_is) c.in-None.ensures.found)

pub returns-in-Shell : goal.returns-in-Shell
returns-in-Shell c = subst (λ (a : Actor). IsPlace c.args.script.now a None) (sym c.in-Shell.is) (shell_place c.args.script.now)
