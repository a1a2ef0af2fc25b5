use Rattle.job_model.specs.Attempts.{same_name}
use Rattle.job_model.specs.JobScript.{Script}
use Rattle.job_model.specs.Legal.{IsLegal}
use Rattle.job_model.specs.Placed.{placed}
use Rattle.job_plans.proofs.PlanBounds.{legal_at, task_is, task_told}
use Rattle.std.proofs.Common.{Some, ap, slice_get, subst, ◌∙◌, ◌≡◌}
use Rattle.std.specs.Map.{lookup}
use Rattle.job_plans.proofs.plans.task_plan.Goals as goal

pub placed-requires-clause-files : goal.placed-requires-clause-files
placed-requires-clause-files c =
    let w = c.args.script.now in
    let a = c.attempt_at.result in
    let legal : IsLegal w = subst IsLegal c.script.view_is c.script.invariant in
    let here : slice_get w.attempts c.args.place ≡ Some (a.0.now, a.1.now) = subst
    (λ (w : Script). slice_get w.attempts c.args.place ≡ Some (a.0.now, a.1.now)) c.script.view_is c.attempt_at.ensures.here in
    (legal_at w c.args.place (a.0.now, a.1.now) legal here).each

pub invariant_of-result : goal.invariant_of-result
invariant_of-result c =
    let w = c.args.script.now in
    let a = c.attempt_at.result in
    let legal : IsLegal w = subst IsLegal c.script.view_is c.script.invariant in
    let here : slice_get w.attempts c.args.place ≡ Some (a.0.now, a.1.now) = subst
    (λ (w : Script). slice_get w.attempts c.args.place ≡ Some (a.0.now, a.1.now)) c.script.view_is c.attempt_at.ensures.here in
    task_is w c.args.place c.args.minimum c.script.inside.block a.0.now a.1.now c.in-Ok.files c.in_ok-job.job c.new.result legal here
    (c.in-Ok.ensures ∙ ap (λ (w : Script). placed w.unique w.job a.1.now) c.script.view_is) c.in_ok-job.ensures
    (ap (λ (w : Script). w.block) c.script.view_is) c.requires.some c.requires.most

pub returns : goal.returns
returns c =
    let w = c.args.script.now in
    let a = c.attempt_at.result in
    let here : slice_get w.attempts c.args.place ≡ Some (a.0.now, a.1.now) = subst
    (λ (w : Script). slice_get w.attempts c.args.place ≡ Some (a.0.now, a.1.now)) c.script.view_is c.attempt_at.ensures.here in
    let found : lookup (same_name a.0.now) w.attempts ≡ Some a.1.now = subst (λ (w : Script). lookup (same_name a.0.now) w.attempts ≡ Some
    a.1.now) c.script.view_is c.attempt_at.ensures.found in
    task_told w c.args.place c.args.minimum c.script.inside.block a.0.now a.1.now c.in-Ok.files c.in_ok-job.job c.new.result here found
    (c.in-Ok.ensures ∙ ap (λ (w : Script). placed w.unique w.job a.1.now) c.script.view_is) c.in_ok-job.ensures
    (ap (λ (w : Script). w.block) c.script.view_is) c.new.ensures
