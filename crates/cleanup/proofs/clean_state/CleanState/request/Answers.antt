use Rattle.cleanup.proofs.Places.{asks_at_aborting, asks_at_removing}
use Rattle.cleanup.specs.inner.Places.{abort_asks, remove_asks}
use Rattle.job_model.specs.Jobs.{Job}
use Rattle.job_protocol.specs.AtWork.{job_script}
use Rattle.s3_types.specs.declared.request.Request.{Request}
use Rattle.std.proofs.Common.{IfOk, Option, ap, drop, subst, ◌∙◌, ◌≡◌}
use Rattle.cleanup.proofs.clean_state.CleanState.request.Goals as goal

pub returns-in-Aborting : goal.returns-in-Aborting
returns-in-Aborting c =
    let P : Option Request → Type 0 = λ v. IfOk c.abort_request.result (λ request. request ≡ v) in
    let h = c.args.self.now in
    let bucket = λ (j : Job). j.dest.bucket in
    let b = c.bucket.ensures ∙ ap bucket c.plan.view_is in
    let l = c.as_slice.ensures ∙ c.found.ensures in
    subst P ((λ i. abort_asks (b i) (drop c.args.self.now.at (l i))) ∙ asks_at_aborting (job_script c.args.plan.now) h.stage h.uploads
    h.sweep h.paths h.at c.in-Aborting.is) c.abort_request.ensures

pub returns-in-Removing : goal.returns-in-Removing
returns-in-Removing c =
    let P : Option Request → Type 0 = λ v. IfOk c.remove_request.result (λ request. request ≡ v) in
    let h = c.args.self.now in
    subst P (ap (λ l. remove_asks (drop c.args.self.now.at l)) c.as_slice-in-Removing.ensures ∙ asks_at_removing
    (job_script c.args.plan.now) h.stage h.uploads h.sweep h.paths h.at c.in-Removing.is) c.remove_request.ensures
