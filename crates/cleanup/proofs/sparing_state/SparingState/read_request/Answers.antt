use Rattle.cleanup.proofs.SparingPlaces.{reads_file, reads_key}
use Rattle.cleanup.specs.inner.Places.{get_asks, get_file_asks}
use Rattle.job_model.specs.Jobs.{Job}
use Rattle.job_protocol.specs.AtWork.{job_script}
use Rattle.s3_types.specs.declared.request.Request.{Request}
use Rattle.std.proofs.Common.{IfOk, Option, ap, drop, subst, sym, ◌∙◌, ◌≡◌}
use Rattle.cleanup.proofs.sparing_state.SparingState.read_request.Goals as goal

pub returns-in-Magic : goal.returns-in-Magic
returns-in-Magic c =
    let P : Option Request → Type 0 = λ v. IfOk c.get_request.result (λ request. request ≡ v) in
    let h = c.args.self.now in
    let committer = λ (j : Job). j.committer in
    let bucket = λ (j : Job). j.dest.bucket in
    let b = c.bucket.ensures ∙ ap bucket c.plan.view_is in
    let l = c.as_slice.ensures in
    subst P ((λ i. get_asks (b i) (drop c.args.self.now.at (l i))) ∙ reads_key (job_script c.args.plan.now) c.args.plan.now.committer h
    (sym (ap committer c.plan.view_is) ∙ c.in-Magic.is)) c.get_request.ensures

pub returns-in_default : goal.returns-in_default
returns-in_default c =
    let P : Option Request → Type 0 = λ v. IfOk c.get_file_request.result (λ request. request ≡ v) in
    let h = c.args.self.now in
    let committer = λ (j : Job). j.committer in
    subst P (ap (λ l. get_file_asks (drop c.args.self.now.at l)) c.as_slice-in_default.ensures ∙ reads_file (job_script c.args.plan.now)
    c.args.plan.now.committer h (λ e. c.in_default.not-Magic (ap committer c.plan.view_is ∙ e))) c.get_file_request.ensures
