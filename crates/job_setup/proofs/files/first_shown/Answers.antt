use Rattle.job_model.specs.Jobs.{Job}
use Rattle.job_model.specs.Plans.{IsJob}
use Rattle.job_protocol.specs.AtWork.{job_script}
use Rattle.job_setup.proofs.Shown.{dest_some, first_is}
use Rattle.job_setup.specs.inner.Files.{first_of}
use Rattle.list_walk.specs.Walks.{keys_on}
use Rattle.std.proofs.Common.{IfOk, List, Option, ap, subst, ℕ, ◌++◌, ◌∙◌, ◌≡◌}
use Rattle.std.specs.Prelude.{codes}
use Rattle.job_setup.proofs.files.first_shown.Goals as goal

pub returns : goal.returns
returns c =
    let prefix = λ (j : Job). j.dest.key ++ codes "/" in
    let ks = keys_on c.args.entries.now in
    let P : Option (List ℕ) → Type 0 = λ v. IfOk c.first_behind.result (λ path. path ≡ v) in
    subst P
    (ap (λ q. first_of q ks) (c.as_str.ensures ∙ c.in_ok-prefix.ensures ∙ ap prefix c.plan.view_is)
    ∙ first_is (job_script c.args.plan.now) ks (dest_some c.args.plan.now (subst IsJob c.plan.view_is c.plan.invariant)))
    c.first_behind.ensures
