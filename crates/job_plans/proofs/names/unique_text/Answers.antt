use Rattle.job_model.specs.Placed.{unique_name}
use Rattle.job_plans.proofs.CutNames.{name_alone, path_with_name}
use Rattle.path_keys.proofs.Last.{cut_last, no_slash}
use Rattle.std.proofs.Common.{sym, ◌∙◌, ◌≡◌}
use Rattle.std.proofs.lemmas.Result.{IfOk-weaker}
use Rattle.std.specs.Prelude.{string_bytes}
use Rattle.job_plans.proofs.names.unique_text.Goals as goal

pub returns-in-Some : goal.returns-in-Some
returns-in-Some c =
    let cut = cut_last c.args.path.now c.in-Some.dir.now c.in-Some.name.now c.in-Some.ensures.cases in
    let is = path_with_name c.args.job.now c.args.path.now c.in-Some.dir.now c.in-Some.name.now cut.0 cut.1 in
    IfOk-weaker c.named_below.result _ (λ text. string_bytes text ≡ unique_name c.args.path.now c.args.job.now) (λ text h. h ∙ sym is)
    c.named_below.ensures

pub returns-in-None : goal.returns-in-None
returns-in-None c =
    let is = name_alone c.args.job.now c.args.path.now (no_slash c.args.path.now c.in-None.ensures.cases) in
    IfOk-weaker c.named.result _ (λ text. string_bytes text ≡ unique_name c.args.path.now c.args.job.now) (λ text h. h ∙ sym is)
    c.named.ensures
