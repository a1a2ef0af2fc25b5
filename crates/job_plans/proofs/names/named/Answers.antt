use Rattle.text_and_lists.proofs.Pieces.{others_from_bytes}
use Rattle.job_model.specs.Placed.{with_id}
use Rattle.job_plans.proofs.CutNames.{dotless_name, dotted_name}
use Rattle.std.proofs.Common.{None, Some, arith, sym, ◌∙◌, ◌≡◌}
use Rattle.std.proofs.lemmas.Result.{IfOk-weaker}
use Rattle.std.proofs.lemmas.Str.Pattern.{split_parts}
use Rattle.std.specs.Prelude.{string_bytes}
use Rattle.job_plans.proofs.names.named.Goals as goal

pub returns-in-Some : goal.returns-in-Some
returns-in-Some c =
    let cut = split_parts 46 c.args.name.now (Some (c.in-Some.stem, c.in-Some.ending)) c.in-Some.ensures.cases (omega arith) in
    let is = dotted_name c.args.job.now c.args.name.now c.in-Some.stem.now c.in-Some.ending.now cut.0
    (others_from_bytes 46 c.in-Some.stem.now cut.1) in
    IfOk-weaker c.format.result _ (λ text. string_bytes text ≡ with_id c.args.job.now c.args.name.now) (λ text h. h ∙ sym is)
    c.format.ensures.ok

pub returns-in-None : goal.returns-in-None
returns-in-None c =
    let none = split_parts 46 c.args.name.now None c.in-None.ensures.cases (omega arith) in
    let is = dotless_name c.args.job.now c.args.name.now (others_from_bytes 46 c.args.name.now none) in
    IfOk-weaker c.format-in-None.result _ (λ text. string_bytes text ≡ with_id c.args.job.now c.args.name.now) (λ text h. h ∙ sym is)
    c.format-in-None.ensures.ok
