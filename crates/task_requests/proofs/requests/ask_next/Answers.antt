use Rattle.job_model.specs.Jobs.{Task}
use Rattle.job_model.specs.Known.{Drawn}
use Rattle.job_protocol.specs.AtWork.{task_script}
use Rattle.job_protocol.specs.Knowledge.{first_drawn}
use Rattle.job_protocol.specs.Records.{file_key}
use Rattle.s3_types.specs.declared.request.Request.TheVariants.{UploadPart}
use Rattle.std.proofs.Common.{List, Some, ap, arith, slice_get, ℕ, ◌+◌, ◌∙◌, ◌≡◌}
use Rattle.task_requests.proofs.Steps.{ok_as}
use Rattle.task_requests.specs.Writing.{part_behind}
use Rattle.task_requests.proofs.requests.ask_next.Goals as goal

first_is : (ds : List Drawn) (d : Drawn) → Some d ≡ slice_get ds 0 → d ≡ first_drawn ds
first_is ds d h = grind arith

pub returns : goal.returns
returns c =
    let t : Task = c.args.plan.now in
    let part : List ℕ = part_behind t c.args.bytes.now c.args.sent in
    ok_as c.ask_part.result _ _ c.ask_part.ensures
    (ap (λ (d : Drawn). UploadPart t.job.dest.bucket c.in_ok-key.key d.upload (c.args.sent + 1) part) c.drawn.view_is
    ∙ ap (λ (k : List ℕ). UploadPart t.job.dest.bucket k c.in-Some.drawn.now.upload (c.args.sent + 1) part) c.in_ok-key.ensures
    ∙ ap (λ (d : Drawn). UploadPart t.job.dest.bucket (file_key (task_script t) (c.args.path.now, c.args.bytes.now)) d.upload
    (c.args.sent + 1) part)
    (first_is t.known.drawn c.in-Some.drawn.now (c.in-Some.ensures ∙ ap (λ (t : Task). slice_get t.known.drawn 0) c.plan.view_is)))
