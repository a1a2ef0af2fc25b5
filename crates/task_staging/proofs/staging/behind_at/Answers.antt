use Rattle.job_model.specs.Files.{File}
use Rattle.std.proofs.Common.{ap, length, subst, sym, ◌<◌, ◌∙◌}
use Rattle.task_requests.proofs.Steps.{file_is}
use Rattle.task_requests.specs.Writing.{next_stage, part_behind, parts_in}
use Rattle.task_staging.proofs.staging.behind_at.Goals as goal

pub behind-requires-clause-within : goal.behind-requires-clause-within
behind-requires-clause-within c =
    let t = c.args.plan.now in
    subst (λ (f : File). c.args.sent < length (parts_in t f)) (sym (file_is t c.args.place (_, c.in-Some.bytes.now) c.in-Some.ensures.file))
    c.requires.sent

pub returns-clause-stage : goal.returns-clause-stage
returns-clause-stage c =
    let t = c.args.plan.now in
    c.behind.ensures.stage ∙ ap (λ (f : File). next_stage c.args.sent (length (parts_in t f)))
    (file_is t c.args.place (_, c.in-Some.bytes.now) c.in-Some.ensures.file)

pub returns-clause-size : goal.returns-clause-size
returns-clause-size c =
    let t = c.args.plan.now in
    c.behind.ensures.size ∙ ap (λ (f : File). length (part_behind t f.1 c.args.sent))
    (file_is t c.args.place (_, c.in-Some.bytes.now) c.in-Some.ensures.file)
