use Rattle.job_model.specs.Jobs.{Task}
use Rattle.std.proofs.Common.{ap, slice_get, sym, ◌∙◌}
use Rattle.task_requests.proofs.Steps.{file_is}
use Rattle.task_staging.proofs.Records.{last_sizes, last_tags}
use Rattle.task_staging.proofs.Staged.{grown, record_at}
use Rattle.task_staging.proofs.staging.add_record.Goals as goal

pub pending_with-requires-clause-tags : goal.pending_with-requires-clause-tags
pending_with-requires-clause-tags c =
    let t = c.args.plan.now in
    last_tags t c.args.place c.args.part.now.tag c.args.part.now.size c.requires (c.in-Some.path.now, c.in-Some.bytes.now)
    (sym (file_is t c.args.place (c.in-Some.path.now, c.in-Some.bytes.now) c.in-Some.ensures.file)) c.in-Some-last_drawn.drawn.now
    (c.in-Some-last_drawn.ensures ∙ ap (λ (x : Task). slice_get x.known.drawn 0) c.plan.view_is)

pub pending_with-requires-clause-sizes : goal.pending_with-requires-clause-sizes
pending_with-requires-clause-sizes c =
    let t = c.args.plan.now in
    last_sizes t c.args.place c.args.part.now.tag c.args.part.now.size c.requires (c.in-Some.path.now, c.in-Some.bytes.now)
    (sym (file_is t c.args.place (c.in-Some.path.now, c.in-Some.bytes.now) c.in-Some.ensures.file)) c.in-Some-last_drawn.drawn.now
    (c.in-Some-last_drawn.ensures ∙ ap (λ (x : Task). slice_get x.known.drawn 0) c.plan.view_is)

pub returns : goal.returns
returns c =
    let t = c.args.plan.now in
    grown c.push.result _ _ _ _ c.push.ensures.ok (c.in_ok-record.ensures ∙ record_at t c.args.place c.args.part.now.size
    c.args.part.now.tag (c.in-Some.path.now, c.in-Some.bytes.now) c.in-Some-last_drawn.drawn.now c.in-Some.ensures.file
    (c.in-Some-last_drawn.ensures ∙ ap (λ (x : Task). slice_get x.known.drawn 0) c.plan.view_is))
