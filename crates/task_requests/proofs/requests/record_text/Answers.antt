use Rattle.job_model.specs.Jobs.{Task}
use Rattle.job_model.specs.Known.{Drawn}
use Rattle.job_protocol.specs.AtWork.{task_script, who_of}
use Rattle.job_protocol.specs.Records.{record_text}
use Rattle.pending_json.specs.Pending.{Pending}
use Rattle.pending_json.specs.Trees.{pending_tree}
use Rattle.serde_json.specs.Written.{compact_text}
use Rattle.std.proofs.Common.{ap, slice_get, ◌∙◌}
use Rattle.task_requests.proofs.Steps.{ok_as, record_last, record_sizes, record_tags}
use Rattle.task_requests.proofs.requests.record_text.Goals as goal

pub pending-requires-clause-tags : goal.pending-requires-clause-tags
pending-requires-clause-tags c = record_tags c.args.plan.now (c.args.path.now, c.args.bytes.now) c.in-Some.drawn.now
    (c.in-Some.ensures ∙ ap (λ (t : Task). slice_get t.known.drawn 0) c.plan.view_is) c.requires.sent

pub pending-requires-clause-sizes : goal.pending-requires-clause-sizes
pending-requires-clause-sizes c = record_sizes c.args.plan.now (c.args.path.now, c.args.bytes.now) c.in-Some.drawn.now
    (c.in-Some.ensures ∙ ap (λ (t : Task). slice_get t.known.drawn 0) c.plan.view_is) c.requires.sent

pub returns : goal.returns
returns c = ok_as c.print-text.result _ _ c.print-text.ensures
    (ap (λ (p : Pending). compact_text (pending_tree p)) c.in_ok-pending.ensures
    ∙ ap (λ (d : Drawn). record_text (task_script c.args.plan.now) (who_of c.args.plan.now) (c.args.path.now, c.args.bytes.now) d)
    (record_last c.args.plan.now (c.args.path.now, c.args.bytes.now) c.in-Some.drawn.now
    (c.in-Some.ensures ∙ ap (λ (t : Task). slice_get t.known.drawn 0) c.plan.view_is) c.requires.sent))
