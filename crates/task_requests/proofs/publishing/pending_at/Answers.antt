use Rattle.text_and_lists.specs.Order.{text_eq}
use Rattle.indexmap.specs.IndexMap.{get}
use Rattle.job_model.specs.Jobs.{Task}
use Rattle.job_protocol.specs.Knowledge.{as_made}
use Rattle.std.proofs.Common.{ap, slice_get, ◌∙◌}
use Rattle.task_requests.proofs.LastDrawn.{drawn_sizes, drawn_tags, not_behind, not_none, same_record}
use Rattle.task_requests.proofs.Steps.{ok_as}
use Rattle.task_requests.proofs.publishing.pending_at.Goals as goal

pub unreachable-requires-in_default-get : goal.unreachable-requires-in_default-get
unreachable-requires-in_default-get c = not_none c.args.plan.now c.args.place (c.in-Some.path.now, c.in-Some.bytes.now) c.as_text.result.now
    (get text_eq c.args.last.now c.as_text.result.now) c.in-Some.ensures.file (c.as_text.ensures.text ∙ c.in_ok-key.ensures)
    (c.requires.last c.as_text.result.now) c.requires.ready c.in_default-get.ensures.value

pub unreachable-requires-in_default-made_at : goal.unreachable-requires-in_default-made_at
unreachable-requires-in_default-made_at c = not_behind c.args.plan.now c.args.place (c.in-Some.path.now, c.in-Some.bytes.now)
    c.as_text.result.now (get text_eq c.args.last.now c.as_text.result.now) c.in-Some.ensures.file
    (c.as_text.ensures.text ∙ c.in_ok-key.ensures) (c.requires.last c.as_text.result.now) c.requires.ready
    c.in-Some-get.last.now c.in-Some-get.ensures.value (c.in_default-made_at.ensures ∙ ap
    (λ (t : Task). slice_get (as_made t.known.drawn) c.in-Some-get.last.now) c.plan.view_is)

pub pending-requires-clause-tags : goal.pending-requires-clause-tags
pending-requires-clause-tags c = drawn_tags c.args.plan.now c.args.place (c.in-Some.path.now, c.in-Some.bytes.now) c.as_text.result.now
    (get text_eq c.args.last.now c.as_text.result.now) c.in-Some.ensures.file (c.as_text.ensures.text ∙ c.in_ok-key.ensures)
    (c.requires.last c.as_text.result.now) c.requires.ready
    c.in-Some-get.last.now c.in-Some-made_at.drawn.now c.in-Some-get.ensures.value
    (c.in-Some-made_at.ensures ∙ ap (λ (t : Task). slice_get (as_made t.known.drawn) c.in-Some-get.last.now) c.plan.view_is)

pub pending-requires-clause-sizes : goal.pending-requires-clause-sizes
pending-requires-clause-sizes c = drawn_sizes c.args.plan.now c.args.place (c.in-Some.path.now, c.in-Some.bytes.now) c.as_text.result.now
    (get text_eq c.args.last.now c.as_text.result.now) c.in-Some.ensures.file (c.as_text.ensures.text ∙ c.in_ok-key.ensures)
    (c.requires.last c.as_text.result.now) c.requires.ready
    c.in-Some-get.last.now c.in-Some-made_at.drawn.now c.in-Some-get.ensures.value
    (c.in-Some-made_at.ensures ∙ ap (λ (t : Task). slice_get (as_made t.known.drawn) c.in-Some-get.last.now) c.plan.view_is)

pub returns : goal.returns
returns c = ok_as c.pending.result _ _ c.pending.ensures
    (same_record c.args.plan.now c.args.place (c.in-Some.path.now, c.in-Some.bytes.now) c.as_text.result.now
    (get text_eq c.args.last.now c.as_text.result.now) c.in-Some.ensures.file (c.as_text.ensures.text ∙ c.in_ok-key.ensures)
    (c.requires.last c.as_text.result.now) c.requires.ready
    c.in-Some-get.last.now c.in-Some-made_at.drawn.now c.in-Some-get.ensures.value
    (c.in-Some-made_at.ensures ∙ ap (λ (t : Task). slice_get (as_made t.known.drawn) c.in-Some-get.last.now) c.plan.view_is))
