use Rattle.pending_json.proofs.Values.{tags_pass}
use Rattle.serde_json.specs.View.{items_view}
use Rattle.std.proofs.Common.{sym, ◌∙◌}
use Rattle.pending_json.proofs.tags.tags_field.Goals as goal

pub returns-then-is_count-clause-tags : goal.returns-then-is_count-clause-tags
returns-then-is_count-clause-tags c = tags_pass (items_view c.in_ok-list.list.now) c.in-Some.tags (sym c.in_ok-tags.ensures ∙ c.in-Some.is)
    (sym c.is_count.ensures ∙ c.if-is_count.true)
