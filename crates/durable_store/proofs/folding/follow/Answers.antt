use Rattle.std.proofs.Common.{sym, ◌∙◌}
use Rattle.durable_store.proofs.Following.{others}
use Rattle.durable_store.proofs.folding.follow.Goals as goal

pub returns-then-not-is_changing : goal.returns-then-not-is_changing
returns-then-not-is_changing c = sym (others c.args.service.now c.args.change.now (sym c.is_changing.ensures ∙ c.if-not-is_changing.true))
