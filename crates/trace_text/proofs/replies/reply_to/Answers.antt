use Rattle.trace_text.proofs.Due.{due_told, none_told}
use Rattle.trace_text.proofs.replies.reply_to.Goals as goal

pub returns-then-has_reached-clause-tag : goal.returns-then-has_reached-clause-tag
returns-then-has_reached-clause-tag c = due_told c.args.store.now.scene c.args.entry.now.request _ c.apply.ensures.reply

pub returns-else-has_reached-clause-tag : goal.returns-else-has_reached-clause-tag
returns-else-has_reached-clause-tag c = none_told c.args.entry.now.request
