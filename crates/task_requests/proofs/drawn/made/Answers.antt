use Rattle.std.proofs.Common.{ap, reverse, sym, ◌∙◌}
use Rattle.std.proofs.lemmas.List.{reverse-reverse}
use Rattle.task_requests.proofs.InOrder.{made_reverse}
use Rattle.task_requests.proofs.drawn.made.Goals as goal

pub returns : goal.returns
returns c = sym (reverse-reverse _) ∙ (ap reverse c.as_made.ensures ∙ sym (made_reverse c.args.known.now.drawn))
