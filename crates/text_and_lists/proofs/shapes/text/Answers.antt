use Rattle.text_and_lists.proofs.Counts.{text_known}
use Rattle.text_and_lists.proofs.shapes.text.Goals as goal

pub returns : goal.returns
returns c = text_known c.args.rest
