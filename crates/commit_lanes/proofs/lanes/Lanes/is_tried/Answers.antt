use Rattle.std.proofs.Common.{◌∙◌}
use Rattle.commit_lanes.proofs.Trying.{tried_any}
use Rattle.commit_lanes.proofs.lanes.Lanes.is_tried.Goals as goal

pub returns : goal.returns
returns c = c.some_tried.ensures ∙ tried_any c.args.self.now.turns c.args.number
