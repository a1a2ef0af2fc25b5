use Rattle.conflict.proofs.Deleting.{none_left}
use Rattle.conflict.specs.Checks.{is_none}
use Rattle.std.proofs.Common.{ap, ◌∙◌}
use Rattle.conflict.proofs.absent.CheckAbsent.is_over.Goals as goal

pub returns : goal.returns
returns c = none_left c.self.inside.partitions c.len.result c.self.inside.at c.len.ensures ∙ ap is_none c.self.view_is
