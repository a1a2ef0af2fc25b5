use Rattle.fs_ops.proofs.Names.{at_end}
use Rattle.fs_rename.proofs.Inside.{above_none, above_some}
use Rattle.fs_tree.specs.Changes.{parent}
use Rattle.fs_rename.proofs.names.place_above.Goals as goal

pub returns-in-Some : goal.returns-in-Some
returns-in-Some c =
    at_end c.of.result c.in-Some.parent.key (parent c.args.path.now.key) c.of.ensures
    (above_some c.args.path.now c.in_ok-parent.field-0 c.in-Some.parent c.in_ok-parent.ensures c.in-Some.is)

pub returns-in-None : goal.returns-in-None
returns-in-None c =
    at_end c.of-in-None.result c.args.path.now.key (parent c.args.path.now.key) c.of-in-None.ensures
    (above_none c.args.path.now c.in_ok-parent.field-0 c.in_ok-parent.ensures c.in-None.is)
