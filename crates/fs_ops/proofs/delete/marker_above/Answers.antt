use Rattle.dir_markers.specs.Markers.{deleted}
use Rattle.fs_ops.proofs.MarkerAbove.{marker_parent, root_marker}
use Rattle.fs_ops.proofs.Names.{at_end}
use Rattle.fs_tree.specs.Changes.{marker_if, parent}
use Rattle.std.proofs.Common.{false}
use Rattle.fs_ops.proofs.delete.marker_above.Goals as goal

pub returns-in-Some : goal.returns-in-Some
returns-in-Some c =
    at_end c.after_delete.result (deleted c.in-Some.parent false) (marker_if (parent c.args.path.now.key)) c.after_delete.ensures
    (marker_parent c.args.path.now c.in_ok-parent.field-0 c.in-Some.parent c.in_ok-parent.ensures c.in-Some.is)

pub returns-in-None : goal.returns-in-None
returns-in-None c = root_marker c.args.path.now c.in_ok-parent.field-0 c.in_ok-parent.ensures c.in-None.is
