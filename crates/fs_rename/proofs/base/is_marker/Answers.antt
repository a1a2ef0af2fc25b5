use Rattle.fs_rename.proofs.NewKeys.{marker_last}
use Rattle.fs_rename.proofs.base.is_marker.Goals as goal

pub returns-in-Some : goal.returns-in-Some
returns-in-Some c = marker_last c.args.key.now c.in-Some.byte.now c.in-Some.ensures.value
