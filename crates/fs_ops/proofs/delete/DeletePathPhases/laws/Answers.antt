use Rattle.fs_ops.proofs.DeleteLaws.{delete_asked}
use Rattle.fs_ops.proofs.delete.DeletePathPhases.laws.Goals as goal

pub returns-clause-asked : goal.returns-clause-asked
returns-clause-asked c = delete_asked
