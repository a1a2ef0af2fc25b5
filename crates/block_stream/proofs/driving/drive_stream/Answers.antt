use Rattle.block_stream.proofs.Driven.{same_if, holds_if, stored_if}
use Rattle.block_stream.proofs.driving.drive_stream.Goals as goal

pub returns-clause-same : goal.returns-clause-same
returns-clause-same g c = same_if _ _ _ _ _ _ _ _ _ _ _ _ c.drive.result c.drive.ensures.drove

pub returns-clause-holds : goal.returns-clause-holds
returns-clause-holds g c = holds_if _ _ _ _ _ _ _ _ _ _ _ _ c.drive.result c.drive.ensures.drove

pub returns-clause-stored : goal.returns-clause-stored
returns-clause-stored g c = stored_if _ _ _ _ _ _ _ _ _ _ _ _ c.drive.result c.drive.ensures.drove
