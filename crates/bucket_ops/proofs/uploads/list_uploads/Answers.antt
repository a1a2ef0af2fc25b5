use Rattle.operations.proofs.Runs.{always_after}
use Rattle.bucket_ops.proofs.uploads.list_uploads.Goals as goal

pub returns-in-Ok-clause-same : goal.returns-in-Ok-clause-same
returns-in-Ok-clause-same g c = always_after c.in-Ok.ensures.performed

pub returns-in-Err-clause-same : goal.returns-in-Err-clause-same
returns-in-Err-clause-same g c = always_after c.in-Err.ensures.performed
