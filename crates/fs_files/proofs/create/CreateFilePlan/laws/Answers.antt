use Rattle.fs_files.proofs.CreateLaws.{create_asked}
use Rattle.fs_files.proofs.create.CreateFilePlan.laws.Goals as goal

pub returns-clause-asked : goal.returns-clause-asked
returns-clause-asked c = create_asked
