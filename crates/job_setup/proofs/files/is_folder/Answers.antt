use Rattle.std.proofs.Common.{sym}
use Rattle.job_setup.proofs.Shown.{folder_last}
use Rattle.job_setup.proofs.files.is_folder.Goals as goal

pub returns-in-Some : goal.returns-in-Some
returns-in-Some c = sym (folder_last c.args.path.now c.in-Some.last.now c.in-Some.ensures.value)
