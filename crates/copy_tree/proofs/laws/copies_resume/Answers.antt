use Rattle.copy_tree.proofs.Resume.{copies_resume}
use Rattle.copy_tree.proofs.laws.copies_resume.Goals as goal

pub returns : goal.returns
returns c = copies_resume
