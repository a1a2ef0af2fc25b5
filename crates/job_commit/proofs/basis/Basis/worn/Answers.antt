use Rattle.job_commit.proofs.Goings.{worn_deletion}
use Rattle.job_commit.proofs.basis.Basis.worn.Goals as goal

pub returns-in-Replacing-clause-ok : goal.returns-in-Replacing-clause-ok
returns-in-Replacing-clause-ok c = worn_deletion c.args.self.now.plan c.args.self.now.sets c.args.self.now.places c.args.step
    c.in-Replacing.field-0 c.in-Replacing.field-1 c.args.lost _ c.in-Replacing.is c.requires.step c.requires.missed
    c.end-in-Replacing.ensures
