use Rattle.commit_lanes.specs.Fitting.{FitsReply}
use Rattle.job_commit.proofs.Steps.{deletion_told, fits_deletion}
use Rattle.job_commit.specs.inner.Stages.{operation_of}
use Rattle.job_commit.specs.declared.step.Step.{Step}
use Rattle.std.proofs.Common.{subst}
use Rattle.job_commit.proofs.basis.Basis.heard.Goals as goal

pub hear_deletion-requires-clause-all : goal.hear_deletion-requires-clause-all
hear_deletion-requires-clause-all c = (c.requires.step.deletes c.in-Replacing.deletion c.in-Replacing.field-1 c.in-Replacing.is).all

pub hear_deletion-requires-clause-spared : goal.hear_deletion-requires-clause-spared
hear_deletion-requires-clause-spared c = (c.requires.step.deletes c.in-Replacing.deletion c.in-Replacing.field-1 c.in-Replacing.is).spared

pub hear_deletion-requires-clause-fits : goal.hear_deletion-requires-clause-fits
hear_deletion-requires-clause-fits c =
    fits_deletion c.args.self.now.plan c.args.self.now.sets c.in-Replacing.field-1 c.in-Replacing.deletion c.args.reply.now
    (subst (λ (s : Step). FitsReply c.args.self.now.plan (operation_of c.args.self.now.sets s) c.args.reply.now) c.in-Replacing.is
    c.requires.fits)

pub returns-in-Replacing-clause-ok : goal.returns-in-Replacing-clause-ok
returns-in-Replacing-clause-ok c =
    deletion_told c.hear_deletion.result c.args.self.now.plan c.args.self.now.sets c.args.self.now.places c.args.picks.now c.args.step
    c.in-Replacing.deletion c.in-Replacing.field-1 c.args.reply.now c.hear_deletion.new.next c.in-Replacing.is c.requires.step
    c.hear_deletion.ensures.ok
