use Rattle.conflict.specs.Deletions.{deletion_asks}
use Rattle.job_commit.specs.declared.basis.Basis.{Basis}
use Rattle.std.proofs.Common.{ap, ◌∙◌}
use Rattle.job_commit.proofs.basis.Basis.deleting.Goals as goal

pub delete_on-requires-clause-asked : goal.delete_on-requires-clause-asked
delete_on-requires-clause-asked c = c.in-Ok.ensures ∙ ap (λ b. deletion_asks b c.args.deletion)
    (c.bucket.ensures ∙ ap (λ (b : Basis). b.plan.dest.bucket) c.self.view_is)
