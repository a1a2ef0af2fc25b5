-- A staging attempt's write is done as it begins.
use Rattle.job_model.specs.Jobs.{Task}
use Rattle.job_model.specs.declared.ends.TaskEnd.{TaskEnd}
use Rattle.job_protocol.specs.AtWork.{task_script, who_of, write_wants}
use Rattle.job_protocol.specs.Outputs.{files}
use Rattle.job_protocol.specs.Writes.{write_start, write_start_by}
use Rattle.s3_types.specs.declared.request.Committer.TheVariants.{Magic}
use Rattle.std.proofs.Common.{refl, subst, sym, ◌≡◌}
use Rattle.std.proofs.lemmas.Bool.{false≢true}
use Rattle.std.specs.Prelude.{IsSome}
use Rattle.task_operation.specs.Tasks.{at}
use Rattle.job_model.specs.declared.ends.TaskEnd.TheVariants as ends
use Rattle.job_protocol.specs.Writes as writes

pub start_is : (t : Task) → (t.job.committer ≡ Magic → ⊥) → writes.WriteOver ends.Done ≡ write_start (task_script t) (who_of t)
start_is t n = (elim t.job.committer as (λ c. (c ≡ Magic → ⊥)
    → writes.WriteOver ends.Done ≡ write_start_by c (files (task_script t) (who_of t))) [ Magic ↦ λ h. absurd (h refl) | _ ↦ λ h. refl ]) n

-- A write that has ended has no request.
pub asks_none : (t : Task) (end : TaskEnd) (o : writes.Write) → writes.WriteOver end ≡ o → IsSome (write_wants (at t o)) → ⊥
asks_none t end o e h = false≢true (subst (λ (x : writes.Write). IsSome (write_wants (at t x))) (sym e) h)
