-- An operation for the committer of the attempt's job.
use Rattle.job_model.specs.Jobs.{Task}
use Rattle.std.specs.Prelude.{◌≡◌}
use Rattle.task_operation.specs.declared.by_committer.ByCommitter.{ByCommitter}
use Rattle.task_operation.specs.declared.by_committer.ByCommitter.TheVariants.{Magic, Staging}
use Rattle.s3_types.specs.declared.request.Committer.TheVariants as committers

-- The plan is one with which the committer of its job may begin.
pub record GoesBy (magic staging : Task → Type 0) (t : Task) : Type 0 where
  pub magic_goes : t.job.committer ≡ committers.Magic → magic t
  pub staging_goes : (t.job.committer ≡ committers.Magic → ⊥) → staging t

-- Holds for what the committer keeps.
abbrev pub KeepsBy : {M S : Type 0} → (Task → M → Type 0) → (Task → S → Type 0) → Task → ByCommitter M S → Type 0
KeepsBy magic staging t (Magic m) = magic t m
KeepsBy magic staging t (Staging s) = staging t s

-- The operation that the kept values represent for their committer.
abbrev pub operation_by : {M S O : Type 0} → (Task → M → O) → (Task → S → O) → Task → ByCommitter M S → O
operation_by magic staging t (Magic m) = magic t m
operation_by magic staging t (Staging s) = staging t s
