-- Whether a send of the current completion was lost, by the data that the machine keeps.
use Rattle.commit_lanes.specs.Undos.{undo_request}
use Rattle.job_commit.specs.inner.Holds.{attempts_of}
use Rattle.job_commit.specs.inner.Stages.{first_lost, lost_in, operation_of, replacing_at, reverting_from}
use Rattle.job_commit.specs.Turns.{lost_of}
use Rattle.job_commit.specs.declared.step.Step.{Step}
use Rattle.job_model.specs.Jobs.{Job}
use Rattle.job_model.specs.declared.ends.Pick.{Pick}
use Rattle.job_protocol.specs.AtWork.{Committing}
use Rattle.job_protocol.specs.JobCommits.{Sets, all_commits, completing}
use Rattle.std.proofs.Common.{List, ap, false, map, refl, [], ◌∙◌, ◌∷◌, ◌≡◌}
use Rattle.job_commit.specs.declared.step.Step.TheVariants as steps

of_step : (sets : Sets) (step : Step) → lost_in step ≡ lost_of (operation_of sets step)
of_step sets (steps.Replacing d m) = elim d.prefixes as (λ ps. false ≡ lost_of (replacing_at sets m d.sweep ps))
    [ [] ↦ refl | p ∷ ps ↦ refl ]
of_step sets (steps.Completing l) = elim l.turns as (λ xs. first_lost xs ≡ lost_of (completing sets xs l.finished))
    [ [] ↦ refl | x ∷ xs ↦ refl ]
of_step sets (steps.Reverting u m) = elim (map (undo_request (all_commits sets)) u) as (λ rs. false ≡ lost_of (reverting_from m rs))
    [ [] ↦ refl | r ∷ rs ↦ refl ]
of_step sets _ = refl

pub lost_seen : (j : Job) (sets : Sets) (picks : List Pick) (step : Step) (old : Committing)
    → record { plan = j; picked = attempts_of picks; operation = operation_of sets step } ≡ old → lost_in step ≡ lost_of old.operation
lost_seen j sets picks step old e = of_step sets step ∙ ap (λ (m : Committing). lost_of m.operation) e
