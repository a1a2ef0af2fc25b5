-- The machine as a whole.
use Rattle.commit_lanes.specs.Fitting.{missed_of}
use Rattle.commit_lanes.specs.Undos.{undo_request}
use Rattle.commit_lanes.specs.declared.places.Place.{Place}
use Rattle.job_commit.proofs.Goings.{missed_same}
use Rattle.job_commit.proofs.Steps.{some_so}
use Rattle.job_commit.specs.inner.Holds.{Holds, StepHolds, attempts_of}
use Rattle.job_commit.specs.inner.Stages.{missed_in, operation_of, replacing_at, reverting_from}
use Rattle.job_commit.specs.declared.step.Next.{Next}
use Rattle.job_commit.specs.declared.step.Step.{Step}
use Rattle.job_model.specs.Jobs.{Job}
use Rattle.job_model.specs.declared.ends.CommitEnd.{CommitEnd}
use Rattle.job_model.specs.declared.ends.Pick.{Pick}
use Rattle.job_protocol.specs.AtWork.{Committing}
use Rattle.job_protocol.specs.JobCommits.{Commit, Sets, all_commits, commit_over, completing}
use Rattle.std.proofs.Common.{List, None, Option, Some, ap, map, refl, sym, [], ◌∙◌, ◌∷◌, ◌≡◌}
use Rattle.job_commit.specs.declared.step.Step.TheVariants as steps

-- ---- the machine's end

abbrev pub end_in : Step → Option CommitEnd
end_in (steps.Over end) = Some end
end_in _ = None

pub end_is : (j : Job) (sets : Sets) (places : List Place) (step : Step) → StepHolds j sets places step
    → end_in step ≡ commit_over (operation_of sets step)
end_is j sets places (steps.Replacing d m) s = elim d.prefixes as (λ ps. None ≡ commit_over (replacing_at sets m d.sweep ps))
    [ [] ↦ refl | p ∷ ps ↦ refl ]
end_is j sets places (steps.Completing l) s = elim l.turns as (λ xs. None ≡ commit_over (completing sets xs l.finished))
    [ [] ↦ refl | x ∷ xs ↦ refl ]
end_is j sets places (steps.Reverting u m) s =
    sym (some_so (λ u. commit_over (reverting_from m (map (undo_request (all_commits sets)) u)) ≡ None) (λ x xs. refl) u (s.some u m refl))
end_is j sets places _ s = refl

abbrev pub seen : Job → List Pick → Commit → Committing
seen j picks c = record { plan = j; picked = attempts_of picks; operation = c }

pub missed_seen : (j : Job) (sets : Sets) (places : List Place) (picks : List Pick) (next : Next) (old : Committing)
    → seen j picks (operation_of sets next.step) ≡ old → Holds j sets places picks next.step next.asked
    → missed_in next.step ≡ missed_of old.operation
missed_seen j sets places picks next old e h = missed_same j sets places next.step h.goes ∙ ap (λ (m : Committing). missed_of m.operation) e

not_over : (j : Job) (sets : Sets) (places : List Place) (step : Step) → StepHolds j sets places step
    → ((end : CommitEnd) → step ≡ steps.Over end → ⊥) → None ≡ commit_over (operation_of sets step)
not_over j sets places (steps.Over end) s absent = absurd (absent end refl)
not_over j sets places step s absent = end_is j sets places step s

pub not_over_seen : (j : Job) (sets : Sets) (places : List Place) (picks : List Pick) (next : Next) (old : Committing)
    → seen j picks (operation_of sets next.step) ≡ old → Holds j sets places picks next.step next.asked
    → ((end : CommitEnd) → next.step ≡ steps.Over end → ⊥) → None ≡ commit_over old.operation
not_over_seen j sets places picks next old e h absent = not_over j sets places next.step h.goes absent ∙ ap
    (λ (m : Committing). commit_over m.operation) e
