-- Definitions beside those of `Stands` that no public contract cites.
use Rattle.job_model.specs.Attempts.{is_known}
use Rattle.job_model.specs.JobScript.{Script}
use Rattle.job_spec.specs.States.{same_actor}
use Rattle.job_spec.specs.Turns.{is_busy}
use Rattle.job_states.specs.declared.standing.Standing.{Standing}
use Rattle.s3_types.specs.declared.request.Actor.{Actor}
use Rattle.s3_types.specs.declared.request.Actor.TheVariants.{Attempt}
use Rattle.std.specs.Prelude.{Bool, List, None, Option, Some, cond, false, nat_eq, true, ℕ, [], ◌&&◌, ◌+◌, ◌||◌, ◌∷◌, ◌≡◌}

-- The reported tasks, where the task of an attempt is one of them if it is `done`.
abbrev pub told_by : Actor → Bool → (ℕ → Bool) → ℕ → Bool
told_by (Attempt task attempt) done f t = f t || (nat_eq t task && done)
told_by _ done f t = f t

-- Holds if g is f except at the actor, where it is x if the actor belongs to the job.
pub record ChangesAt (w : Script) (a : Actor) (x : Standing) (f g : Actor → Standing) : Type 0 where
  pub here : is_known w.attempts a ≡ true → g a ≡ x
  pub elsewhere : (b : Actor) → same_actor b a ≡ false → g b ≡ f b

-- The places of the busy actors; the first standing has place n.
abbrev pub busy_from : ℕ → List Standing → List ℕ
busy_from n [] = []
busy_from n (s ∷ ss) = cond (is_busy s.state.life) (n ∷ busy_from (n + 1) ss) (busy_from (n + 1) ss)

-- The first task that is not reported, or none; the first entry is that of task n.
abbrev pub first_false : ℕ → List Bool → Option ℕ
first_false n [] = None
first_false n (b ∷ bs) = cond b (first_false (n + 1) bs) (Some n)
