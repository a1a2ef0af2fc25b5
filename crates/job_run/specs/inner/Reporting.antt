-- Definitions beside those of `Reporting` that no public contract cites.
use Rattle.job_actor.specs.Reports.{report_dirs}
use Rattle.job_model.specs.Attempts.{Who, actor_of}
use Rattle.job_model.specs.JobScript.{Script}
use Rattle.job_spec.specs.States.{Past, reports}
use Rattle.job_states.specs.Stands.{Kept, Stands}
use Rattle.std.specs.Prelude.{Bool, List, Option, Some, is_some, length, map, take, true, ℕ, ◌≡◌}

-- For each of the first n attempts: whether it has reported.
abbrev pub flags_to : Script → Past → ℕ → List Bool
flags_to w p n = map (λ d. p.reported (actor_of d.0)) (take n w.attempts)

-- The flags say, for each of the first n attempts, whether it has reported.
pub record AreFlags (w : Script) (s : Kept) (n : ℕ) (flags : List Bool) : Type 0 where
  pub count : length flags ≡ length (take n w.attempts)
  pub are : (p : Past) → Stands w s p → flags ≡ flags_to w p n

-- The partitions of the files of all attempts that have reported, or None if no other job shares the destination.
pub record ArePartitions (shares : Bool) (w : Script) (s : Kept) (x : Option (List (List ℕ))) : Type 0 where
  pub attempts : List Who
  pub told : is_some x ≡ shares
  pub are : (ds : List (List ℕ)) → x ≡ Some ds → ds ≡ report_dirs w attempts
  pub reported : (p : Past) → Stands w s p → shares ≡ true → attempts ≡ (reports w p.reported).attempts
