-- The order of the lanes, in terms of numbers: the next lane in cyclic order that has an upload not yet answered, and its first one.
use Rattle.job_model.specs.JobScript.{Script}
use Rattle.job_protocol.specs.JobCommits.{Commit, Completing, commit_tells}
use Rattle.job_protocol.specs.LaneTable.{In}
use Rattle.s3_types.specs.declared.journal.Entry.{Entry}
use Rattle.std.specs.Prelude.{List, cond, nat_eq, nat_le, ℕ, [], ◌%◌, ◌+◌, ◌-◌, ◌<◌, ◌∷◌, ◌≡◌, ◌≤◌}

-- The number of steps from lane `from` to this one, in cyclic order.
abbrev pub distance : ℕ → ℕ → ℕ → ℕ
distance lanes from lane = cond (nat_le from lane) (lane - from) ((lane + lanes) - from)

-- The lane after this one, in cyclic order.
abbrev pub after_lane : ℕ → ℕ → ℕ
after_lane lanes lane = cond (nat_eq (lane + 1) lanes) 0 (lane + 1)

-- Holds if upload n is the next one from this lane on, where `done` are answered.
pub record IsNext (lanes total : ℕ) (done : List ℕ) (from n : ℕ) : Type 0 where
  pub within : n < total
  pub unanswered : In n done → ⊥
  -- Each lower upload of its lane is done.
  pub least : (m : ℕ) → m < n → m % lanes ≡ n % lanes → In m done
  -- No lane that comes before has an upload that is not done.
  pub nearest : (m : ℕ) → m < total → (In m done → ⊥) → distance lanes from (n % lanes) ≤ distance lanes from (m % lanes)

-- The lane after the one whose turn it is.
abbrev pub next_lane : ℕ → ℕ → Commit → ℕ
next_lane lanes from (Completing sets x xs done) = after_lane lanes (x.number % lanes)
next_lane lanes from _ = from

-- The lane that is asked first after these sends: lane 0 at the start, later the one after the last that sent.
abbrev pub lane_after : Script → Commit → ℕ → List Entry → ℕ
lane_after w c from [] = from
lane_after w c from (e ∷ es) = lane_after w (commit_tells w c e.outcome) (next_lane w.lanes from c) es
