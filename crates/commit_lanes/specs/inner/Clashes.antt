-- Definitions beside those of `Clashes` that no public contract cites.
use Rattle.commit_lanes.specs.Clashes.{IsBest, Item}
use Rattle.commit_lanes.specs.declared.sharing.Clash.{Clash}
use Rattle.job_protocol.specs.LaneTable.{In}
use Rattle.std.specs.Ordering.{is_lt}
use Rattle.std.specs.Prelude.{Bool, List, None, Option, Some, cond, nat_eq, not, true, ℕ, ◌||◌, ◌≤◌}
use Rattle.text_and_lists.specs.Order.{text_cmp}

-- The lowest task that writes a key, or None if no task does.
abbrev pub IsOwner : List Item → List ℕ → Option ℕ → Type 0
IsOwner items k None = (v : ℕ) → In (k, v) items → ⊥
IsOwner items k (Some t) = In (k, t) items × ((v : ℕ) → In (k, v) items → t ≤ v)

-- The owners and the shared key that a search has found among these items.
pub record Finds (items : List Item) (owner : List ℕ → Option ℕ) (clash : Option Clash) : Type 0 where
  pub owners : (k : List ℕ) → IsOwner items k (owner k)
  pub best : IsBest items clash

-- True if a key is below the one found so far.
abbrev pub is_better : List ℕ → Option Clash → Bool
is_better k None = true
is_better k (Some c) = is_lt (text_cmp k c.key)

-- The shared key found after one more upload, of task `u`, to a key that task `t` was the first to write.
abbrev pub clash_of : List ℕ → ℕ → ℕ → Option Clash → Option Clash
clash_of k t u best = cond (nat_eq t u || not (is_better k best)) best (Some (record { key = k; first = t; second = u }))
