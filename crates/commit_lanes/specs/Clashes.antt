-- Two tasks that write the same key, found among uploads with their tasks.
use Rattle.commit_lanes.specs.declared.sharing.Clash.{Clash}
use Rattle.job_protocol.specs.LaneTable.{In}
use Rattle.pending_json.specs.declared.records.PendingSet.{PendingSet}
use Rattle.std.specs.Ordering.{is_lt}
use Rattle.std.specs.Prelude.{List, None, Option, Some, false, map, ℕ, [], ◌++◌, ◌+◌, ◌<◌, ◌∷◌, ◌≡◌}
use Rattle.text_and_lists.specs.Order.{text_cmp}

-- A key and a task that writes it.
abbrev pub Item : Type 0
Item = List ℕ × ℕ

-- The keys of the uploads of these sets with their tasks; the first set is that of task `t`.
abbrev pub items_from : ℕ → List PendingSet → List Item
items_from t [] = []
items_from t (s ∷ ss) = map (λ c. (c.destination, t)) s.commits ++ items_from (t + 1) ss

-- This is the least key that two tasks write, with the two lowest tasks that do.
pub record IsClash (items : List Item) (k : List ℕ) (t u : ℕ) : Type 0 where
  pub order : t < u
  pub first : In (k, t) items
  pub second : In (k, u) items
  pub least_tasks : (v : ℕ) → v < u → In (k, v) items → v ≡ t
  pub least_key : (q : List ℕ) (v x : ℕ) → v < x → In (q, v) items → In (q, x) items → is_lt (text_cmp q k) ≡ false

-- No two tasks write the same key.
abbrev pub NoClash : List Item → Type 0
NoClash items = (q : List ℕ) (v x : ℕ) → v < x → In (q, v) items → In (q, x) items → ⊥

-- The result of a search: the least key that two tasks write, or None if there is none.
abbrev pub IsBest : List Item → Option Clash → Type 0
IsBest items None = NoClash items
IsBest items (Some c) = IsClash items c.key c.first c.second
