-- The lanes of a commit as data.
use Rattle.job_protocol.specs.Lanes.{Turn, fresh_turn}
use Rattle.std.specs.Prelude.{List, None, Option, Some, cond, nat_lt, ℕ, [], ◌+◌, ◌∷◌}

-- The turns of the lanes that still have uploads to complete, and the numbers of the completed uploads, the latest first.
pub record LaneTable : Type 0 where
  pub turns : List Turn
  pub finished : List ℕ

-- The first item, if there is one.
abbrev pub first_of : {X : Type 0} → List X → Option X
first_of [] = None
first_of (x ∷ xs) = Some x

-- An optional item as a list.
abbrev pub listed : {X : Type 0} → Option X → List X
listed None = []
listed (Some x) = x ∷ []

-- The next turn of the lane of upload `n`, if there is one.
abbrev pub next_turn : ℕ → ℕ → ℕ → Option Turn
next_turn lanes total n = cond (nat_lt (n + lanes) total) (Some (fresh_turn (n + lanes))) None
