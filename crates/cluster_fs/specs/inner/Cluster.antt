-- Definitions beside those of `Cluster` that no public contract cites.
use Rattle.std.specs.Ordering.{is_lt}
use Rattle.std.specs.Prelude.{List, false, ℕ, [], ◌∷◌, ◌≡◌}
use Rattle.text_and_lists.specs.Order.{text_cmp}

-- The paths do not fall, from p on.
abbrev pub Follows : List ℕ → List (List ℕ) → Type 0
Follows p [] = Unit {0}
Follows p (k ∷ ks) = (is_lt (text_cmp k p) ≡ false) × Follows k ks
