-- The place of an upload among the sets, by its number.
use Rattle.commit_lanes.specs.declared.places.Place.{Place}
use Rattle.pending_json.specs.declared.records.PendingSet.{PendingSet}
use Rattle.std.specs.Prelude.{List, length, suc, zero, ℕ, [], ◌++◌, ◌+◌, ◌∷◌}

-- The places of the first n uploads of a set.
abbrev pub row : ℕ → ℕ → List Place
row set zero = []
row set (suc n) = row set n ++ record { set = set; index = n } ∷ []

-- The places of the uploads of these sets; the first set has index `n`.
abbrev pub places_from : ℕ → List PendingSet → List Place
places_from n [] = []
places_from n (s ∷ ss) = row n (length s.commits) ++ places_from (n + 1) ss
