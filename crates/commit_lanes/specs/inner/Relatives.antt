-- Definitions beside those of `Relatives` that no public contract cites.
use Rattle.commit_lanes.specs.Relatives.{relative_of}
use Rattle.path_keys.specs.Paths.{Path}
use Rattle.pending_json.specs.Pending.{Pending}
use Rattle.std.specs.Prelude.{List, map, ℕ}

-- The paths of uploads below the destination.
abbrev pub paths_below : Path → List Pending → List (List ℕ)
paths_below dest cs = map (λ c. relative_of dest c.destination) cs
