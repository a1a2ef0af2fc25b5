-- Changes of what readers see.
use Rattle.std.specs.Prelude.{ℕ, List, [], ◌∷◌, Option, Some, None, map}
use Rattle.std.specs.FinMap as fin
use Rattle.audit_claims.specs.Claims.{Tags}
use Rattle.audit_judge.specs.Bench.{Bench, Paths}
use Rattle.audit_judge.specs.declared.change.Change.{Change}
use Rattle.soundness.specs.declared.marker.Marker.{Marker}

-- The paths after one path is given these tags, or no file.
abbrev pub change_by : List ℕ → Option Tags → Paths → Paths
change_by path None paths = fin.remove paths path
change_by path (Some tags) paths = fin.insert paths path tags

-- The paths after one change.
abbrev pub change_one : Change → Paths → Paths
change_one c paths = change_by c.path c.etags paths

-- The paths after these changes, one after the other.
abbrev pub change_all : List Change → Paths → Paths
change_all [] paths = paths
change_all (c ∷ cs) paths = change_all cs (change_one c paths)

-- The paths that are changed.
abbrev pub paths_of : List Change → List (List ℕ)
paths_of changes = map (λ c. c.path) changes

-- The knowledge after these changes, with this marker.
abbrev pub changed : List Change → Marker → Bench → Bench
changed changes marker b = record b { shown = change_all changes b.shown; marker = marker }
