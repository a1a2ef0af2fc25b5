-- Files of a destination among the keys below it.
use Rattle.job_protocol.specs.Setup.{or_next, shown_path}
use Rattle.std.specs.List.{starts_with}
use Rattle.std.specs.Prelude.{List, None, Option, Some, drop, if◌then◌else◌, length, nat_eq, ℕ, [], ◌∷◌}

-- The text after a prefix, if the text begins with it.
abbrev pub path_behind : List ℕ → List ℕ → Option (List ℕ)
path_behind prefix text = if starts_with nat_eq text prefix then Some (drop (length prefix) text) else None

-- The path of a key below a destination's prefix, if readers see a file there.
abbrev pub seen_at : List ℕ → List ℕ → Option (List ℕ)
seen_at prefix text = shown_path (path_behind prefix text)

-- The first of these paths.
abbrev pub first_of : List ℕ → List (List ℕ) → Option (List ℕ)
first_of prefix [] = None
first_of prefix (k ∷ ks) = or_next (seen_at prefix k) (first_of prefix ks)
