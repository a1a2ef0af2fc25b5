-- Which paths below a destination readers see (Hadoop: names that begin with `_` or `.` are hidden from listings of input).
use Rattle.std.specs.Prelude.{ℕ, List, [], ◌∷◌, Bool, true, not, ◌&&◌, ◌||◌, ◌==◌}

-- True if the byte is `_` or `.`.
abbrev pub hides : ℕ → Bool
hides b = (b == 95) || (b == 46)

-- No element of the rest of a path begins with `_` or `.`, and the last one is not empty. `begins` says whether an element begins here.
abbrev pub is_visible_from : Bool → List ℕ → Bool
is_visible_from begins [] = not begins
is_visible_from begins (b ∷ path) = not (begins && hides b) && is_visible_from (b == 47) path

-- Readers see a path that is not empty, does not end in `/`, and has no element that begins with `_` or `.`.
abbrev pub is_visible : List ℕ → Bool
is_visible path = is_visible_from true path
