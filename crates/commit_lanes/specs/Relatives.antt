-- The paths of keys below a destination.
use Rattle.path_keys.specs.Paths.{Path, relative_in}
use Rattle.std.specs.Option.{unwrap_or}
use Rattle.std.specs.Prelude.{List, ℕ, []}

-- The path of a key below the destination, or an empty path.
abbrev pub relative_of : Path → List ℕ → List ℕ
relative_of dest key = unwrap_or (relative_in dest.key key) []
