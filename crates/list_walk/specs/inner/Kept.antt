-- Definitions beside those of `Kept` that no public contract cites.
use Rattle.std.specs.Prelude.{Bool, None, Option, Some, false, nat_lt, true, ℕ, ◌&&◌, ◌+◌, ◌-◌}

-- The place of a sweep that goes on, or None.
abbrev pub from_if : Bool → ℕ → Option ℕ
from_if true n = Some n
from_if false n = None

-- The place of the next batch among `len` keys, if there is one.
abbrev pub next_from : ℕ → ℕ → Option ℕ
next_from from len = from_if (nat_lt from len && nat_lt 1000 (len - from)) (from + 1000)
