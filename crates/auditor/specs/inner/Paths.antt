-- Sets of paths below a destination.
use Rattle.std.specs.Prelude.{ℕ, List, Bool, Option, map}
use Rattle.std.specs.List.{list_any}
use Rattle.text_and_lists.specs.Order.{text_eq}
use Rattle.audit_claims.specs.Claims.{Tags}
use Rattle.audit_judge.specs.declared.change.Change.{Change}

-- True if the path is one of these.
abbrev pub has_path : List ℕ → List (List ℕ) → Bool
has_path p paths = list_any (text_eq p) paths

-- The changes after which readers see these tags at each of these paths, or no file.
abbrev pub given : List (List ℕ) → Option Tags → List Change
given paths etags = map (λ p. record { path = p; etags = etags }) paths
