-- A destination, and the keys below it.
use Rattle.std.specs.Prelude.{ℕ, List, [], ◌∷◌, Option, Some, None, cond, drop, length, nat_eq, ◌≡◌}
use Rattle.std.specs.List.{starts_with}
use Rattle.path_keys.specs.Paths.{Path, below}
use Rattle.audit_model.specs.Recorded.{marker_key}

-- The texts that a destination keeps: the prefix of the keys below it, and the key of its success marker.
pub record IsSpelled (dest : Path) (front success : List ℕ) : Type 0 where
  pub front_is : front ≡ below dest.key []
  pub success_is : success ≡ marker_key dest

-- The path, if there is one, as a list.
abbrev pub in_list : Option (List ℕ) → List (List ℕ)
in_list None = []
in_list (Some p) = p ∷ []

-- The text after a prefix, if the text begins with it.
abbrev pub behind : (prefix text : List ℕ) → Option (List ℕ)
behind prefix text = cond (starts_with nat_eq text prefix) (Some (drop (length prefix) text)) None
