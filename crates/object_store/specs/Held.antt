-- What the tree of a bucket's objects stores.
use Rattle.object_store.specs.declared.objects.Held.{Held}
use Rattle.s3_types.specs.declared.object.Object.{Object}
use Rattle.std.specs.Prelude.{List, map, ℕ}

-- The objects by the texts of their keys.
abbrev pub contents : List (List ℕ × Held) → List (List ℕ × Object)
contents es = map (λ e. (e.0, e.1.object)) es

-- The stored keys with their objects.
abbrev pub lent : List (List ℕ × Held) → List (List ℕ × Object)
lent es = map (λ e. (e.1.key, e.1.object)) es
