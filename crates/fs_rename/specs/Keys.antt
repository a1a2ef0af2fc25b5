-- The new keys of keys that move to another place (Hadoop, S3A: renaming).
use Rattle.fs_ops.specs.Places.{key_if}
use Rattle.fs_ops.specs.code.List.{rest_of}
use Rattle.fs_tree.specs.Moves.{is_too_long}
use Rattle.std.specs.Prelude.{Err, List, None, Ok, Option, Result, Some, cond, ℕ, [], ◌++◌, ◌∷◌}

-- The target as a new place, or None if the source or the target is the root.
abbrev pub place_of : List ℕ → List ℕ → Option (List ℕ)
place_of [] t = None
place_of (x ∷ p) t = key_if t

-- The key, unless it is over its limit.
abbrev pub fitting : List ℕ → Option (List ℕ)
fitting k = cond (is_too_long k) None (Some k)

-- The text `to` and this rest of a key; without a rest the key itself.
abbrev pub new_by : Option (List ℕ) → List ℕ → List ℕ → List ℕ
new_by (Some rest) to k = to ++ rest
new_by None to k = k

-- The new key of a key: its rest after `from`, put after `to`. A key that does not begin with `from` stays as it is.
abbrev pub new_key : List ℕ → List ℕ → List ℕ → List ℕ
new_key from to k = new_by (rest_of from k) to k

-- These new keys followed by the others, or the first key that would be too long.
abbrev pub with_front : List (List ℕ) → Result (List (List ℕ)) (List ℕ) → Result (List (List ℕ)) (List ℕ)
with_front front (Ok qs) = Ok (front ++ qs)
with_front front (Err k) = Err k

-- The new keys of all keys, or the first key whose new key would be over the limit.
abbrev pub new_keys : List ℕ → List ℕ → List (List ℕ) → Result (List (List ℕ)) (List ℕ)
new_keys from to [] = Ok []
new_keys from to (k ∷ ks) = cond (is_too_long (new_key from to k)) (Err k) (with_front (new_key from to k ∷ []) (new_keys from to ks))
