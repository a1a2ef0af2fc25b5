-- The bounds of a path's key.
use Rattle.path_keys.specs.Paths.{is_key}
use Rattle.s3_types.specs.Names.{are_elements}
use Rattle.std.proofs.Common.{List, arith, length, nat_le, refl, true, ℕ, [], ◌<◌, ◌∷◌, ◌≡◌, ◌≤◌}
use Rattle.std.proofs.lemmas.Bool.{and_parts, le-leb, leb-true}

-- A key that is not the root's consists of elements and has at most 1,023 bytes.
pub some_key : (key : List ℕ) → 0 < length key → is_key key ≡ true → (are_elements key ≡ true) × (length key ≤ 1023)
some_key [] some h = absurd (omega arith)
some_key (x ∷ xs) some h = let parts = and_parts (are_elements (x ∷ xs)) (nat_le (length (x ∷ xs)) 1023) h in
    (parts.0, leb-true (length (x ∷ xs)) 1023 parts.1)

-- Elements of at most 1,023 bytes are a key.
pub key_from : (key : List ℕ) → are_elements key ≡ true → length key ≤ 1023 → is_key key ≡ true
key_from [] h short = refl
key_from (x ∷ xs) h short = rw h (le-leb (length (x ∷ xs)) 1023 short)
