-- The paths of files, and the keys of destinations.
use Rattle.text_and_lists.specs.Parts.{parts_of}
use Rattle.std.specs.List.{ends_with, list_all, list_any}
use Rattle.std.specs.Prelude.{Bool, List, bytes_eq, codes, false, length, nat_eq, nat_le, nat_lt, not, ℕ, [], ◌&&◌, ◌||◌, ◌∷◌}

-- True if the element is not empty.
abbrev pub is_full : List ℕ → Bool
is_full element = nat_lt 0 (length element)

-- True if this may be a file's path: it has 1 to 400 bytes and no empty element, and does not end in `.pending`.
abbrev pub is_path : List ℕ → Bool
is_path path = nat_le 1 (length path) && nat_le (length path) 400 && list_all is_full (parts_of 47 path) && not
    (ends_with nat_eq path (codes ".pending"))

-- True if the element begins with `_` or `.`.
abbrev pub begins_hidden : List ℕ → Bool
begins_hidden [] = false
begins_hidden (b ∷ bs) = nat_eq b 95 || nat_eq b 46

-- True if some element of the path begins with `_` or `.`.
abbrev pub is_hidden : List ℕ → Bool
is_hidden path = list_any begins_hidden (parts_of 47 path)

-- True if the element is `__magic` or `__base`.
abbrev pub is_reserved : List ℕ → Bool
is_reserved element = bytes_eq element (codes "__magic") || bytes_eq element (codes "__base")

-- True if this may be a destination's key: it has 1 to 400 bytes, no CR at its end, and no element `__magic` or `__base`.
abbrev pub is_dest_key : List ℕ → Bool
is_dest_key key = nat_le 1 (length key) && nat_le (length key) 400 && not (ends_with nat_eq key (13 ∷ [])) && not
    (list_any is_reserved (parts_of 47 key))
