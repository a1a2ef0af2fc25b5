-- Pages without a delimiter, in which each key is its own entry.
use Rattle.text_and_lists.specs.Order.{text_cmp}
use Rattle.object_store.specs.declared.objects.Held.{Held}
use Rattle.s3_types.specs.Pages.{begins}
use Rattle.s3_types.specs.declared.reply.PageEntry.{PageEntry}
use Rattle.s3_types.specs.declared.reply.PageEntry.TheVariants.{Object as Single}
use Rattle.std.specs.List.{filter}
use Rattle.std.specs.Ordering.{is_lt}
use Rattle.std.specs.Prelude.{List, false, length, map, ℕ, [], ◌∷◌, ◌≡◌}

-- The entry of a single key, with the length of its object in bytes.
abbrev pub single : List ℕ → Held → PageEntry
single key held = Single key (length held.object.bytes)

-- The entries of the keys that begin with p.
abbrev pub below : List ℕ → List (List ℕ × Held) → List PageEntry
below p es = map (λ e. single e.0 e.1) (filter (λ e. begins p e.0) es)

-- The keys do not fall, from p on.
abbrev pub Follows : List ℕ → List (List ℕ × Held) → Type 0
Follows p [] = Unit {0}
Follows p (e ∷ es) = (is_lt (text_cmp e.0 p) ≡ false) × Follows e.0 es
