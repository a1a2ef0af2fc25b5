-- Definitions beside those of `Held` that no public contract cites.
use Rattle.object_store.specs.declared.objects.Held.{Held}
use Rattle.std.specs.List.{AllByRecursion}
use Rattle.std.specs.Prelude.{List, ℕ, ◌≡◌}

-- The key stored at each text has that text.
abbrev pub AreOwn : List (List ℕ × Held) → Type 0
AreOwn es = AllByRecursion (λ e. e.1.key ≡ e.0) es
