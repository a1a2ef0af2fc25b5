-- Definitions beside those of `Reading` that no public contract cites.
use Rattle.std.specs.Prelude.{Bool, Result, ⊤}
use Rattle.text_and_lists.specs.Reading.{GivesBy}

-- The call changed its argument to what reading gives, unless memory ran out.
abbrev pub Makes : {F A : Type 0} → (F → Bool) → Result ⊤ F → A → Result A F → Type 0
Makes wanting result new read = GivesBy wanting (λ u. new) result read
