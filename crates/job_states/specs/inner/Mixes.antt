-- Definitions beside those of `Mixes` that no public contract cites.
use Rattle.job_model.specs.declared.ends.ActorEnd.{ActorEnd}
use Rattle.job_spec.specs.Turns.{Mixing, draw}
use Rattle.job_states.specs.Mixes.{AreApart, AreGoing}
use Rattle.job_states.specs.Turning.{Table}
use Rattle.s3_types.specs.declared.journal.Entry.{Entry}
use Rattle.std.specs.Prelude.{List, Some, false, length, map, slice_get, ℕ, ◌++◌, ◌<◌, ◌^◌, ◌≡◌, ◌≤◌, ◌⊎◌}

-- Holds during a mix, while the actors at the places `busy` have more to send.
pub record Mixes (seed : ℕ) (places busy : List ℕ) (last : ℕ) (s t : Table) : Type 0 where
  pub part : List Entry
  pub ends : List ActorEnd
  pub appended : t.entries ≡ s.entries ++ part
  pub told : t.ended ≡ s.ended ++ ends
  pub mixing : Mixing seed (map s.actor places) part ends (map s.actor busy)
  pub drawn : last ≡ draw seed (length part)
  pub small : last < 2 ^ 31
  pub apart : AreApart busy
  pub going : AreGoing t busy
  pub room : length busy ≤ t.room
  pub over : (i q : ℕ) → slice_get places i ≡ Some q → (t.goes_on q ≡ false) ⊎ ((j : ℕ) × (slice_get busy j ≡ Some q))
  pub others : (q : ℕ) → ((i : ℕ) → slice_get places i ≡ Some q → ⊥) → t.goes_on q ≡ s.goes_on q
  pub among : (j q : ℕ) → slice_get busy j ≡ Some q → (i : ℕ) × (slice_get places i ≡ Some q)
  pub actors : (q : ℕ) → t.actor q ≡ s.actor q
