-- A mix of actors.
use Rattle.job_model.specs.declared.ends.ActorEnd.{ActorEnd}
use Rattle.job_spec.specs.Turns.{Mixing}
use Rattle.job_states.specs.Turning.{Table}
use Rattle.s3_types.specs.declared.journal.Entry.{Entry}
use Rattle.std.specs.Prelude.{List, Some, false, map, slice_get, true, ℕ, [], ◌++◌, ◌∷◌, ◌≡◌}

-- Holds if the number is not in the list.
abbrev pub IsNotIn : ℕ → List ℕ → Type 0
IsNotIn a [] = Unit {0}
IsNotIn a (x ∷ xs) = (x ≡ a → ⊥) × IsNotIn a xs

-- Holds if no place occurs twice.
abbrev pub AreApart : List ℕ → Type 0
AreApart [] = Unit {0}
AreApart (x ∷ xs) = IsNotIn x xs × AreApart xs

-- Holds if the actors at these places have more to send.
abbrev pub AreGoing : Table → List ℕ → Type 0
AreGoing s places = (i q : ℕ) → slice_get places i ≡ Some q → s.goes_on q ≡ true

-- Holds if the actors at these places were mixed until none had more to send.
pub record Mixed (seed : ℕ) (places : List ℕ) (s t : Table) : Type 0 where
  pub part : List Entry
  pub ends : List ActorEnd
  pub appended : t.entries ≡ s.entries ++ part
  pub told : t.ended ≡ s.ended ++ ends
  pub mixing : Mixing seed (map s.actor places) part ends []
  pub over : (i q : ℕ) → slice_get places i ≡ Some q → t.goes_on q ≡ false
  pub others : (q : ℕ) → ((i : ℕ) → slice_get places i ≡ Some q → ⊥) → t.goes_on q ≡ s.goes_on q
  pub actors : (q : ℕ) → t.actor q ≡ s.actor q
