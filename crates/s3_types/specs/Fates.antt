-- What happens to each send (one try of a request): its fate.
use Rattle.s3_types.specs.declared.fates.Fate.{Fate}
use Rattle.s3_types.specs.declared.fates.Fate.TheVariants.{After, Answer, Before, Slow}
use Rattle.std.specs.Coded.{Coded, code_by, coded_ℕ}
use Rattle.std.specs.Ordering.{nat_cmp}
use Rattle.std.specs.Prelude.{Bool, IsSome, None, Option, Some, false, refl, suc, true, zero, ℕ, ◌+◌, ◌<◌, ◌≡◌, ◌≤◌}
use Rattle.std.specs.FinMap as map

-- Fates by the number of the send.
abbrev pub FateMap : Type 0
FateMap = map.FinMap nat_cmp Fate

-- True if the send is answered.
abbrev pub is_answer : Fate → Bool
is_answer Answer = true
is_answer _ = false

-- The fate, or Answer if none is named.
abbrev pub fate_or : Option Fate → Fate
fate_or (Some f) = f
fate_or None = Answer

-- The fate of the n-th send.
abbrev pub fate_at : FateMap → ℕ → Fate
fate_at m n = fate_or (map.get m n)

-- The map with this fate for n sends from `first` on.
unfoldable pub with_fates : FateMap → ℕ → Fate → ℕ → FateMap
with_fates m first f zero = m
with_fates m first f (suc n) = map.insert (with_fates m first f n) (first + n) f

-- The send n is the first with a named fate among `count` sends from `first` on.
pub record IsFirstNamed (m : FateMap) (first count n : ℕ) : Type 0 where
  pub from : first ≤ n
  pub within : n < first + count
  pub named : IsSome (map.get m n)
  pub least : (k : ℕ) → first ≤ k → k < n → map.get m k ≡ None

-- The result is the first send from n on with a named fate, and that fate; or None, and there is no such send.
abbrev pub IsFirstFrom : FateMap → ℕ → Option (ℕ × Fate) → Type 0
IsFirstFrom m n None = (k : ℕ) → n ≤ k → map.get m k ≡ None
IsFirstFrom m n (Some s) = (n ≤ s.0) × (map.get m s.0 ≡ Some s.1) × ((k : ℕ) → n ≤ k → k < s.0 → map.get m k ≡ None)

-- The number of a fate.
abbrev pub to_number : Fate → ℕ
to_number Answer = 0
to_number Slow = 1
to_number Before = 2
to_number After = 3

-- The fate of a number.
abbrev pub of_number : ℕ → Fate
of_number zero = Answer
of_number (suc zero) = Slow
of_number (suc (suc zero)) = Before
of_number (suc (suc (suc n))) = After

-- The fate of a fate's number is that fate.
abbrev pub there_and_back : (f : Fate) → of_number (to_number f) ≡ f
there_and_back Answer = refl
there_and_back _ = refl

-- The code of a map of fates.
abbrev pub coded_fates : Coded FateMap
coded_fates = map.code coded_ℕ (code_by ℕ coded_ℕ to_number of_number there_and_back)
