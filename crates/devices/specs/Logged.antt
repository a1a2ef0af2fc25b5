-- A shelf that takes changes one by one: what it holds, how its calls change that, and what a crash leaves. A shelf that does not show
-- what it holds meets every condition on that.
use Rattle.log_format.specs.Log.{log}
use Rattle.log_format.specs.declared.logged_store.LoggedStore.{LoggedStore}
use Rattle.s3_types.specs.declared.request.Request.{Request}
use Rattle.std.specs.Option.{option_map}
use Rattle.std.specs.Prelude.{List, None, Option, Some, length, ℕ, [], ◌++◌, ◌<◌, ◌∷◌, ◌≡◌, ◌≤◌, ◌⊎◌}

-- What a shelf holds: nothing; a base and the changes after it; or a file that is bad at a place.
pub data Holding : Type 0 where
  Nothing : Holding
  Stands : (held : LoggedStore) → Holding
  BadAt : (place : ℕ) → Holding

-- What a shelf holds, with the length of the base and of the file in bytes.
pub record Stored : Type 0 where
  pub holding : Holding
  pub base_length : ℕ
  pub file_length : ℕ

-- The most bytes of a base that a load takes.
abbrev pub most_base : ℕ
most_base = 1073741824

-- The most bytes of a file that a load takes.
abbrev pub most_file : ℕ
most_file = 2147483648

-- Both lengths are within the limits of a load.
abbrev pub IsSmall : Stored → Type 0
IsSmall s = (s.base_length ≤ most_base) × (s.file_length ≤ most_file)

-- The loaded value is what the shelf holds, and is within the limits; no condition if the shelf does not show what it holds.
abbrev pub IsLoaded : Option Stored → Option LoggedStore → Type 0
IsLoaded None loaded = Unit {0}
IsLoaded (Some s) None = (s.holding ≡ Nothing) × IsSmall s
IsLoaded (Some s) (Some held) = (s.holding ≡ Stands held) × IsSmall s

-- The base or the file exceeds the limit of a load.
abbrev pub IsTooLarge : Option Stored → Type 0
IsTooLarge None = Unit {0}
IsTooLarge (Some s) = (most_base < s.base_length) ⊎ (most_file < s.file_length)

-- The file is within the limits, and is bad at this place.
abbrev pub IsBad : Option Stored → ℕ → Type 0
IsBad None place = Unit {0}
IsBad (Some s) place = (s.holding ≡ BadAt place) × IsSmall s

-- A base without changes.
abbrev pub fresh : List ℕ → Holding
fresh bytes = Stands (record { base = bytes; changes = [] })

-- What the shelf holds after one more change.
abbrev pub grown : Holding → Request → Holding
grown Nothing change = Nothing
grown (Stands held) change = Stands (record { base = held.base; changes = held.changes ++ change ∷ [] })
grown (BadAt place) change = BadAt place

-- What the shelf holds, if it shows that.
abbrev pub told : Option Stored → Option Holding
told held = option_map (λ s. s.holding) held

-- The shelf now holds this base and no changes, if it shows what it holds.
abbrev pub HoldsFresh : Option Stored → Option Stored → List ℕ → Type 0
HoldsFresh before after bytes = told after ≡ option_map (λ s. fresh bytes) before

-- The shelf now holds one change more, if it shows what it holds.
abbrev pub HoldsGrown : Option Stored → Option Stored → Request → Type 0
HoldsGrown before after change = told after ≡ option_map (λ s. grown s.holding change) before

-- After a failed call, the shelf holds the changes of before, or these and the new one.
abbrev pub HoldsOneOf : Option Stored → Option Stored → Request → Type 0
HoldsOneOf before after change = (told after ≡ told before) ⊎ HoldsGrown before after change

-- A crash left what the shelf held before a change, or that and the change.
abbrev pub IsBeforeOrAfter : Option Stored → Request → Holding → Type 0
IsBeforeOrAfter None change h = Unit {0}
IsBeforeOrAfter (Some s) change h = (h ≡ s.holding) ⊎ (h ≡ grown s.holding change)

-- A crash leaves what the shelf holds, and nothing else.
abbrev pub IsDurable : Option Stored → (Holding → Type 0) → Type 0
IsDurable None leaves = Unit {0}
IsDurable (Some s) leaves = (h : Holding) → leaves h → h ≡ s.holding

-- Time does not go back from `old` to `new`, and what a crash at any point since `old` leaves has P.
pub record LeavesOnly {S C : Type 0} (moment : S → ℕ) (left_since : S → ℕ → C → Type 0) (old new : S) (P : C → Type 0) : Type 0 where
  pub later : moment old ≤ moment new
  pub each : (c : C) → left_since new (moment old) c → P c
  -- The same for a run that began before `old`: its crashes leave what they left at `old`, or something that has P.
  pub before : (t : ℕ) (c : C) → t ≤ moment old → left_since new t c → left_since old t c ⊎ P c

-- ---- what a shelf shows to contracts

-- A call of a shelf: a load, a replace, an append, or an append that ran out of memory.
pub data Call : Type 0 where
  Load : Call
  Replace : Call
  Append : Call
  AppendOutOfMemory : Call

-- What a shelf shows to contracts: what it holds, how its calls change it, and what a crash leaves.
pub record Sight (S : Type 0) : Type 1 where
  -- What it holds, even if too large to load; None if it does not show that.
  pub held : S → Option Stored
  -- `answers`: the change that a call may make if it does not fail. `fails`: the change that a failed call may make. They also say which
  -- calls fail, if the shelf shows that.
  pub answers : Call → S → S → Type 0
  pub fails : Call → S → S → Type 0
  -- What a crash now may leave.
  pub may_leave : S → Holding → Type 0
  -- The current time, as a number that does not fall.
  pub moment : S → ℕ
  -- What a crash at some point since the given time may have left, during a call or between two.
  pub left_since : S → ℕ → Holding → Type 0

-- What a crash of the shelf leaves, at any point since the state `old`, has P.
abbrev pub CrashesLeave : {S : Type 0} → Sight S → (old new : S) → (Holding → Type 0) → Type 0
CrashesLeave F old new P = LeavesOnly F.moment F.left_since old new P

-- What a crash now may leave counts as left since each earlier time; and since the present time nothing else counts.
pub record IsTimed {S : Type 0} (F : Sight S) : Type 0 where
  pub counts_now : (s : S) (t : ℕ) (h : Holding) → t ≤ F.moment s → F.may_leave s h → F.left_since s t h
  pub only_now : (s : S) (h : Holding) → F.left_since s (F.moment s) h → F.may_leave s h

-- `base_length` is the length of the base that the shelf holds, if it shows that.
abbrev pub HasBaseLength : Option Stored → Type 0
HasBaseLength None = Unit {0}
HasBaseLength (Some s) = (held : LoggedStore) → s.holding ≡ Stands held → s.base_length ≡ length held.base

-- The file is no longer than a log of what the shelf holds, if it shows that.
abbrev pub IsWithinLog : Option Stored → Type 0
IsWithinLog None = Unit {0}
IsWithinLog (Some s) = (held : LoggedStore) → s.holding ≡ Stands held → s.file_length ≤ length (log held.base held.changes)

-- The two lengths by which a load decides what is too large: that of the base, and that of the file while the shelf takes appends.
pub record IsMeasured {S : Type 0} (F : Sight S) (takes_appends : S → Type 0) : Type 0 where
  pub base : (s : S) → HasBaseLength (F.held s)
  pub file : (s : S) → takes_appends s → IsWithinLog (F.held s)
