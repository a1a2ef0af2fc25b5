-- Definitions beside those of `Parts` that no public contract cites.
use Rattle.devices.specs.Calls.{one_more}
use Rattle.devices.specs.Logged.{Call}
use Rattle.devices.specs.Logged.Call.{Append, AppendOutOfMemory, Load, Replace}
use Rattle.folder_log.specs.inner.Disk.{FewMore, more}
use Rattle.folder_log.specs.declared.log_shelf.LogShelf.{LogShelf}
use Rattle.std.specs.Prelude.{IsSome, None, ℕ, ◌≡◌}

-- The change of a shelf by a call that did not fail, with the number of calls of the disk. A load makes two and keeps the place of the
-- gate. A replace makes one and an append four; after both there is a gate. An append that ran out of memory makes none, and the disk and
-- the gate stay as they are.
abbrev pub Answers : {D : Type 0} {g : _} → (calls : D → ℕ) → Call → LogShelf D g → LogShelf D g → Type 0
Answers calls Load s t = (t.calls ≡ one_more s.calls) × (t.gate ≡ s.gate) × (calls t.disk ≡ more 2 (calls s.disk))
Answers calls Replace s t = (t.calls ≡ one_more s.calls) × IsSome t.gate × (calls t.disk ≡ more 1 (calls s.disk))
Answers calls Append s t = (t.calls ≡ one_more s.calls) × IsSome s.gate × IsSome t.gate × (calls t.disk ≡ more 4 (calls s.disk))
Answers calls AppendOutOfMemory s t = (t.calls ≡ one_more s.calls) × (t.gate ≡ s.gate) × (t.disk ≡ s.disk)

-- The most calls of the disk that a failed call makes, with the one that failed.
abbrev pub most_calls : Call → ℕ
most_calls Load = 2
most_calls Replace = 1
most_calls Append = 4
most_calls AppendOutOfMemory = 0

-- The change of a shelf by a failed call: it made at most so many calls of the disk, and the shelf takes no more appends.
abbrev pub Fails : {D : Type 0} {g : _} → (calls : D → ℕ) → Call → LogShelf D g → LogShelf D g → Type 0
Fails calls call s t = (t.calls ≡ one_more s.calls) × (t.gate ≡ None) × FewMore (most_calls call) (calls s.disk) (calls t.disk)
