-- Which calls of a device in memory fail, and how its counts change.
use Rattle.devices.specs.declared.calls.Calls.{Calls}
use Rattle.std.specs.List.{list_any}
use Rattle.std.specs.Prelude.{Bool, List, None, Option, Some, false, min, nat_lt, true, ℕ, ◌+◌, ◌-◌, ◌==◌, ◌^◌, ◌||◌, ◌≡◌, ◌⊎◌}

-- The count plus one, but at most 2^64 - 1.
abbrev pub one_more : ℕ → ℕ
one_more n = min (n + 1) (2 ^ 64 - 1)

-- The counts before the first call: the calls in `fail` are to fail, and each one after `stop`.
abbrev pub unused : List ℕ → Option ℕ → Calls
unused fail stop = record { made = 0; fail = fail; stop = stop; faults = 0; wanting = 0 }

-- True if the call number `n` comes after the stop.
abbrev pub is_behind : Option ℕ → ℕ → Bool
is_behind None n = false
is_behind (Some stop) n = nat_lt stop n

-- True if the next call is to fail: it comes after the stop, or `fail` names it.
abbrev pub is_named : Calls → Bool
is_named c = is_behind c.stop (one_more c.made) || list_any (λ n. n == one_more c.made) c.fail

-- The counts after a call that succeeded.
abbrev pub called : Calls → Calls
called c = record c { made = one_more c.made }

-- The counts after a call that failed because it was to fail.
abbrev pub broken : Calls → Calls
broken c = record c { made = one_more c.made; faults = one_more c.faults }

-- The counts after a call that ran out of memory.
abbrev pub starved : Calls → Calls
starved c = record c { made = one_more c.made; faults = one_more c.faults; wanting = one_more c.wanting }

-- Holds if the call was not to fail and is counted as one that succeeded.
abbrev pub Answers : Calls → Calls → Type 0
Answers before after = (is_named before ≡ false) × (after ≡ called before)

-- Holds if the call was to fail and is counted so, or was not to fail and is counted as one that ran out of memory.
abbrev pub Fails : Calls → Calls → Type 0
Fails before after = ((is_named before ≡ true) × (after ≡ broken before)) ⊎ ((is_named before ≡ false) × (after ≡ starved before))
