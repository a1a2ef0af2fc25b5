-- Outcomes that are known before the run.
use Rattle.std.specs.Prelude.{◌≡◌, ℕ, ◌+◌, List, [], ◌∷◌, Option, Some, None}
use Rattle.s3_types.specs.declared.fates.Fate.{Fate}
use Rattle.s3_types.specs.declared.fates.Fate.TheVariants.{Answer, Slow, Before, After}
use Rattle.s3_types.specs.declared.journal.Entry.{Entry}
use Rattle.s3_types.specs.declared.journal.Outcome.{Outcome}
use Rattle.s3_types.specs.declared.journal.Outcome.TheVariants.{Answered, Slow as WasSlow, RequestLost, ReplyLost}

-- The fate that an outcome shows.
abbrev pub fate_of : Outcome → Fate
fate_of (Answered r) = Answer
fate_of WasSlow = Slow
fate_of RequestLost = Before
fate_of ReplyLost = After

-- The outcome shows the fate that was known for it, if one was.
abbrev pub IsForetold : Option Fate → Outcome → Type 0
IsForetold None o = Unit {0}
IsForetold (Some f) o = fate_of o ≡ f

-- The entries, whose first is request n of the run, have the outcomes that were known for them.
abbrev pub AreForetold : (ℕ → Option Fate) → ℕ → List Entry → Type 0
AreForetold told n [] = Unit {0}
AreForetold told n (e ∷ es) = IsForetold (told n) e.outcome × AreForetold told (n + 1) es
