-- What a crash leaves of a run.
use Rattle.journal_log.specs.Changes.{Begins}
use Rattle.journal_log.specs.Kept.{IsMoment, IsToEnd, StandsFor, grown_by}
use Rattle.s3_types.specs.Moment.{moment}
use Rattle.s3_types.specs.Store.{Content}
use Rattle.s3_types.specs.declared.journal.Entry.{Entry}
use Rattle.s3_types.specs.declared.request.Request.{Request}
use Rattle.devices.specs.Logged.{CrashesLeave, Holding, HoldsGrown, IsBeforeOrAfter, Sight, Stored}
use Rattle.devices.specs.Logged.Holding.{Nothing}
use Rattle.std.specs.Prelude.{List, None, Option, Some, length, ℕ, [], ◌∷◌, ◌≡◌, ◌⊎◌}

-- P, if what is held is known.
abbrev pub WhereTold : Option Stored → Type 0 → Type 0
WhereTold None P = Unit {0}
WhereTold (Some s) P = P

-- Holds if a crash left what was held before these changes, or that with the first of them.
abbrev pub IsBetween : Option Stored → List Request → Holding → Type 0
IsBetween None rs h = Unit {0}
IsBetween (Some s) rs h = (front : List Request) × Begins front rs × (h ≡ grown_by s.holding front)

-- Holds if what a crash left stands for the last point of the run, or is nothing because nothing was held.
abbrev pub IsLast : Option Stored → Content → List Entry → Holding → Type 0
IsLast None opening es h = Unit {0}
IsLast (Some s) opening es h = StandsFor h (moment opening es (length es)).content ⊎ ((s.holding ≡ Nothing) × (h ≡ Nothing))

-- The crashes of a run that ended with this status and this held: what a crash at the beginning may leave, what a crash since then might
-- have left, and what a crash at the end may leave.
pub record SurvivesCrashes (due : ℕ) (held : Option Stored) (at_first since_then at_last : Holding → Type 0) (opening : Content)
    (es : List Entry) : Type 0 where
  -- during the run: what a crash at the beginning may leave, or some point of the run
  pub within : (h : Holding) → since_then h → WhereTold held (at_first h ⊎ IsMoment opening es h)
  -- after a run that went to its end: its last point
  pub behind : IsToEnd due → (h : Holding) → at_last h → IsLast held opening es h

-- A change was appended, and a crash meanwhile left what was held without it or with it.
pub record IsAppended {S : Type 0} (F : Sight S) (old new : S) (change : Request) : Type 0 where
  pub grown : HoldsGrown (F.held old) (F.held new) change
  pub leaves : CrashesLeave F old new (IsBeforeOrAfter (F.held old) change)

-- Holds if these changes were appended, one after the other.
abbrev pub AreAppended : {S : Type 0} → Sight S → S → List Request → S → Type 0
AreAppended F old [] new = old ≡ new
AreAppended {S} F old (r ∷ rs) new = (mid : S) × IsAppended F old mid r × AreAppended F mid rs new
