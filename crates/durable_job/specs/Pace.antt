-- How a shelf keeps up with a run.
use Rattle.journal_log.specs.Appends.{AreAnswered, Stops}
use Rattle.journal_log.specs.Changes.{changes}
use Rattle.journal_log.specs.Crashes.{WhereTold}
use Rattle.journal_log.specs.Kept.{Holds, HoldsPart, IsMoment}
use Rattle.s3_types.specs.Store.{Content}
use Rattle.s3_types.specs.declared.journal.Entry.{Entry}
use Rattle.s3_types.specs.declared.request.Request.{Request}
use Rattle.devices.specs.Logged.{CrashesLeave, IsDurable, Sight}
use Rattle.devices.specs.Logged.Call.{AppendOutOfMemory, Replace}
use Rattle.std.specs.Prelude.{List, ◌++◌, ◌∷◌, ◌≡◌}

-- Since the first state the shelf has taken all changes of the run, and a crash since then leaves the store of one moment of it.
pub record InPace {S : Type 0} (F : Sight S) (opening : Content) (es : List Entry) (first now : S) : Type 0 where
  pub holds : Holds (F.held now) opening (changes es)
  pub durable : IsDurable (F.held now) (F.may_leave now)
  pub answered : AreAnswered F (changes es) first now
  pub leaves : CrashesLeave F first now (λ h. WhereTold (F.held now) (IsMoment opening es h))

-- Since the first state the shelf has taken the first changes of the run, with all changes of earlier events.
pub record Behind {S : Type 0} (F : Sight S) (opening : Content) (es : List Entry) (first now : S) : Type 0 where
  pub part : HoldsPart (F.held now) opening es
  pub stops : Stops F (changes es) first now
  pub leaves : CrashesLeave F first now (λ h. WhereTold (F.held now) (IsMoment opening es h))

-- Since the first state the shelf has taken the first changes of the run, and its append of the next one ran out of memory.
pub record Lacks {S : Type 0} (F : Sight S) (opening : Content) (es : List Entry) (first now : S) : Type 0 where
  pub front : List Request
  pub next : Request
  pub rest : List Request
  pub parts : changes es ≡ front ++ next ∷ rest
  -- What it holds, if the shelf reports that.
  pub holds : Holds (F.held now) opening front
  -- The calls of the shelf.
  pub at : S
  pub answered : AreAnswered F front first at
  pub starved : F.answers AppendOutOfMemory at now

-- The shelf took the opening image and then the first changes of the run, and its append of the next one ran out of memory.
abbrev pub LacksSince : {S : Type 0} → Sight S → Content → List Entry → S → S → Type 0
LacksSince {S} F opening es old now = (mid : S) × F.answers Replace old mid × Lacks F opening es mid now
