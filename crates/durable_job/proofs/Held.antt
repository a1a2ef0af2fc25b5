-- What is held of a run since its opening store replaced what a shelf held.
use Rattle.durable_job.specs.Pace.{Behind, InPace, Lacks, LacksSince}
use Rattle.durable_job.specs.Played.{IsHeld, Survives}
use Rattle.journal_log.specs.Crashes.{WhereTold}
use Rattle.journal_log.specs.Images.{NotReplaced, Replaced}
use Rattle.journal_log.specs.Kept.{IsMoment}
use Rattle.s3_types.specs.Moment.{moment}
use Rattle.s3_types.specs.Store.{Content}
use Rattle.s3_types.specs.declared.journal.Entry.{Entry}
use Rattle.devices.specs.Logged.{CrashesLeave, Sight}
use Rattle.devices.specs.declared.kept.ShelfStop.{ShelfStop}
use Rattle.std.proofs.Common.{List, None, Some, ap, inl, inr, length, subst, [], ◌∙◌, ◌≡◌, ◌⊎◌}

-- The store of a run in which nothing was sent is the opening one.
pub opening_is : (d c : Content) (es : List Entry) → d ≡ (moment c es (length es)).content → es ≡ [] → d ≡ c
opening_is d c es e none = e ∙ ap (λ (l : List Entry). (moment c l (length l)).content) none

module _ {S : Type 0} (F : Sight S) (c : Content) where
  -- The same, said of an equal store.
  pub replaced_as : (d : Content) (old new : S) → d ≡ c → Replaced F d old new → Replaced F c old new
  replaced_as d old new e h = subst (λ (x : Content). Replaced F x old new) e h

  pub not_replaced_as : (d : Content) (old new : S) → d ≡ c → NotReplaced F d old new → NotReplaced F c old new
  not_replaced_as d old new e h = subst (λ (x : Content). NotReplaced F x old new) e h

  module _ (es : List Entry) (old mid now : S) (r : Replaced F c old mid) where
    pub held_whole : InPace F c es mid now → IsHeld F c es None old now
    held_whole p = (p.holds, (p.durable, (mid, r.answered, p.answered)))

    pub held_partly : (fault : ShelfStop) → Behind F c es mid now → IsHeld F c es (Some fault) old now
    held_partly fault b = (b.part, (mid, r.answered, b.stops))

    pub survives_since : CrashesLeave F mid now (λ h. WhereTold (F.held now) (IsMoment c es h)) → Survives F c es old now
    survives_since leaves = (mid, (r.leaves, leaves))

    pub lacks_since : {P : Type 0} → P ⊎ Lacks F c es mid now → P ⊎ LacksSince F c es old now
    lacks_since (inl left) = inl left
    lacks_since (inr lacks) = inr (mid, r.answered, lacks)
