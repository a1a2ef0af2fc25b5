-- What a call of `replace` leaves of a shelf.
use Rattle.journal_log.proofs.Leaving.{started}
use Rattle.journal_log.specs.Images.{Counts, NotReplaced, Replaced}
use Rattle.journal_log.specs.Kept.{Holds}
use Rattle.s3_types.specs.Store.{Content}
use Rattle.devices.specs.Devices.{Rose}
use Rattle.devices.specs.Logged.{CrashesLeave, HoldsFresh, IsDurable, IsTimed, Sight, Stored, fresh}
use Rattle.devices.specs.Logged.Call.{Replace}
use Rattle.devices.specs.declared.kept.ShelfStop.{ShelfStop}
use Rattle.devices.specs.declared.kept.ShelfStop.TheVariants.{Failed}
use Rattle.std.proofs.Common.{IsErrOf, List, Option, Result, arith, inl, refl, subst, ℕ, [], ◌-◌, ◌<◌, ◌^◌, ◌≡◌, ◌⊎◌}
use Rattle.store_image.specs.Image.{image}

-- The new base is held with no changes.
holds_fresh : (o p : Option Stored) (c : Content) (bytes : List ℕ) → HoldsFresh o p bytes → bytes ≡ image c → Holds p c []
holds_fresh o p c bytes h g = grind arith

module _ {S : Type 0} (F : Sight S) (old new : S) (c : Content) where
  leaves_image : (bytes : List ℕ) → bytes ≡ image c → CrashesLeave F old new (λ h. F.may_leave old h ⊎ (h ≡ fresh bytes))
      → CrashesLeave F old new (λ h. F.may_leave old h ⊎ (h ≡ fresh (image c)))
  leaves_image bytes is leaves = subst (λ (b : List ℕ). CrashesLeave F old new (λ h. F.may_leave old h ⊎ (h ≡ fresh b))) is leaves

  pub replaced : (bytes : List ℕ) → bytes ≡ image c → HoldsFresh (F.held old) (F.held new) bytes → IsDurable (F.held new) (F.may_leave new)
      → CrashesLeave F old new (λ h. F.may_leave old h ⊎ (h ≡ fresh bytes)) → F.answers Replace old new → Replaced F c old new
  replaced bytes is holds durable leaves answered = record {
    holds = holds_fresh (F.held old) (F.held new) c bytes holds is;
    durable =
        durable;
    leaves = leaves_image bytes is leaves;
    answered = answered;
  }

-- The shelf was not called.
pub not_called : {S : Type 0} (F : Sight S) (s : S) (c : Content) → IsTimed F → NotReplaced F c s s
not_called F s c timed = record {
  same = refl;
  calls = inl refl;
  leaves = started F s (λ h. F.may_leave s h ⊎ (h ≡ fresh (image c)))
      (λ h left. inl (timed.only_now s h left));
}

-- The count of faults, if no call before the last failed.
pub counts : {A : Type 0} (r : Result A ShelfStop) (before mid after : ℕ) → mid ≡ before → before < 2 ^ 64 - 1
    → (IsErrOf r Failed → Rose mid after) → ((IsErrOf r Failed → ⊥) → after ≡ mid) → Counts r before after
counts r before mid after h g e f = grind arith
