-- The outcome of replacing what a shelf holds by the image of a store.
use Rattle.journal_log.specs.Kept.{Holds}
use Rattle.s3_types.specs.Store.{Content}
use Rattle.devices.specs.Logged.{CrashesLeave, IsDurable, Sight, fresh}
use Rattle.devices.specs.Logged.Call.{Replace}
use Rattle.devices.specs.declared.kept.ShelfStop.{ShelfStop}
use Rattle.devices.specs.declared.kept.ShelfStop.TheVariants.{Failed}
use Rattle.std.specs.Prelude.{Err, Result, ℕ, [], ◌<◌, ◌≡◌, ◌⊎◌}
use Rattle.store_image.specs.Image.{image}

-- The shelf holds the image.
pub record Replaced {S : Type 0} (F : Sight S) (c : Content) (old new : S) : Type 0 where
  pub holds : Holds (F.held new) c []
  pub durable : IsDurable (F.held new) (F.may_leave new)
  pub leaves : CrashesLeave F old new (λ h. F.may_leave old h ⊎ (h ≡ fresh (image c)))
  pub answered : F.answers Replace old new

-- The shelf holds what it held. It was called at most once, and that call failed.
pub record NotReplaced {S : Type 0} (F : Sight S) (c : Content) (old new : S) : Type 0 where
  pub same : F.held new ≡ F.held old
  pub calls : (old ≡ new) ⊎ F.fails Replace old new
  pub leaves : CrashesLeave F old new (λ h. F.may_leave old h ⊎ (h ≡ fresh (image c)))

-- Holds if a shelf's count of faults rose after it failed, and is unchanged otherwise.
abbrev pub Counts : {A : Type 0} → Result A ShelfStop → ℕ → ℕ → Type 0
Counts (Err Failed) before after = before < after
Counts _ before after = after ≡ before
