-- What crashes leave of a job and of a command, since the load and before it.
use Rattle.durable_job.specs.declared.jobs.Jobs.{Jobs}
use Rattle.durable_store.specs.Outcomes.{MightLeave}
use Rattle.durable_store.specs.Stores.{found}
use Rattle.durable_store.specs.Works.{Saves, Says, Work}
use Rattle.durable_store.specs.declared.shelf_state.ShelfState.{ShelfState}
use Rattle.journal_log.proofs.Leaving.{started, then_on, told_all, told_more, widened}
use Rattle.journal_log.specs.Kept.{IsMoment}
use Rattle.s3_types.specs.Store.{Content}
use Rattle.s3a_top.specs.Jobs.{MayHaveLeft}
use Rattle.s3a_top.specs.Openings.{AreJobsOf, IsFound, Opens, opening_in}
use Rattle.s3a_words.specs.declared.command.Command.{Command}
use Rattle.devices.specs.Logged.{CrashesLeave, Holding, IsTimed, Sight, Stored, fresh}
use Rattle.std.proofs.Common.{List, None, Option, Some, ap, inl, inr, refl, sym, ℕ, ⊎_elim, ◌∙◌, ◌≡◌, ◌⊎◌}
use Rattle.store_image.specs.Image.{image}

-- ---- what was found

pub as_found : (told : Option Stored) (before : ShelfState) → ((s : Stored) → told ≡ Some s → before ≡ found s) → IsFound told before
as_found None before h = tt
as_found (Some s) before h = h s refl

pub opens_so : (told : Option Stored) (before : ShelfState) (jobs : Jobs) (c : Content) → IsFound told before
    → opening_in before jobs ≡ Some c
    → Opens told jobs c
opens_so None before jobs c f e = tt
opens_so (Some s) before jobs c f e = ap (λ (b : ShelfState). opening_in b jobs) (sym f) ∙ e

-- ---- a command

might_first : (work : Work) (told : Option Stored) (P : Holding → Type 0) (h : Holding) → P h → MightLeave work told P h
might_first (Says d t es) told P h is = is
might_first (Saves c text es) told P h is = told_all told (P h ⊎ IsMoment c es h) (inl is)

might_more : (work : Work) (told : Option Stored) (P Q : Holding → Type 0) (h : Holding) → (P h → Q h) → MightLeave work told P h
    → MightLeave work told Q h
might_more (Says d t es) told P Q h f is = f is
might_more (Saves c text es) told P Q h f is = told_more told (P h ⊎ IsMoment c es h) (Q h ⊎ IsMoment c es h)
    (λ o. ⊎_elim (λ l. inl (f l)) (λ m. inr m) o) is

-- ---- since the load, and before it

module _ {S : Type 0} (F : Sight S) where
  -- the shelf was not called
  pub unmoved : (s : S) (P : Holding → Type 0) → IsTimed F → ((h : Holding) → F.may_leave s h → P h) → CrashesLeave F s s P
  unmoved s P timed f = started F s P (λ h left. f h (timed.only_now s h left))

  -- the shelf was only loaded
  pub loaded_alone : (old new : S) (command : Command) (told : Option Stored) (left rest : Option (List ℕ))
      → CrashesLeave F old new (F.may_leave old) → CrashesLeave F old new (MayHaveLeft (F.may_leave old) command told left rest)
  loaded_alone old new command told left rest load = widened F old new (F.may_leave old)
      (MayHaveLeft (F.may_leave old) command told left rest) load (λ h is. inl is)

  -- the shelf was called to replace what it held by the image of the opening store
  pub image_left : (old new : S) (command : Command) (told : Option Stored) (left rest : Option (List ℕ)) (jobs : Jobs) (c : Content)
      → AreJobsOf command left rest jobs → Opens told jobs c → CrashesLeave F old new (λ h. F.may_leave old h ⊎ (h ≡ fresh (image c)))
      → CrashesLeave F old new (MayHaveLeft (F.may_leave old) command told left rest)
  image_left old new command told left rest jobs c reads opens leaves =
      widened F old new (λ h. F.may_leave old h ⊎ (h ≡ fresh (image c))) (MayHaveLeft (F.may_leave old) command told left rest) leaves
      (λ h is. ⊎_elim (λ l. inl l) (λ e. inr (jobs, (c, (reads, (opens, e))))) is)

  module _ (timed : IsTimed F) where
    -- what a crash after the load may leave, a crash before it may leave too
    pub earlier : (old mid : S) → CrashesLeave F old mid (F.may_leave old) → (h : Holding) → F.may_leave mid h → F.may_leave old h
    earlier old mid load h left = load.each h (timed.counts_now mid (F.moment old) h load.later left)

    pub loaded_first : (old mid new : S) (command : Command) (told : Option Stored) (left rest : Option (List ℕ))
        → CrashesLeave F old mid (F.may_leave old) → CrashesLeave F mid new (MayHaveLeft (F.may_leave mid) command told left rest)
        → CrashesLeave F old new (MayHaveLeft (F.may_leave old) command told left rest)
    loaded_first old mid new command told left rest load leaves =
        then_on F old mid new (F.may_leave old) (MayHaveLeft (F.may_leave mid) command told left rest)
        (MayHaveLeft (F.may_leave old) command told left rest) load leaves (λ h is. inl is)
        (λ h is. ⊎_elim (λ l. inl (earlier old mid load h l)) (λ o. inr o) is)

    pub command_since : (old mid new : S) (work : Work) (told : Option Stored) → CrashesLeave F old mid (F.may_leave old)
        → CrashesLeave F mid new (MightLeave work told (F.may_leave mid))
        → CrashesLeave F old new (MightLeave work told (F.may_leave old))
    command_since old mid new work told load leaves =
        then_on F old mid new (F.may_leave old) (MightLeave work told (F.may_leave mid)) (MightLeave work told (F.may_leave old)) load
        leaves (λ h is. might_first work told (F.may_leave old) h is)
        (λ h is. might_more work told (F.may_leave mid) (F.may_leave old) h (earlier old mid load h) is)
