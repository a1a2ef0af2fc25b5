-- The outcome if the program stopped before anything was done.
use Rattle.durable_job.specs.declared.jobs.Jobs.{Jobs}
use Rattle.durable_job.specs.declared.jobs.Told.{Told}
use Rattle.durable_store.specs.Outcomes.{Tells}
use Rattle.durable_store.specs.declared.shelf_state.ShelfState.{ShelfState}
use Rattle.durable_store.specs.declared.shelf_state.ShelfState.TheVariants.{Faulty}
use Rattle.exit_status.specs.Statuses.{code, memory_text, usage_text}
use Rattle.exit_status.specs.declared.statuses.Status.{Status}
use Rattle.journal_log.specs.Images.{NotReplaced}
use Rattle.s3_types.specs.Store.{Content}
use Rattle.s3_types.specs.declared.journal.Entry.{Entry}
use Rattle.s3a_top.proofs.Crashing.{image_left, loaded_alone, loaded_first, unmoved}
use Rattle.s3a_top.proofs.Pieces.{taken_part}
use Rattle.s3a_top.proofs.Telling.{tells_none}
use Rattle.s3a_top.specs.Commands.{HasReason, NoCommand, StoreStopped}
use Rattle.s3a_top.specs.Jobs.{HasCause, IsFaulty, JobStopped, MayHaveLeft}
use Rattle.s3a_top.specs.Openings.{AreJobsOf, IsFound, IsSoundly, Opens, is_sound, reads_jobs}
use Rattle.s3a_top.specs.inner.Plays.{JobBroke}
use Rattle.s3a_top.specs.Statuses.{IsDue, IsIdle}
use Rattle.s3a_top.specs.Stops.{status_of, stop_text}
use Rattle.s3a_top.specs.inner.Stops.{of_shelf}
use Rattle.s3a_top.specs.inner.Workings.{IsMade, IsToldOf, JobHalted, StoreHalted}
use Rattle.s3a_top.specs.declared.stop.Stop.{Stop}
use Rattle.s3a_top.specs.declared.stop.Stop.TheVariants.{Image, NoMemory, ReadFault, Script as BadScript, ShelfFault, Twins as BadTwins}
use Rattle.s3a_top.specs.declared.stop.Stop.TheVariants.{Usage}
use Rattle.s3a_words.specs.declared.command.Command.{Command}
use Rattle.devices.specs.Logged.{CrashesLeave, IsTimed, Sight, Stored}
use Rattle.devices.specs.Logged.Call.{Load}
use Rattle.devices.specs.declared.kept.ShelfStop.{ShelfStop}
use Rattle.std.proofs.Common.{Err, IsErrOf, List, None, Option, Some, ap, inl, inr, refl, subst, sym, true, ℕ, ◌∙◌, ◌≡◌, ◌⊎◌}
use Rattle.devices.specs.declared.kept.ShelfStop.TheVariants as shelves
use Rattle.exit_status.specs.declared.statuses.Status.TheVariants as statuses

-- ---- causes, where it is known what the shelf held

pub sound_of : (told : Option Stored) (before : ShelfState) → IsFound told before → is_sound before → IsSoundly told
sound_of None before f h = tt
sound_of (Some s) before f h = subst is_sound f h

pub faulty_of : (told : Option Stored) (before : ShelfState) (number place : ℕ) → IsFound told before → before ≡ Faulty number place
    → IsFaulty told number place
faulty_of None before number place f h = tt
faulty_of (Some s) before number place f h = sym f ∙ h

pub held_sound : (before : ShelfState) → ((number place : ℕ) → before ≡ Faulty number place → ⊥) → is_sound before
held_sound (Faulty number place) n = n number place refl
held_sound _ n = tt

-- ---- a job

module _ {S : Type 0} (F : Sight S) (command : Command) (left rest : Option (List ℕ)) where
  -- the load failed
  pub load_halted : (old new : S) (fault : ShelfStop) → rest ≡ left → F.held new ≡ F.held old → CrashesLeave F old new (F.may_leave old)
      → ((IsErrOf {T = ShelfState} {E = ShelfStop} (Err fault) shelves.Failed → ⊥) → F.answers Load old new)
      → (IsErrOf {T = ShelfState} {E = ShelfStop} (Err fault) shelves.Failed → F.fails Load old new)
      → JobHalted F command left rest old new (of_shelf fault)
  load_halted old new shelves.Failed unread same leaves answered broken = record {
    cause = inl unread;
    same = same;
    calls = inr (inl (broken refl, unread));
    leaves = loaded_alone F old new command (F.held old) left
        rest leaves;
  }
  load_halted old new shelves.NoMemory unread same leaves answered broken = record {
    cause = inl unread;
    same = same;
    calls = inr (inr (new, (answered (λ e. cc), inl refl)));
    leaves = loaded_alone F old new command
        (F.held old) left rest leaves;
  }

  -- the shelf was not called
  pub broke_at_once : (s : S) (stop : Stop) → IsTimed F → HasCause stop command (F.held s) left rest → JobBroke F command left rest s s stop
  broke_at_once s stop timed cause = record {
    cause = cause;
    same = refl;
    calls = inl refl;
    leaves = unmoved F s
        (MayHaveLeft (F.may_leave s) command (F.held s) left rest) timed (λ h is. inl is);
  }

  -- the shelf failed to take the image of the opening store
  pub not_begun : (old new : S) (stop : Stop) (jobs : Jobs) (c : Content) → HasCause stop command (F.held old) left rest
      → AreJobsOf command left rest jobs → Opens (F.held old) jobs c → NotReplaced F c old new → JobBroke F command left rest old new stop
  not_begun old new stop jobs c cause reads opens not = record {
    cause = cause;
    same = not.same;
    calls = not.calls;
    leaves = image_left F
        old new command (F.held old) left rest jobs c reads opens not.leaves;
  }

  -- the job stopped after the load
  pub job_halted : IsTimed F → (old mid new : S) (stop : Stop) → F.held mid ≡ F.held old → F.answers Load old mid
      → CrashesLeave F old mid (F.may_leave old) → JobBroke F command left rest mid new stop → JobHalted F command left rest old new stop
  job_halted timed old mid new stop same answered load broke = record {
    cause = subst (λ (o : Option Stored). HasCause stop command o left rest) same broke.cause;
    same = broke.same ∙ same;
    calls = inr (inr (mid, (answered, broke.calls)));
    leaves = loaded_first F timed old mid new command (F.held old) left rest load
        (subst (λ (o : Option Stored). CrashesLeave F mid new (MayHaveLeft (F.may_leave mid) command o left rest)) same broke.leaves);
  }

  reads_so : {c : Command} → command ≡ c → reads_jobs c ≡ true → reads_jobs command ≡ true
  reads_so e h = ap reads_jobs e ∙ h

  -- if a stop has a text of its own and a cause, memory may run out instead
  made_cause : (stop : Stop) (told : Option Stored) → IsMade stop → HasCause stop command told left rest
      → HasCause NoMemory command told left rest
  made_cause (BadScript e) told m h = inr (h.0, (reads_so h.1.0 refl, taken_part left rest h.1.1.1.1))
  made_cause (BadTwins e) told m h = inr (h.0, (reads_so h.1.0 refl, taken_part left rest h.1.1.1.1))
  made_cause (Image number place) told m h = inl h.1
  made_cause _ told m h = absurd m

  -- a stop of a job that was reported
  pub halted_told : (old new : S) (stop : Stop) (due : Status) (text : List ℕ) (es : List Entry) (told_so : Told)
      → JobHalted F command left rest old new stop → IsToldOf stop due text → IsIdle es told_so
      → JobStopped F command left rest old new (code due) es told_so (λ t. text ≡ t)
  halted_told old new stop due text es told_so h (inl told) idle = record {
    stop = stop;
    status = ap code told.0;
    cause = h.cause;
    text =
        told.1;
    idle = idle;
    same = h.same;
    calls = h.calls;
    leaves = h.leaves;
  }
  halted_told old new stop due text es told_so h (inr told) idle = record {
    stop = NoMemory;
    status = ap code told.0;
    cause = made_cause
        stop (F.held old) told.1.1 h.cause;
    text = told.1.0;
    idle = idle;
    same = h.same;
    calls = h.calls;
    leaves = h.leaves;
  }

-- ---- another command

-- A stop without a text of its own is reported by its status and the status's text.
own_told : (stop : Stop) (due : Status) (text : List ℕ) → (IsMade stop → ⊥) → IsToldOf stop due text → (code due ≡ code (status_of stop))
    × (text ≡ stop_text stop)
own_told stop due text own (inl told) = (ap code told.0, told.1)
own_told stop due text own (inr told) = absurd (own told.1.1)

words_said : (stop : Stop) (due : Status) (text : List ℕ) → (stop ≡ Usage) ⊎ (stop ≡ NoMemory) → IsToldOf stop due text
    → ((code due ≡ 2) × (text ≡ usage_text)) ⊎ ((code due ≡ 9) × (text ≡ memory_text))
words_said stop due text (inl e) told = inl (own_told Usage due text (λ h. h) (subst (λ (s : Stop). IsToldOf s due text) e told))
words_said stop due text (inr e) told = inr (own_told NoMemory due text (λ h. h) (subst (λ (s : Stop). IsToldOf s due text) e told))

own_reason : (stop : Stop) (command : Command) (told : Option Stored) (left rest : Option (List ℕ)) → HasReason stop command told left rest
    → IsMade stop → ⊥
own_reason (BadScript e) command told left rest h m = h
own_reason (BadTwins e) command told left rest h m = h
own_reason (Image number place) command told left rest h m = h
own_reason _ command told left rest h m = m

pub store_halted : {S : Type 0} (F : Sight S) (command : Command) (left rest : Option (List ℕ)) (old new : S) (stop : Stop) (due : Status)
    (text : List ℕ) (es : List Entry) (told_so : Told) → StoreHalted F command left rest old new stop → IsToldOf stop due text
    → IsIdle es told_so → StoreStopped F command left rest old new (code due) es (λ t. text ≡ t)
store_halted F command left rest old new stop due text es told_so h told idle =
    let own = own_told stop due text (own_reason stop command (F.held old) left rest h.reason) told in
    record {
      stop = stop;
      status = own.0;
      reason = h.reason;
      text = own.1;
      entries = idle.entries;
      same = h.same;
      calls = h.calls;
      leaves =
          h.leaves;
    }

pub no_command : {S : Type 0} (old new : S) (stop : Stop) (due : Status) (text : List ℕ) (es : List Entry) (told_so : Told) → (stop ≡ Usage)
    ⊎ (stop ≡ NoMemory) → new ≡ old → IsToldOf stop due text → IsIdle es told_so → NoCommand (code due) old new es told_so (λ t. text ≡ t)
no_command old new stop due text es told_so which same told idle = record {
  said = words_said stop due text which told;
  idle = idle;
  untouched = same;
}

-- ---- the status that is reported

pub told_counts : (status : ℕ) (stop : Stop) (due : Status) (text : List ℕ) (before after : ℕ) → (6 ≡ status → ⊥) → (7 ≡ status → ⊥)
    → (9 ≡ status → ⊥) → IsToldOf stop due text → Tells status (code (status_of stop)) before after → Tells status (code due) before after
told_counts status stop due text before after six seven nine (inl told) h = subst (λ (s : Status). Tells status (code s) before after)
    (sym told.0) h
told_counts status stop due text before after six seven nine (inr told) h = subst (λ (s : Status). Tells status (code s) before after)
    (sym told.0) (tells_none status 9 before after nine (by stop told.1.1 h))
  where
    by : (s : Stop) → IsMade s → Tells status (code (status_of s)) before after → after ≡ before
    by (BadScript e) m t = t.stands six
    by (BadTwins e) m t = t.stands six
    by (Image number place) m t = t.stands seven
    by _ m t = absurd m

status_due : (stop : Stop) → IsDue (code (status_of stop))
status_due Usage = (statuses.Usage, (λ e. cc, refl))
status_due ReadFault = (statuses.ReadFault, (λ e. cc, refl))
status_due ShelfFault = (statuses.ShelfFault, (λ e. cc, refl))
status_due (BadScript e) = (statuses.BadScript, (λ e. cc, refl))
status_due (BadTwins e) = (statuses.BadScript, (λ e. cc, refl))
status_due (Image number place) = (statuses.BadImage, (λ e. cc, refl))
status_due NoMemory = (statuses.NoMemory, (λ e. cc, refl))

pub told_due : (stop : Stop) (due : Status) (text : List ℕ) → IsToldOf stop due text → IsDue (code due)
told_due stop due text (inl told) = subst (λ (s : Status). IsDue (code s)) (sym told.0) (status_due stop)
told_due stop due text (inr told) = subst (λ (s : Status). IsDue (code s)) (sym told.0) (status_due NoMemory)

usage_only : (stop : Stop) → code (status_of stop) ≡ 2 → stop ≡ Usage
usage_only Usage e = refl
usage_only _ e = absurd (cc)

pub told_usage : (stop : Stop) (due : Status) (text : List ℕ) → IsToldOf stop due text → code due ≡ 2 → stop ≡ Usage
told_usage stop due text (inl told) e = usage_only stop (sym (ap code told.0) ∙ e)
told_usage stop due text (inr told) e = let nine : code statuses.NoMemory ≡ 2 = sym (ap code told.0) ∙ e in absurd (cc)
