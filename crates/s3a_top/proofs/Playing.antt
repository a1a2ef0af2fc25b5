-- The promise for jobs that ran.
use Rattle.durable_job.specs.Jobs.{AreFinished, verdict_of}
use Rattle.durable_job.specs.Pace.{LacksSince}
use Rattle.durable_job.specs.Played.{HaveEventsLeft, IsHeld, IsPlayed}
use Rattle.durable_job.specs.declared.jobs.Jobs.{Jobs}
use Rattle.durable_job.specs.declared.jobs.Told.{Told}
use Rattle.durable_job.specs.declared.playing.Kept.{Kept}
use Rattle.exit_status.specs.Statuses.{code, memory_text, written_text}
use Rattle.journal_log.proofs.Journals.{changes_append}
use Rattle.journal_log.proofs.Leaving.{survives}
use Rattle.journal_log.proofs.Standing.{begins_all, last}
use Rattle.journal_log.specs.Changes.{changes}
use Rattle.journal_log.specs.Crashes.{IsLast, WhereTold}
use Rattle.journal_log.specs.Kept.{HasEarlier, Holds, HoldsPart, IsKept, IsMoment, IsToEnd}
use Rattle.s3_types.specs.Store.{Content}
use Rattle.s3_types.specs.declared.journal.Entry.{Entry}
use Rattle.s3a_top.specs.Jobs.{JobCut, JobEnded, JobPlayed, JobRan, job_text}
use Rattle.s3a_top.specs.Openings.{AreJobsOf, Opens}
use Rattle.s3a_top.specs.inner.Plays.{IsReported, IsTold, JobOver}
use Rattle.s3a_top.specs.inner.Works.{IsWritten}
use Rattle.s3a_top.specs.declared.work.Work.{Work}
use Rattle.s3a_words.specs.declared.command.Command.{Command}
use Rattle.devices.specs.Logged.{CrashesLeave, Holding, IsTimed, Sight, Stored}
use Rattle.devices.specs.Logged.Call.{Load}
use Rattle.devices.specs.declared.kept.ShelfStop.{ShelfStop}
use Rattle.devices.specs.declared.kept.ShelfStop.TheVariants.{Failed, NoMemory}
use Rattle.std.proofs.Common.{List, None, Option, Some, ap, append_assoc, arith, inl, inr, length, refl, subst, sym, ℕ, [], ⊎_elim, ◌++◌}
use Rattle.std.proofs.Common.{◌∙◌, ◌∷◌, ◌≡◌, ◌⊎◌}
use Rattle.store_image.specs.Content.{IsContent}

-- ---- what is stored

-- If all changes are held, all those of earlier events are.
whole_part : (held : Option Stored) (c : Content) (es : List Entry) → Holds held c (changes es) → HoldsPart held c es
whole_part held c es holds = record { part = changes es; holds = holds; begins = begins_all (changes es); earlier = all_earlier }
  where
    all_earlier : HasEarlier es (changes es)
    all_earlier front back e is less =
        let whole : es ≡ (front ++ e ∷ []) ++ back = is ∙ sym (append_assoc front (e ∷ []) back) in
        let parts : changes es ≡ changes (front ++ e ∷ []) ++ changes back = ap changes whole ∙ changes_append (front ++ e ∷ []) back in
        (changes back, sym parts)

-- A run that went to its end was not cut short.
never : {A : Type 0} (due : ℕ) → IsToEnd due → (due ≡ 5) ⊎ (due ≡ 9) → A
never due (inl e) (inl h) = absurd (omega (arith, e, h))
never due (inl e) (inr h) = absurd (omega (arith, e, h))
never due (inr (inl e)) (inl h) = absurd (omega (arith, e, h))
never due (inr (inl e)) (inr h) = absurd (omega (arith, e, h))
never due (inr (inr e)) (inl h) = absurd (omega (arith, e, h))
never due (inr (inr e)) (inr h) = absurd (omega (arith, e, h))

module _ {S : Type 0} (F : Sight S) where
  short_due : (jobs : Jobs) (c : Content) (loaded new : S) (due : ℕ) (es : List Entry) (told : Told) (Says : List ℕ → Type 0)
      → JobCut F jobs c loaded new due es told Says → (due ≡ 5) ⊎ (due ≡ 9)
  short_due jobs c loaded new due es told Says h = ⊎_elim (λ e. inl e.0) (λ e. inr e.0) h.said

  module _ (command : Command) (jobs : Jobs) (c : Content) (loaded new : S) (due : ℕ) (es : List Entry) (told : Told)
      (Says : List ℕ → Type 0)
      (ended : JobEnded F command jobs c loaded new due es told Says ⊎ JobCut F jobs c loaded new due es told Says) where
    pub is_kept : IsKept due (F.held new) c es
    is_kept = record {
      whole = λ to_end. ⊎_elim (λ e. e.holds) (λ e. never due to_end (short_due jobs c loaded new due es told Says e)) ended;
      partly = λ which some. ⊎_elim (λ e. whole_part (F.held new) c es e.holds) (λ e. e.holds) ended;
    }

    pub last_is : IsToEnd due → (h : Holding) → F.may_leave new h → IsLast (F.held new) c es h
    last_is to_end h left = ⊎_elim (λ e. last c es (F.held new) (F.may_leave new) e.holds e.durable h left)
        (λ e. never due to_end (short_due jobs c loaded new due es told Says e)) ended

-- ---- since the load, and before it

pub played_from : {S : Type 0} (F : Sight S) → IsTimed F
    → (command : Command) (left rest : Option (List ℕ)) (old loaded new : S) (work : Work) → F.held loaded ≡ F.held old
    → F.answers Load old loaded → CrashesLeave F old loaded (F.may_leave old) → JobOver F command left rest loaded new work
    → JobPlayed F command left rest old new (code work.answer.due) work.answer.sent.entries work.told (IsWritten work.answer)
played_from F timed command left rest old loaded new work same answered load over =
    let due = code work.answer.due in
    let es = work.answer.sent.entries in
    record {
      jobs = over.jobs;
      opening = over.opening;
      reads = over.reads;
      opens = subst (λ (o : Option Stored). Opens o over.jobs over.opening) same over.opens;
      loaded = loaded;
      load = answered;
      ran = over.ran;
      kept = is_kept F command over.jobs over.opening loaded new due es work.told (IsWritten work.answer) over.ran.ended;
      survives = record {
        within = λ h left. (survives F timed over.opening es (F.held new) old loaded over.mid new load over.replaced over.appended).each h
            left;
        behind = last_is F command over.jobs over.opening loaded new due es work.told (IsWritten work.answer) over.ran.ended;
      };
    }

-- ---- what is stored of a run, and what is written of it

module _ {S : Type 0} (F : Sight S) (command : Command) (jobs : Jobs) (c : Content) (kept : Kept) (old new : S) (due : ℕ) (text : List ℕ)
    (played : IsPlayed F jobs c kept old new) (image : IsContent c) where
  said_whole : IsReported command kept due text → ((due ≡ verdict_of jobs kept.told)
      × (text ≡ job_text command due (length kept.journal.entries) kept.told jobs)) ⊎ ((due ≡ 9) × (text ≡ memory_text))
  said_whole told = subst (λ (n : ℕ). ((due ≡ n) × (text ≡ job_text command due (length kept.journal.entries) kept.told jobs))
      ⊎ ((due ≡ 9) × (text ≡ memory_text))) played.verdict
      (subst (λ (j : Jobs). ((due ≡ kept.verdict) × (text ≡ job_text command due (length kept.journal.entries) kept.told j))
      ⊎ ((due ≡ 9) × (text ≡ memory_text))) played.jobs_are told)

  ended_so : (stop : Option ShelfStop) → IsHeld F c kept.journal.entries stop old new
      → (stop ≡ None → AreFinished jobs c kept.journal.entries kept.told)
      → (stop ≡ Some NoMemory → HaveEventsLeft jobs kept.told ⊎ LacksSince F c kept.journal.entries old new)
      → IsTold stop command kept due text
      → JobEnded F command jobs c old new due kept.journal.entries kept.told (λ t. text ≡ t)
      ⊎ JobCut F jobs c old new due kept.journal.entries kept.told (λ t. text ≡ t)
  ended_so None h finished short told = inl (record {
    finished = finished refl;
    holds = h.0;
    durable = h.1.0;
    calls = h.1.1;
    said = said_whole told;
  })
  ended_so (Some Failed) h finished short told = inr (record {
    holds = h.0;
    calls = h.1;
    said = inl told;
    short = λ e. absurd (omega (arith, e, told.0));
  })
  ended_so (Some NoMemory) h finished short told = inr (record { holds = h.0; calls = h.1; said = inr told; short = λ e. short refl })

  ran_so : IsTold kept.stop command kept due text → JobRan F command jobs c old new due kept.journal.entries kept.told (λ t. text ≡ t)
  ran_so told = record {
    promised = played.promised;
    image = image;
    images = played.images;
    ended = ended_so kept.stop played.held played.finished played.short told;
  }

  -- with other names for what was sent and reported
  pub ran_of : (es : List Entry) (told : Told) → es ≡ kept.journal.entries → told ≡ kept.told → IsTold kept.stop command kept due text
      → JobRan F command jobs c old new due es told (λ t. text ≡ t)
  ran_of es told sent same is =
      let Says : List ℕ → Type 0 = λ t. text ≡ t in
      subst (λ (l : List Entry). JobRan F command jobs c old new due l told Says) (sym sent)
      (subst (λ (x : Told). JobRan F command jobs c old new due kept.journal.entries x Says) (sym same) (ran_so is))

-- Jobs that ran, and the work that answers them.
pub over_of : {S : Type 0} (F : Sight S) (command : Command) (left rest : Option (List ℕ)) (jobs : Jobs) (c : Content) (kept : Kept)
    (old new : S) (work : Work) → AreJobsOf command left rest jobs → Opens (F.held old) jobs c → IsPlayed F jobs c kept old new
    → IsContent c
    → work.answer.sent ≡ kept.journal → work.told ≡ kept.told
    → IsTold kept.stop command kept (code work.answer.due) (written_text work.answer.due work.answer.text)
    → JobOver F command left rest old new work
over_of F command left rest jobs c kept old new work reads opens played image sent told is =
    let es : work.answer.sent.entries ≡ kept.journal.entries = ap (λ j. j.entries) sent in
    let survived = played.survives in
    record {
      jobs = jobs;
      opening = c;
      reads = reads;
      opens = opens;
      ran = ran_of F command jobs c kept old new (code work.answer.due) (written_text work.answer.due work.answer.text) played image
          work.answer.sent.entries work.told es told is;
      mid = survived.0;
      replaced = survived.1.0;
      appended = subst (λ (l : List Entry). CrashesLeave F survived.0 new (λ h. WhereTold (F.held new) (IsMoment c l h))) (sym es)
          survived.1.1;
    }
