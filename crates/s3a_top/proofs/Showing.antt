-- The outcome of words that ask for a trace follows from the outcome of the command that they name.
use Rattle.durable_job.specs.declared.jobs.Jobs.TheVariants.{Two}
use Rattle.durable_store.proofs.Found.{few_ids}
use Rattle.durable_store.specs.Outcomes.{IsSound, Tells}
use Rattle.durable_store.specs.Works.{IsPlain, IsSaid, Says, Work as Doing}
use Rattle.durable_store.specs.declared.shelf_state.ShelfState.{ShelfState}
use Rattle.durable_store.specs.declared.shelf_state.ShelfState.TheVariants.{Faulty, Nothing, Store}
use Rattle.durable_store.specs.declared.work.CommandAnswer.{CommandAnswer}
use Rattle.exit_status.specs.Statuses.{code, written_text}
use Rattle.exit_status.specs.declared.statuses.Status.{Status}
use Rattle.s3_types.specs.Moment.{IsHonest}
use Rattle.s3_types.specs.Store.{Content, new_content}
use Rattle.s3_types.specs.declared.limits.TheConstants.{MOST_MINIMUM}
use Rattle.s3a_shell.specs.Commanded.{Done, DoneOn, IsWork, init_work, plays, work_said}
use Rattle.s3a_shell.specs.Sendings.{has_changed}
use Rattle.s3a_top.proofs.Coming.{job_wanting, not_both, not_said, store_wanting}
use Rattle.s3a_top.proofs.Crashing.{loaded_alone}
use Rattle.s3a_top.proofs.Halting.{halted_told, no_command, store_halted, told_counts, told_due, told_usage}
use Rattle.s3a_top.proofs.Telling.{counted_done, tells_none, worked_due, worked_usage}
use Rattle.s3a_top.specs.Commands.{StoreStopped}
use Rattle.s3a_top.specs.Jobs.{JobStopped}
use Rattle.s3a_top.specs.Openings.{AreJobsOf}
use Rattle.s3a_top.specs.inner.Statuses.{IsWorked}
use Rattle.s3a_top.specs.Traces.{IsLoaded, JobTraced, StoreTraced, shown_sends, shown_status, store_in}
use Rattle.s3a_top.specs.inner.Traces.{Shows}
use Rattle.s3a_top.specs.inner.Tracings.{AnswerShown, IsShownOf, JobShows, JobTraces, StoreShows, StoreTraces, Traces}
use Rattle.s3a_top.specs.inner.Workings.{Counted, IsAnswered, IsStopped}
use Rattle.s3a_top.specs.inner.Works.{IsWritten}
use Rattle.s3a_top.specs.declared.stop.Stop.{Stop}
use Rattle.s3a_top.specs.declared.stop.Stop.TheVariants.{NoMemory, Usage}
use Rattle.s3a_top.specs.declared.work.Work.{Work}
use Rattle.s3a_words.specs.declared.command.Command.{Command}
use Rattle.s3a_words.specs.declared.command.Command.TheVariants.{Init, Twins}
use Rattle.devices.specs.Logged.{CrashesLeave, IsTimed, Sight}
use Rattle.devices.specs.Logged.Call.{Load}
use Rattle.devices.specs.declared.kept.ShelfStop.{ShelfStop}
use Rattle.std.proofs.Common.{Bool, Err, IfOk, IsErrOf, List, None, Ok, Option, Result, Some, ap, arith, false, inl, inr, refl, subst, sym}
use Rattle.std.proofs.Common.{true, ℕ, ◌^◌, ◌∙◌, ◌≡◌, ◌≢◌, ◌≤◌, ◌⊎◌}
use Rattle.exit_status.specs.declared.statuses.Status.TheVariants as statuses
use Rattle.devices.specs.declared.kept.ShelfStop.TheVariants as shelves
use Rattle.twin_script.specs.TwinScripts as twin_scripts

-- ---- what a command does on what is held

-- A command other than `twins` does not run two jobs.
pub not_two : (command : Command) (left rest : Option (List ℕ)) (t : twin_scripts.Twins) → (command ≡ Twins → ⊥)
    → AreJobsOf command left rest (Two t) → ⊥
not_two Twins left rest t single h = single refl
not_two _ left rest t single h = h

-- The store on which a command is done has upload ids left.
pub few_in : (held : ShelfState) → IsSound held → (store_in held).next ≤ 2 ^ 62
few_in (Store c) sound = few_ids c sound
few_in Nothing sound = omega arith
few_in (Faulty number place) sound = omega arith

-- Each request of a command has the reply that S3 must give.
done_honest : (command : Command) (bytes : List ℕ) (c : Content) (work : Doing) → Done command bytes c work → IsHonest c (shown_sends work)
done_honest command bytes c work d =
    subst (IsHonest c) (sym (ap shown_sends d.is ∙ by d.what.refused (has_changed d.sent) d.what.text)) d.honest
  where
    by : (refused changed : Bool) (text : List ℕ) → shown_sends (work_said refused changed c text d.sent) ≡ d.sent
    by true changed text = refl
    by false true text = refl
    by false false text = refl

-- So it is for `init`, which sends none.
init_honest : (minimum : Option ℕ) (before : ShelfState) → IsHonest (store_in before) (shown_sends (init_work minimum before))
unfolding init_work
init_honest minimum Nothing = tt
init_honest minimum (Store c) = tt
init_honest minimum (Faulty number place) = tt

held_honest : (command : Command) (bytes : List ℕ) (before : ShelfState) (work : Doing) → DoneOn command bytes before work
    → IsHonest (store_in before) (shown_sends work)
held_honest command bytes Nothing work d = done_honest command bytes (new_content MOST_MINIMUM) work d
held_honest command bytes (Store c) work d = done_honest command bytes c work d
held_honest command bytes (Faulty number place) work d =
    subst (λ (w : Doing). IsHonest (new_content MOST_MINIMUM) (shown_sends w)) (sym d) tt

pub sends_honest : (command : Command) (bytes : List ℕ) (before : ShelfState) (work : Doing) → IsWork command bytes before work
    → IsHonest (store_in before) (shown_sends work)
sends_honest (Init minimum) bytes before work is =
    subst (λ (w : Doing). IsHonest (store_in before) (shown_sends w)) (sym is) (init_honest minimum before)
sends_honest command bytes before work is = held_honest command bytes before work is

-- The statuses with which a traced command may end.
pub shown_own : (work : Doing) → IsPlain work → IsWorked (shown_status work) × (code (shown_status work) ≢ 5)
shown_own (Says due text sent) plain = by due plain
  where
    by : (s : Status) → IsSaid s → IsWorked s × (code s ≢ 5)
    by statuses.Done h = (tt, λ e. cc)
    by statuses.Refused h = (tt, λ e. cc)
    by statuses.BadImage h = (tt, λ e. cc)
    by _ h = absurd h
shown_own _ plain = (tt, λ e. cc)

-- An answer that shows the command's work shows the command.
pub answer_shown : {E : Type 0} (command : Command) (bytes : List ℕ) (before : ShelfState) (work : Doing) (result : Result CommandAnswer E)
    → IsWork command bytes before work → IsPlain work → IfOk result (IsShownOf before work)
    → IfOk result (AnswerShown command bytes before)
answer_shown command bytes before work (Ok answer) does plain shown = record { work = work; does = does; plain = plain; shown = shown }
answer_shown command bytes before work (Err error) does plain shown = tt

-- Neither the input nor the shelf failed.
pub shown_counts : (command : Command) (bytes : List ℕ) (before : ShelfState) (answer : CommandAnswer) (work : Work) (left rest n : ℕ)
    → work.answer ≡ answer → AnswerShown command bytes before answer → rest ≡ left → Counted (Ok work) left rest n n
shown_counts command bytes before answer work left rest n is h same =
    let own = shown_own h.work h.plain in
    let due : work.answer.due ≡ shown_status h.work = ap (λ (a : CommandAnswer). a.due) is ∙ h.shown.status in
    counted_done work left rest n n (subst IsWorked (sym due) own.0) same
    (subst (λ (s : Status). Tells 5 (code s) n n) (sym due) (tells_none 5 (code (shown_status h.work)) n n own.1 refl))

-- ---- since the load

-- The load was answered, or failed.
pub load_ended : {S : Type 0} (F : Sight S) (old new : S) (fault : ShelfStop)
    → ((IsErrOf {T = ShelfState} {E = ShelfStop} (Err fault) shelves.Failed → ⊥) → F.answers Load old new)
    → (IsErrOf {T = ShelfState} {E = ShelfStop} (Err fault) shelves.Failed → F.fails Load old new)
    → IsLoaded F old new
load_ended F old new shelves.Failed answered broken = inr (inl (broken refl))
load_ended F old new shelves.NoMemory answered broken = inr (inr (answered (λ e. cc)))

module _ {S : Type 0} (F : Sight S) (command : Command) (left rest : Option (List ℕ)) (old new : S) where
  pub job_traced : (result : Result Work Stop) → F.held new ≡ F.held old → F.answers Load old new
      → CrashesLeave F old new (F.may_leave old) → JobShows command (F.held old) left rest result
      → JobTraces F command left rest old new result
  job_traced (Ok work) same answered leaves h = record {
    script = h.script;
    opening = h.opening;
    reads = h.reads;
    opens = h.opens;
    promised = h.shown.promised;
    finished = h.shown.finished;
    status = h.shown.status;
    said = h.shown.said;
    load = answered;
  }
  job_traced (Err stop) same answered leaves cause = record {
    cause = cause;
    same = same;
    calls = inr (inr (new, (answered, inl refl)));
    leaves = loaded_alone F old new command (F.held old) left rest leaves;
  }

  pub store_traced : (result : Result Work Stop) → F.held new ≡ F.held old → F.answers Load old new
      → CrashesLeave F old new (F.may_leave old) → StoreShows command (F.held old) left rest result
      → StoreTraces F command left rest old new result
  store_traced (Ok work) same answered leaves h = (
    record {
      before = h.before;
      found = h.found;
      bytes = h.bytes;
      input = h.input;
      work = h.shown.work;
      does = h.shown.does;
      sent = h.shown.shown.sent;
      status = ap code h.shown.shown.status;
      said = h.shown.shown.said;
      load = answered;
    },
    h.quiet,
  )
  store_traced (Err stop) same answered leaves reason =
      record { reason = reason; same = same; calls = inr (inr answered); leaves = leaves }

  pub traces_job : (result : Result Work Stop) → plays command ≡ true → IsLoaded F old new
      → JobTraces F command left rest old new result → Traces F command left rest old new result
  traces_job result is loaded goes = record { job = λ e. goes; store = λ e. not_both (plays command) is e; loaded = loaded }

  pub traces_store : (result : Result Work Stop) → plays command ≡ false → IsLoaded F old new
      → StoreTraces F command left rest old new result → Traces F command left rest old new result
  traces_store result is loaded goes = record { job = λ e. not_both (plays command) e is; store = λ e. goes; loaded = loaded }

  -- a trace never stops with Usage
  no_usage : Traces F command left rest old new (Err Usage) → ⊥
  no_usage goes = by (plays command) goes.job goes.store
    where
      by : (b : Bool) → (b ≡ true → JobTraces F command left rest old new (Err Usage))
          → (b ≡ false → StoreTraces F command left rest old new (Err Usage)) → ⊥
      by true job store = (job refl).cause
      by false job store = (store refl).reason

-- ---- words

module _ {S : Type 0} (F : Sight S) (named : Option Command) (left rest : Option (List ℕ)) (old new : S) (i j m n : ℕ) where
  abbrev pub ShowsOf : Work → Type 0
  ShowsOf work =
      Shows F named left rest old new i j m n (code work.answer.due) work.answer.sent.entries work.told (IsWritten work.answer)

  abbrev IsJob : Work → Command → Type 0
  IsJob work c = plays c ≡ true
      → JobTraced F c left rest old new (code work.answer.due) work.answer.sent.entries work.told (IsWritten work.answer)
      ⊎ JobStopped F c left rest old new (code work.answer.due) work.answer.sent.entries work.told (IsWritten work.answer)

  abbrev IsStore : Work → Command → Type 0
  IsStore work c = plays c ≡ false
      → StoreTraced F c left rest old new (code work.answer.due) work.answer.sent.entries (IsWritten work.answer)
      ⊎ StoreStopped F c left rest old new (code work.answer.due) work.answer.sent.entries (IsWritten work.answer)

  same : (command c : Command) → named ≡ Some command → named ≡ Some c → command ≡ c
  same command c is e = cc

  -- the words name a command
  pub shows_of : (command : Command) (done : Result Work Stop) (work : Work) → named ≡ Some command
      → Traces F command left rest old new done → Counted done i j m n → IsAnswered done work → ShowsOf work
  shows_of command (Ok done) work is goes counted answered = subst ShowsOf (sym answered) (record {
    due = worked_due done.answer.due counted.own;
    read = counted.read;
    shelf = counted.shelf;
    job = λ c e. subst (IsJob done) (same command c is e) (λ p. inl (goes.job p));
    store = λ c e. subst (IsStore done) (same command c is e) (λ p. inl (goes.store p).0);
    quiet = λ c e p. (goes.store (subst (λ (x : Command). plays x ≡ false) (sym (same command c is e)) p)).1;
    loaded = goes.loaded;
    usage = λ e. not_said named command is e;
    command = λ e. absurd (worked_usage done.answer.due counted.own e);
  })
  shows_of command (Err stop) work is goes counted stopped =
      let due = work.answer.due in
      let text = written_text due work.answer.text in
      let es = work.answer.sent.entries in
      record {
        due = told_due stop due text stopped.told;
        read = told_counts 3 stop due text i j (λ e. cc) (λ e. cc) (λ e. cc) stopped.told counted.read;
        shelf = told_counts 5 stop due text m n (λ e. cc) (λ e. cc) (λ e. cc) stopped.told counted.shelf;
        job = λ c e. subst (IsJob work) (same command c is e)
            (λ p. inr (halted_told F command left rest old new stop due text es work.told (goes.job p) stopped.told stopped.idle));
        store = λ c e. subst (IsStore work) (same command c is e)
            (λ p. inr (store_halted F command left rest old new stop due text es work.told (goes.store p) stopped.told stopped.idle));
        quiet = λ c e p. stopped.idle.nothing;
        loaded = goes.loaded;
        usage = λ e. not_said named command is e;
        command = λ e. absurd (no_usage F command left rest old new
            (subst (λ (s : Stop). Traces F command left rest old new (Err s)) (told_usage stop due text stopped.told e) goes));
      }

-- The words name no command, or memory ran out for it.
module _ {S : Type 0} (F : Sight S) (named : Option Command) (left : Option (List ℕ)) (old : S) (i n : ℕ) (work : Work) where
  pub usage_shows : named ≡ None → IsStopped Usage work → ShowsOf F named left left old old i i n n work
  usage_shows none stopped =
      let due = work.answer.due in
      let text = written_text due work.answer.text in
      record {
        due = told_due Usage due text stopped.told;
        read = told_counts 3 Usage due text i i (λ e. cc) (λ e. cc) (λ e. cc) stopped.told (tells_none 3 2 i i (λ e. cc) refl);
        shelf = told_counts 5 Usage due text n n (λ e. cc) (λ e. cc) (λ e. cc) stopped.told (tells_none 5 2 n n (λ e. cc) refl);
        job = λ c e p. not_said named c e none;
        store = λ c e p. not_said named c e none;
        quiet = λ c e p. not_said named c e none;
        loaded = inl refl;
        usage = λ e. no_command old old Usage due text work.answer.sent.entries work.told (inl refl) refl stopped.told stopped.idle;
        command = λ e. none;
      }

  pub wanting_shows : IsTimed F → IsStopped NoMemory work → ShowsOf F named left left old old i i n n work
  wanting_shows timed stopped =
      let due = work.answer.due in
      let text = written_text due work.answer.text in
      let es = work.answer.sent.entries in
      record {
        due = told_due NoMemory due text stopped.told;
        read = told_counts 3 NoMemory due text i i (λ e. cc) (λ e. cc) (λ e. cc) stopped.told (tells_none 3 9 i i (λ e. cc) refl);
        shelf = told_counts 5 NoMemory due text n n (λ e. cc) (λ e. cc) (λ e. cc) stopped.told (tells_none 5 9 n n (λ e. cc) refl);
        job = λ c e p. inr (halted_told F c left left old old NoMemory due text es work.told (job_wanting F left old c timed) stopped.told
            stopped.idle);
        store = λ c e p. inr (store_halted F c left left old old NoMemory due text es work.told (store_wanting F left old c timed)
            stopped.told stopped.idle);
        quiet = λ c e p. stopped.idle.nothing;
        loaded = inl refl;
        usage = λ e. no_command old old NoMemory due text es work.told (inr refl) refl stopped.told stopped.idle;
        command = λ e. let is : NoMemory ≡ Usage = told_usage NoMemory due text stopped.told e in absurd (cc);
      }
