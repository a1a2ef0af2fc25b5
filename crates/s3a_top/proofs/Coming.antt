-- The outcome of words follows from the outcome of their command.
use Rattle.exit_status.specs.Statuses.{code, written_text}
use Rattle.s3a_shell.specs.Commanded.{plays}
use Rattle.s3a_top.proofs.Crashing.{unmoved}
use Rattle.s3a_top.proofs.Halting.{halted_told, job_halted, no_command, store_halted, told_counts, told_due, told_usage}
use Rattle.s3a_top.proofs.Playing.{played_from}
use Rattle.s3a_top.proofs.Telling.{tells_none, worked_due, worked_usage}
use Rattle.s3a_top.specs.Commands.{StoreDone, StoreStopped}
use Rattle.s3a_top.specs.Jobs.{JobPlayed, JobStopped, MayHaveLeft}
use Rattle.s3a_top.specs.inner.Plays.{JobSince}
use Rattle.s3a_top.specs.inner.Workings.{Comes, Counted, Goes, IsAnswered, IsStopped, JobGoes, JobHalted, StoreGoes, StoreHalted}
use Rattle.s3a_top.specs.inner.Works.{IsWritten}
use Rattle.s3a_top.specs.declared.stop.Stop.{Stop}
use Rattle.s3a_top.specs.declared.stop.Stop.TheVariants.{NoMemory, Usage}
use Rattle.s3a_top.specs.declared.work.Work.{Work}
use Rattle.s3a_words.specs.declared.command.Command.{Command}
use Rattle.devices.specs.Logged.{CrashesLeave, IsTimed, Sight}
use Rattle.devices.specs.Logged.Call.{Load}
use Rattle.std.proofs.Common.{Bool, Err, List, None, Ok, Option, Result, Some, false, inl, inr, refl, subst, sym, true, ℕ, ◌≡◌, ◌⊎◌}

pub not_both : {A : Type 0} (b : Bool) → b ≡ true → b ≡ false → A
not_both true is is_not = absurd (cc)
not_both false is is_not = absurd (cc)

pub not_said : {A : Type 0} (said : Option Command) (c : Command) → said ≡ Some c → said ≡ None → A
not_said None c is is_not = absurd (cc)
not_said (Some d) c is is_not = absurd (cc)

-- ---- a command

module _ {S : Type 0} (F : Sight S) (command : Command) (left rest : Option (List ℕ)) where
  -- the outcome since the load, extended to the time before the load
  pub job_from : (result : Result Work Stop) → IsTimed F → (old mid new : S) → F.held mid ≡ F.held old → F.answers Load old mid
      → CrashesLeave F old mid (F.may_leave old) → JobSince F command left rest mid new result → JobGoes F command left rest old new result
  job_from (Ok work) timed old mid new same answered load over = played_from F timed command left rest old mid new work same answered load
      over
  job_from (Err stop) timed old mid new same answered load broke = job_halted F command left rest timed old mid new stop same answered load
      broke

  pub goes_job : (result : Result Work Stop) (old new : S) → plays command ≡ true → JobGoes F command left rest old new result
      → Goes F command left rest old new result
  goes_job result old new is goes = record { job = λ e. goes; store = λ e. not_both (plays command) is e }

  pub goes_store : (result : Result Work Stop) (old new : S) → plays command ≡ false → StoreGoes F command left rest old new result
      → Goes F command left rest old new result
  goes_store result old new is goes = record { job = λ e. not_both (plays command) e is; store = λ e. goes }

  -- a command never stops with Usage
  none_usage : (old new : S) → Goes F command left rest old new (Err Usage) → ⊥
  none_usage old new goes = by (plays command) goes.job goes.store
    where
      by : (b : Bool) → (b ≡ true → JobGoes F command left rest old new (Err Usage))
          → (b ≡ false → StoreGoes F command left rest old new (Err Usage)) → ⊥
      by true job store = (job refl).cause
      by false job store = (store refl).reason

-- ---- words

module _ {S : Type 0} (F : Sight S) (said : Option Command) (left rest : Option (List ℕ)) (old new : S) (i j m n : ℕ) where
  abbrev pub ComesOf : Work → Type 0
  ComesOf work = Comes F said left rest old new i j m n (code work.answer.due) work.answer.sent.entries work.told (IsWritten work.answer)

  abbrev IsJob : Work → Command → Type 0
  IsJob work c = plays c ≡ true
      → JobPlayed F c left rest old new (code work.answer.due) work.answer.sent.entries work.told (IsWritten work.answer)
      ⊎ JobStopped F c left rest old new (code work.answer.due) work.answer.sent.entries work.told (IsWritten work.answer)

  abbrev IsStore : Work → Command → Type 0
  IsStore work c = plays c ≡ false → StoreDone F c left rest old new (code work.answer.due) work.answer.sent.entries (IsWritten work.answer)
      ⊎ StoreStopped F c left rest old new (code work.answer.due) work.answer.sent.entries (IsWritten work.answer)

  same : (command c : Command) → said ≡ Some command → said ≡ Some c → command ≡ c
  same command c is e = cc

  -- the words name a command
  pub comes_of : (command : Command) (done : Result Work Stop) (work : Work) → said ≡ Some command → Goes F command left rest old new done
      → Counted done i j m n → IsAnswered done work → ComesOf work
  comes_of command (Ok done) work is goes counted answered = subst ComesOf (sym answered) (record {
    due = worked_due done.answer.due counted.own;
    read = counted.read;
    shelf = counted.shelf;
    job = λ c e. subst (IsJob done) (same command c is e) (λ p. inl (goes.job p));
    store = λ c e. subst (IsStore done) (same command c is e) (λ p. inl (goes.store p).0);
    quiet = λ c e p. (goes.store (subst (λ (x : Command). plays x ≡ false) (sym (same command c is e)) p)).1;
    usage = λ e. not_said said command is e;
    command = λ e. absurd (worked_usage done.answer.due counted.own e);
  })
  comes_of command (Err stop) work is goes counted stopped =
      let due = work.answer.due in
      let text = written_text due work.answer.text in
      let es = work.answer.sent.entries in
      record {
        due = told_due stop due text stopped.told;
        read = told_counts 3 stop due text i j (λ e. cc) (λ e. cc) (λ e. cc) stopped.told counted.read;
        shelf = told_counts 5 stop due text m n (λ e. cc) (λ e. cc) (λ e. cc) stopped.told counted.shelf;
        job = λ c e. subst (IsJob work) (same command c is e) (λ p. inr
            (halted_told F command left rest old new stop due text es work.told (goes.job p) stopped.told stopped.idle));
        store = λ c e. subst (IsStore work) (same command c is e) (λ p. inr
            (store_halted F command left rest old new stop due text es work.told (goes.store p) stopped.told stopped.idle));
        quiet = λ c e p. stopped.idle.nothing;
        usage = λ e. not_said said command is e;
        command = λ e. absurd (none_usage F command left rest old new (subst (λ (s : Stop). Goes F command left rest old new (Err s))
            (told_usage stop due text stopped.told e) goes));
      }

-- memory ran out for the command
module _ {S : Type 0} (F : Sight S) (left : Option (List ℕ)) (old : S) (c : Command) (timed : IsTimed F) where
  pub job_wanting : JobHalted F c left left old old NoMemory
  job_wanting = record {
    cause = inl refl;
    same = refl;
    calls = inl (refl, refl);
    leaves = unmoved F old
        (MayHaveLeft (F.may_leave old) c (F.held old) left left) timed (λ h is. inl is);
  }

  pub store_wanting : StoreHalted F c left left old old NoMemory
  store_wanting = record { reason = inl refl; same = refl; calls = inl refl; leaves = unmoved F old (F.may_leave old) timed (λ h is. is) }

-- the words name no command, or memory ran out for it
module _ {S : Type 0} (F : Sight S) (said : Option Command) (left : Option (List ℕ)) (old : S) (i n : ℕ) (work : Work) where
  pub usage_comes : said ≡ None → IsStopped Usage work → ComesOf F said left left old old i i n n work
  usage_comes none stopped =
      let due = work.answer.due in
      let text = written_text due work.answer.text in
      record {
        due = told_due Usage due text stopped.told;
        read = told_counts 3 Usage due text i i (λ e. cc) (λ e. cc) (λ e. cc) stopped.told (tells_none 3 2 i i (λ e. cc) refl);
        shelf = told_counts 5 Usage due text n n (λ e. cc) (λ e. cc) (λ e. cc) stopped.told (tells_none 5 2 n n (λ e. cc) refl);
        job = λ c e p. not_said said c e none;
        store = λ c e p. not_said said c e none;
        quiet = λ c e p. not_said said c e none;
        usage = λ e. no_command old old Usage due text work.answer.sent.entries work.told (inl refl) refl stopped.told stopped.idle;
        command = λ e. none;
      }

  pub wanting_comes : IsTimed F → IsStopped NoMemory work → ComesOf F said left left old old i i n n work
  wanting_comes timed stopped =
      let due = work.answer.due in
      let text = written_text due work.answer.text in
      let es = work.answer.sent.entries in
      record {
        due = told_due NoMemory due text stopped.told;
        read = told_counts 3 NoMemory due text i i (λ e. cc) (λ e. cc) (λ e. cc) stopped.told (tells_none 3 9 i i (λ e. cc) refl);
        shelf = told_counts 5 NoMemory due text n n (λ e. cc) (λ e. cc) (λ e. cc) stopped.told (tells_none 5 9 n n (λ e. cc) refl);
        job = λ c e p. inr (halted_told F c left left old old NoMemory due text es work.told (job_wanting F left old c timed) stopped.told
            stopped.idle);
        store = λ c e p. inr (store_halted F c left left old old NoMemory due text es work.told (store_wanting F left old c timed)
            stopped.told stopped.idle);
        quiet = λ c e p. stopped.idle.nothing;
        usage = λ e. no_command old old NoMemory due text es work.told (inr refl) refl stopped.told stopped.idle;
        command = λ e. let is : NoMemory ≡ Usage = told_usage NoMemory due text stopped.told e in absurd (cc);
      }
