-- The outcome of words, whether they ask for a trace or not.
use Rattle.durable_job.specs.Jobs.{nothing_told}
use Rattle.durable_job.specs.declared.jobs.Told.{Told}
use Rattle.durable_store.specs.Outcomes.{Tells}
use Rattle.exit_status.specs.Statuses.{code, written_text}
use Rattle.s3_types.specs.declared.journal.Entry.{Entry}
use Rattle.s3a_shell.specs.Commanded.{plays}
use Rattle.s3a_top.proofs.Coming.{not_both, not_said}
use Rattle.s3a_top.proofs.Naming.{named_said, named_trace, trace_no_command, traced_so, untraced}
use Rattle.s3a_top.proofs.Outs.{comes_written, shows_written}
use Rattle.s3a_top.specs.Commands.{NoCommand, StoreDone, StoreStopped}
use Rattle.s3a_top.specs.Jobs.{JobPlayed, JobStopped}
use Rattle.s3a_top.specs.Statuses.{IsDue, Writes}
use Rattle.s3a_top.specs.Traces.{IsLoaded, JobTraced, StoreTraced, asks_trace, named_command, traced_command, traced_in}
use Rattle.s3a_top.specs.inner.Traces.{Shows}
use Rattle.s3a_top.specs.inner.Workings.{Comes}
use Rattle.s3a_top.specs.inner.Works.{IsWritten}
use Rattle.s3a_top.specs.declared.work.Work.{Work}
use Rattle.s3a_words.specs.Words.{command_of}
use Rattle.s3a_words.specs.declared.command.Command.{Command}
use Rattle.devices.specs.Logged.{Sight}
use Rattle.std.proofs.Common.{Bool, List, None, Option, Some, false, refl, sym, true, ℕ, ◌∙◌, ◌≡◌, ◌⊎◌}

-- All that `run` says of the status, of what was done or traced, and of words that are no command.
pub record Ends {S : Type 0} (F : Sight S) (words : List (List ℕ)) (left rest : Option (List ℕ)) (old new : S) (i j m n status : ℕ)
    (es : List Entry) (told : Told) (Says : List ℕ → Type 0) : Type 0 where
  pub due : IsDue status
  pub read : Tells 3 status i j
  pub shelf : Tells 5 status m n
  pub job : (c : Command) → command_of words ≡ Some c → plays c ≡ true
      → JobPlayed F c left rest old new status es told Says ⊎ JobStopped F c left rest old new status es told Says
  pub store : (c : Command) → command_of words ≡ Some c → plays c ≡ false
      → StoreDone F c left rest old new status es Says ⊎ StoreStopped F c left rest old new status es Says
  pub quiet : (c : Command) → command_of words ≡ Some c → plays c ≡ false → told ≡ nothing_told
  pub trace_job : (c : Command) → traced_command words ≡ Some c → plays c ≡ true
      → JobTraced F c left rest old new status es told Says ⊎ JobStopped F c left rest old new status es told Says
  pub trace_store : (c : Command) → traced_command words ≡ Some c → plays c ≡ false
      → StoreTraced F c left rest old new status es Says ⊎ StoreStopped F c left rest old new status es Says
  pub trace_loads : asks_trace words ≡ true → IsLoaded F old new
  pub usage : named_command words ≡ None → NoCommand status old new es told Says
  pub command : status ≡ 2 → named_command words ≡ None

module _ {S : Type 0} (F : Sight S) (words : List (List ℕ)) (left rest : Option (List ℕ)) (old new : S) (i j m n status : ℕ)
    (es : List Entry) (told : Told) (Says : List ℕ → Type 0) where
  -- the words ask for a trace
  ends_shown : asks_trace words ≡ true → Shows F (traced_in words) left rest old new i j m n status es told Says
      → Ends F words left rest old new i j m n status es told Says
  ends_shown asks h = record {
    due = h.due;
    read = h.read;
    shelf = h.shelf;
    job = λ c e p. not_said (command_of words) c e (trace_no_command words asks);
    store = λ c e p. not_said (command_of words) c e (trace_no_command words asks);
    quiet = λ c e p. not_said (command_of words) c e (trace_no_command words asks);
    trace_job = λ c e p. h.job c (sym (traced_so words asks) ∙ e) p;
    trace_store = λ c e p. h.store c (sym (traced_so words asks) ∙ e) p;
    trace_loads = λ e. h.loaded;
    usage = λ e. h.usage (sym (named_trace words asks) ∙ e);
    command = λ e. named_trace words asks ∙ h.command e;
  }

  -- the words ask for no trace
  ends_come : asks_trace words ≡ false → Comes F (command_of words) left rest old new i j m n status es told Says
      → Ends F words left rest old new i j m n status es told Says
  ends_come asks h = record {
    due = h.due;
    read = h.read;
    shelf = h.shelf;
    job = h.job;
    store = h.store;
    quiet = h.quiet;
    trace_job = λ c e p. not_said (traced_command words) c e (untraced words asks);
    trace_store = λ c e p. not_said (traced_command words) c e (untraced words asks);
    trace_loads = λ e. not_both (asks_trace words) e asks;
    usage = λ e. h.usage (sym (named_said words asks) ∙ e);
    command = λ e. named_said words asks ∙ h.command e;
  }

  ends_either : (b : Bool) → asks_trace words ≡ b
      → (b ≡ false → Comes F (command_of words) left rest old new i j m n status es told Says)
      → (b ≡ true → Shows F (traced_in words) left rest old new i j m n status es told Says)
      → Ends F words left rest old new i j m n status es told Says
  ends_either true asks comes shows = ends_shown asks (shows refl)
  ends_either false asks comes shows = ends_come asks (comes refl)

-- The same after the text was written.
pub ends_written : {S : Type 0} (F : Sight S) (words : List (List ℕ)) (left rest : Option (List ℕ)) (old new : S) (i j m n : ℕ)
    (work : Work) (status due : ℕ) (before after : Option (List ℕ)) → due ≡ code work.answer.due
    → Writes status before after (written_text work.answer.due work.answer.text)
    → (asks_trace words ≡ false → Comes F (command_of words) left rest old new i j m n (code work.answer.due)
    work.answer.sent.entries work.told (IsWritten work.answer))
    → (asks_trace words ≡ true → Shows F (traced_in words) left rest old new i j m n (code work.answer.due)
    work.answer.sent.entries work.told (IsWritten work.answer))
    → Ends F words left rest old new i j m n due work.answer.sent.entries work.told (Writes status before after)
ends_written F words left rest old new i j m n work status due before after is written comes shows =
    ends_either F words left rest old new i j m n due work.answer.sent.entries work.told (Writes status before after) (asks_trace words)
    refl
    (λ e. comes_written F (command_of words) left rest old new i j m n work status due before after is written (comes e))
    (λ e. shows_written F (traced_in words) left rest old new i j m n work status due before after is written (shows e))
