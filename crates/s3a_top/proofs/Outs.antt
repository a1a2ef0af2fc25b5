-- From the text that is to be written to the text that was written.
use Rattle.durable_job.specs.declared.jobs.Jobs.{Jobs}
use Rattle.durable_job.specs.declared.jobs.Told.{Told}
use Rattle.durable_store.specs.Works.{Work as Doing}
use Rattle.exit_status.specs.Statuses.{code, written_text}
use Rattle.exit_status.specs.declared.statuses.Status.{Status}
use Rattle.s3_types.specs.Store.{Content}
use Rattle.s3_types.specs.declared.journal.Entry.{Entry}
use Rattle.s3a_top.specs.Commands.{StoreDone, StoreStopped, WorkDone}
use Rattle.s3a_top.specs.Jobs.{JobCut, JobEnded, JobPlayed, JobRan, JobStopped}
use Rattle.s3a_top.specs.Statuses.{Writes}
use Rattle.s3a_top.specs.Traces.{JobTraced, StoreTraced}
use Rattle.s3a_top.specs.inner.Traces.{Shows}
use Rattle.s3a_top.specs.inner.Workings.{Comes}
use Rattle.s3a_top.specs.inner.Works.{IsWritten}
use Rattle.s3a_top.specs.declared.work.Work.{Work}
use Rattle.s3a_words.specs.declared.command.Command.{Command}
use Rattle.devices.specs.Logged.{Sight}
use Rattle.std.proofs.Common.{List, Option, inl, inr, subst, sym, ℕ, ⊎_elim, ◌≡◌, ◌⊎◌}

-- One of two texts, each mapped.
said_out : (P Q A B C D : Type 0) → (A → C) → (B → D) → (P × A) ⊎ (Q × B) → (P × C) ⊎ (Q × D)
said_out P Q A B C D f g (inl h) = inl (h.0, f h.1)
said_out P Q A B C D f g (inr h) = inr (h.0, g h.1)

module _ (A B : List ℕ → Type 0) (f : (t : List ℕ) → A t → B t) {S : Type 0} (F : Sight S) where
  module _ (due : ℕ) (es : List Entry) (told : Told) where
    ended_out : (command : Command) (jobs : Jobs) (c : Content) (loaded new : S) → JobEnded F command jobs c loaded new due es told A
        → JobEnded F command jobs c loaded new due es told B
    ended_out command jobs c loaded new h = record {
      finished = h.finished;
      holds = h.holds;
      durable = h.durable;
      calls = h.calls;
      said =
          said_out _ _ _ _ _ _ (f _) (f _) h.said;
    }

    cut_out : (jobs : Jobs) (c : Content) (loaded new : S) → JobCut F jobs c loaded new due es told A
        → JobCut F jobs c loaded new due es told B
    cut_out jobs c loaded new h = record {
      holds = h.holds;
      calls = h.calls;
      said = said_out _ _ _ _ _ _ (f _) (f _) h.said;
      short = h.short;
    }

    ran_out : (command : Command) (jobs : Jobs) (c : Content) (loaded new : S) → JobRan F command jobs c loaded new due es told A
        → JobRan F command jobs c loaded new due es told B
    ran_out command jobs c loaded new h = record {
      promised = h.promised;
      image = h.image;
      images = h.images;
      ended = ⊎_elim (λ e. inl (ended_out command jobs c loaded new e)) (λ e. inr (cut_out jobs c loaded new e)) h.ended;
    }

    played_out : (command : Command) (left rest : Option (List ℕ)) (old new : S) → JobPlayed F command left rest old new due es told A
        → JobPlayed F command left rest old new due es told B
    played_out command left rest old new h = record {
      jobs = h.jobs;
      opening = h.opening;
      reads = h.reads;
      opens = h.opens;
      loaded = h.loaded;
      load = h.load;
      ran = ran_out command h.jobs h.opening h.loaded new h.ran;
      kept = h.kept;
      survives = h.survives;
    }

    stopped_out : (command : Command) (left rest : Option (List ℕ)) (old new : S) → JobStopped F command left rest old new due es told A
        → JobStopped F command left rest old new due es told B
    stopped_out command left rest old new h = record {
      stop = h.stop;
      status = h.status;
      cause = h.cause;
      text = f _ h.text;
      idle = h.idle;
      same = h.same;
      calls = h.calls;
      leaves = h.leaves;
    }

    work_out : (work : Doing) (old new : S) (status : Status) → WorkDone F work old new status es A → WorkDone F work old new status es B
    work_out work old new status h = record {
      text = h.text;
      answer = h.answer;
      said = f _ h.said;
      holds = h.holds;
      leaves = h.leaves;
      durable = h.durable;
      images = h.images;
    }

    done_out : (command : Command) (left rest : Option (List ℕ)) (old new : S) → StoreDone F command left rest old new due es A
        → StoreDone F command left rest old new due es B
    done_out command left rest old new h = record {
      before = h.before;
      found = h.found;
      sound = h.sound;
      bytes = h.bytes;
      input = h.input;
      work = h.work;
      does = h.does;
      status = h.status;
      due_is = h.due_is;
      done = work_out h.work old new h.status h.done;
      loaded = h.loaded;
      load = h.load;
      lasts = h.lasts;
      calls = h.calls;
      untouched = h.untouched;
    }

    halted_out : (command : Command) (left rest : Option (List ℕ)) (old new : S) → StoreStopped F command left rest old new due es A
        → StoreStopped F command left rest old new due es B
    halted_out command left rest old new h = record {
      stop = h.stop;
      status = h.status;
      reason = h.reason;
      text = f _ h.text;
      entries =
          h.entries;
      same = h.same;
      calls = h.calls;
      leaves = h.leaves;
    }

    comes_so : (said : Option Command) (left rest : Option (List ℕ)) (old new : S) (i j m n : ℕ)
        → Comes F said left rest old new i j m n due es told A → Comes F said left rest old new i j m n due es told B
    comes_so said left rest old new i j m n h = record {
      due = h.due;
      read = h.read;
      shelf = h.shelf;
      job = λ c e p. ⊎_elim (λ x. inl (played_out c left rest old new x)) (λ x. inr (stopped_out c left rest old new x)) (h.job c e p);
      store = λ c e p. ⊎_elim (λ x. inl (done_out c left rest old new x)) (λ x. inr (halted_out c left rest old new x)) (h.store c e p);
      quiet = h.quiet;
      usage = λ e. let n = h.usage e in record { said = said_out _ _ _ _ _ _ (f _) (f _) n.said; idle = n.idle; untouched = n.untouched };
      command = h.command;
    }

    job_traced_out : (command : Command) (left rest : Option (List ℕ)) (old new : S)
        → JobTraced F command left rest old new due es told A → JobTraced F command left rest old new due es told B
    job_traced_out command left rest old new h = record {
      script = h.script;
      opening = h.opening;
      reads = h.reads;
      opens = h.opens;
      promised = h.promised;
      finished = h.finished;
      status = h.status;
      said = f _ h.said;
      load = h.load;
    }

    store_traced_out : (command : Command) (left rest : Option (List ℕ)) (old new : S)
        → StoreTraced F command left rest old new due es A → StoreTraced F command left rest old new due es B
    store_traced_out command left rest old new h = record {
      before = h.before;
      found = h.found;
      bytes = h.bytes;
      input = h.input;
      work = h.work;
      does = h.does;
      sent = h.sent;
      status = h.status;
      said = f _ h.said;
      load = h.load;
    }

    shows_so : (named : Option Command) (left rest : Option (List ℕ)) (old new : S) (i j m n : ℕ)
        → Shows F named left rest old new i j m n due es told A → Shows F named left rest old new i j m n due es told B
    shows_so named left rest old new i j m n h = record {
      due = h.due;
      read = h.read;
      shelf = h.shelf;
      job = λ c e p. ⊎_elim (λ x. inl (job_traced_out c left rest old new x)) (λ x. inr (stopped_out c left rest old new x)) (h.job c e p);
      store = λ c e p. ⊎_elim (λ x. inl (store_traced_out c left rest old new x)) (λ x. inr (halted_out c left rest old new x))
          (h.store c e p);
      quiet = h.quiet;
      loaded = h.loaded;
      usage = λ e. let n = h.usage e in record { said = said_out _ _ _ _ _ _ (f _) (f _) n.said; idle = n.idle; untouched = n.untouched };
      command = h.command;
    }

-- The text that was to be written was written, with the number of its status.
pub comes_written : {S : Type 0} (F : Sight S) (said : Option Command) (left rest : Option (List ℕ)) (old new : S) (i j m n : ℕ)
    (work : Work) (status due : ℕ) (before after : Option (List ℕ)) → due ≡ code work.answer.due
    → Writes status before after (written_text work.answer.due work.answer.text)
    → Comes F said left rest old new i j m n (code work.answer.due) work.answer.sent.entries work.told (IsWritten work.answer)
    → Comes F said left rest old new i j m n due work.answer.sent.entries work.told (Writes status before after)
comes_written F said left rest old new i j m n work status due before after is written comes =
    subst (λ (d : ℕ). Comes F said left rest old new i j m n d work.answer.sent.entries work.told (Writes status before after)) (sym is)
    (comes_so (IsWritten work.answer) (Writes status before after) (λ t e. subst (Writes status before after) e written) F
    (code work.answer.due) work.answer.sent.entries work.told said left rest old new i j m n comes)

pub shows_written : {S : Type 0} (F : Sight S) (named : Option Command) (left rest : Option (List ℕ)) (old new : S) (i j m n : ℕ)
    (work : Work) (status due : ℕ) (before after : Option (List ℕ)) → due ≡ code work.answer.due
    → Writes status before after (written_text work.answer.due work.answer.text)
    → Shows F named left rest old new i j m n (code work.answer.due) work.answer.sent.entries work.told (IsWritten work.answer)
    → Shows F named left rest old new i j m n due work.answer.sent.entries work.told (Writes status before after)
shows_written F named left rest old new i j m n work status due before after is written shows =
    subst (λ (d : ℕ). Shows F named left rest old new i j m n d work.answer.sent.entries work.told (Writes status before after)) (sym is)
    (shows_so (IsWritten work.answer) (Writes status before after) (λ t e. subst (Writes status before after) e written) F
    (code work.answer.due) work.answer.sent.entries work.told named left rest old new i j m n shows)
