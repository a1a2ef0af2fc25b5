-- The outcome of a command that runs no job.
use Rattle.durable_store.specs.Outcomes.{CallsBy, HasImages, IsAnswer, IsDurableNow, IsHeld, IsSound, MightLeave, WhereSound}
use Rattle.durable_store.specs.Outcomes.IsAnswer.{said, saved}
use Rattle.durable_store.specs.Works.{IsPlain, IsSaid, Work as Doing}
use Rattle.durable_store.specs.declared.shelf_state.ShelfState.{ShelfState}
use Rattle.durable_store.specs.declared.shelf_state.ShelfState.TheVariants.{Faulty, Nothing, Store}
use Rattle.durable_store.specs.declared.work.CommandAnswer.{CommandAnswer}
use Rattle.exit_status.specs.declared.statuses.Status.{Status}
use Rattle.s3_types.specs.declared.journal.Entry.{Entry}
use Rattle.s3a_shell.specs.Commanded.{IsWork, takes_input}
use Rattle.s3a_top.proofs.Crashing.{command_since}
use Rattle.s3a_top.proofs.Halting.{sound_of}
use Rattle.s3a_top.proofs.Pieces.{read_taken, taken_part}
use Rattle.s3a_top.proofs.Untouched.{untouched_of}
use Rattle.s3a_top.specs.Commands.{HasReason, IsInput, WorkDone, reads_input}
use Rattle.s3a_top.specs.Openings.{IsFound, is_sound}
use Rattle.s3a_top.specs.inner.Statuses.{IsWorked}
use Rattle.s3a_top.specs.inner.Stops.{of_shelf}
use Rattle.s3a_top.specs.inner.Workings.{HasReasonIn, IsQuiet, StoreGoes, StoreHalted, StoreOver, StoreSince}
use Rattle.s3a_top.specs.inner.Works.{IsWritten}
use Rattle.s3a_top.specs.declared.stop.Stop.{Stop}
use Rattle.s3a_top.specs.declared.stop.Stop.TheVariants.{NoMemory, ReadFault}
use Rattle.s3a_top.specs.declared.work.Work.{Work}
use Rattle.s3a_words.specs.declared.command.Command.{Command}
use Rattle.devices.specs.Logged.{CrashesLeave, IsDurable, IsTimed, Sight, Stored}
use Rattle.devices.specs.Logged.Call.{Load}
use Rattle.devices.specs.declared.kept.ShelfStop.{ShelfStop}
use Rattle.std.proofs.Common.{Bool, Err, IsErrOf, List, Ok, Option, Result, false, inl, inr, refl, subst, sym, true, ℕ, ◌≡◌}
use Rattle.exit_status.specs.declared.statuses.Status.TheVariants as statuses
use Rattle.devices.specs.declared.kept.ShelfStop.TheVariants as shelves

-- ---- what was done

-- The status of an answer is never one for a failed input or for bad words.
pub answer_own : (work : Doing) (due : Status) (text : Option (List ℕ)) (es : List Entry) → IsAnswer work due text es → IsPlain work
    → IsWorked due
answer_own _ _ _ _ (said d t es) plain = said_own d plain
  where
    said_own : (s : Status) → IsSaid s → IsWorked s
    said_own statuses.Done h = tt
    said_own statuses.Refused h = tt
    said_own statuses.BadImage h = tt
    said_own _ h = absurd h
answer_own _ _ _ _ (saved c t es) plain = tt
answer_own _ _ _ _ _ plain = tt

module _ {S : Type 0} (F : Sight S) where
  pub over_of : (command : Command) (before : ShelfState) (left rest : Option (List ℕ)) (bytes : List ℕ) (work : Doing) (old new : S)
      (answer : CommandAnswer) (done : Work) → IsInput (reads_input command before) left rest bytes → IsWork command bytes before work
      → IsAnswer work answer.due answer.text answer.sent.entries
      → IsHeld work answer.due (F.held old) (F.held new) → CrashesLeave F old new (MightLeave work (F.held new) (F.may_leave old))
      → IsDurableNow work answer.due (F.held new) (F.may_leave new) → HasImages work → CallsBy F work answer.due old new
      → done.answer ≡ answer → IsQuiet done
      → StoreSince F command before left rest old new (Ok done)
  over_of command before left rest bytes work old new answer done input does answers holds leaves durable images calls is quiet = (
    subst (StoreOver F command before left rest old new) (sym is) (record {
      bytes = bytes;
      input = input;
      work = work;
      does = does;
      done = record {
        text = answer.text;
        answer = answers;
        said = refl;
        holds = holds;
        leaves = leaves;
        durable = durable;
        images = images;
      };
      calls = calls;
    }),
    quiet,
  )

  -- the outcome since the load, extended to the time before the load
  work_from : IsTimed F → (work : Doing) (old mid new : S) (status : Status) (es : List Entry) (Told : List ℕ → Type 0)
      → F.held mid ≡ F.held old → CrashesLeave F old mid (F.may_leave old)
      → WorkDone F work mid new status es Told → WorkDone F work old new status es Told
  work_from timed work old mid new status es Told same load h = record {
    text = h.text;
    answer = h.answer;
    said = h.said;
    holds = subst (λ (o : Option Stored). IsHeld work status o (F.held new)) same h.holds;
    leaves = command_since F timed old mid new work (F.held new) load h.leaves;
    durable = h.durable;
    images = h.images;
  }

-- ---- causes, where it is known what the shelf held

pub reason_of : (stop : Stop) (command : Command) (told : Option Stored) (before : ShelfState) (left rest : Option (List ℕ))
    → IsFound told before
    → HasReasonIn stop command before left rest → HasReason stop command told left rest
reason_of ReadFault command told before left rest f h = (sound_of told before f h.0, h.1)
reason_of NoMemory command told before left rest f (inl h) = inl h
reason_of NoMemory command told before left rest f (inr h) = inr (sound_of told before f h.0, h.1)
reason_of _ command told before left rest f h = absurd h

-- Memory ran out after the input was read.
wanting_behind : (takes : Bool) (command : Command) (before : ShelfState) (left rest : Option (List ℕ)) (bytes : List ℕ) → is_sound before
    → takes_input command ≡ takes → IsInput takes left rest bytes → HasReasonIn NoMemory command before left rest
wanting_behind true command before left rest bytes sound e h = inr (sound, (e, taken_part left rest (read_taken left rest bytes h)))
wanting_behind false command before left rest bytes sound e h = inl h.1

pub wanting_reason : (command : Command) (before : ShelfState) (left rest : Option (List ℕ)) (bytes : List ℕ)
    → IsInput (reads_input command before) left rest bytes → HasReasonIn NoMemory command before left rest
wanting_reason command Nothing left rest bytes h = wanting_behind (takes_input command) command Nothing left rest bytes tt refl h
wanting_reason command (Store c) left rest bytes h = wanting_behind (takes_input command) command (Store c) left rest bytes tt refl h
wanting_reason command (Faulty number place) left rest bytes h = inl h.1

-- ---- since the load, and before it

module _ {S : Type 0} (F : Sight S) (command : Command) (left rest : Option (List ℕ)) where
  -- the load failed
  pub load_stopped : (old new : S) (fault : ShelfStop) → rest ≡ left → F.held new ≡ F.held old → CrashesLeave F old new (F.may_leave old)
      → ((IsErrOf {T = ShelfState} {E = ShelfStop} (Err fault) shelves.Failed → ⊥) → F.answers Load old new)
      → (IsErrOf {T = ShelfState} {E = ShelfStop} (Err fault) shelves.Failed → F.fails Load old new)
      → StoreHalted F command left rest old new (of_shelf fault)
  load_stopped old new shelves.Failed unread same leaves answered broken = record
      { reason = unread; same = same; calls = inr (inl (broken refl)); leaves = leaves }
  load_stopped old new shelves.NoMemory unread same leaves answered broken = record
      { reason = inl unread; same = same; calls = inr (inr (answered (λ e. cc))); leaves = leaves }

  pub store_from : (result : Result Work Stop) → IsTimed F → (before : ShelfState) (old mid new : S) → IsFound (F.held old) before
      → IsSound before → F.held mid ≡ F.held old → F.answers Load old mid → CrashesLeave F old mid (F.may_leave old)
      → WhereSound before (IsDurable (F.held mid) (F.may_leave mid))
      → StoreSince F command before left rest mid new result → StoreGoes F command left rest old new result
  store_from (Ok work) timed before old mid new found sound same answered load lasts since =
      let over = since.0 in (
        record {
          before = before;
          found = found;
          sound = sound;
          bytes = over.bytes;
          input = over.input;
          work = over.work;
          does = over.does;
          status = work.answer.due;
          due_is = refl;
          done = work_from F timed over.work old mid new work.answer.due work.answer.sent.entries (IsWritten work.answer) same load
              over.done;
          loaded = mid;
          load = answered;
          lasts = lasts;
          calls = over.calls;
          untouched = untouched_of F command over.bytes before over.work work.answer.due over.done.text work.answer.sent.entries mid new
              over.does over.done.answer over.calls;
        },
        since.1,
      )
  store_from (Err stop) timed before old mid new found sound same answered load lasts since =
      subst (λ (s : S). StoreHalted F command left rest old s stop) (sym since.1)
      (record {
        reason = reason_of stop command (F.held old) before left rest found since.0;
        same = same;
        calls = inr (inr answered);
        leaves = load;
      })
