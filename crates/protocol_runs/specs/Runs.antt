-- Runs of a job, request by request, in any order of its actors and among strangers that leave its own alone. An operation may also stop at
-- any time.
use Rattle.job_invariant.specs.Facts.{IsAttempt}
use Rattle.job_invariant.specs.Foreign.{IsForeign}
use Rattle.job_invariant.specs.Stores.{at_id}
use Rattle.job_invariant.specs.Told.{Told, driver_entry, entry, known, nothing_told, put_who, strange_entry, tell}
use Rattle.job_model.specs.Attempts.{Who}
use Rattle.job_model.specs.Known.{Known}
use Rattle.job_protocol.specs.Operations.{Operation, Reports, Setting, TheCheck, TheClean, TheCommit, TheSetup, TheSparing, TheTaskAbort}
use Rattle.job_protocol.specs.Operations.{TheTaskCommit, TheWrite, asks, clean_of, commit_of, tells, who}
use Rattle.job_protocol.specs.Seen.{Seen, Times, is_begun, nothing_seen, see}
use Rattle.job_protocol.specs.Setup.{Setup, SetupOver, setup_start}
use Rattle.job_protocol.specs.TaskAborts.{task_abort_start}
use Rattle.job_protocol.specs.TaskCommits.{task_commit_start}
use Rattle.job_protocol.specs.Writes.{WriteOver, write_start}
use Rattle.retries.specs.Retries.{fresh}
use Rattle.s3_types.specs.Answer.{answer}
use Rattle.s3_types.specs.Moment.{IsHonestOutcome}
use Rattle.s3_types.specs.Store.{Content, Upload}
use Rattle.s3_types.specs.declared.journal.Entry.{Entry}
use Rattle.s3_types.specs.declared.journal.Outcome.{Outcome}
use Rattle.s3_types.specs.declared.request.Actor.TheVariants.{Driver}
use Rattle.s3_types.specs.declared.request.Request.{Request}
use Rattle.std.specs.Prelude.{Bool, List, None, Option, Some, false, true, ℕ, [], ◌++◌, ◌<◌, ◌^◌, ◌∷◌, ◌≡◌, ◌≤◌, ◌⊎◌}
use Rattle.job_model.specs.declared.ends.SetupEnd.TheVariants as setups
use Rattle.job_model.specs.declared.ends.TaskEnd.TheVariants as tasks

-- The state of a run: what its journal shows and says of the job, the operation that each attempt and the driver began last with its
-- progress, and what the driver's commit has sent.
pub record Stand : Type 0 where
  pub seen : Seen
  pub told : Told
  pub attempts : Who → Option Operation
  pub driver : Option Operation
  pub commit : List Entry

-- The state before the first entry. The first abort or clean, if there is one, is event c.
abbrev pub first_stand : Content → Option ℕ → Stand
first_stand opening c = record { seen = nothing_seen opening; told = nothing_told c; attempts = λ a. None; driver = None; commit = [] }

-- The state with this operation for an attempt.
abbrev pub with_attempt : Stand → Who → Operation → Stand
with_attempt x a op = record {
  seen = x.seen;
  told = x.told;
  attempts = put_who x.attempts a (Some op);
  driver = x.driver;
  commit = x.commit;
}

-- The state with this operation for the driver.
abbrev pub with_driver : Stand → Operation → Stand
with_driver x op = record { seen = x.seen; told = x.told; attempts = x.attempts; driver = Some op; commit = x.commit }

-- The state after one more entry, before the outcome reaches the operation that sent it.
abbrev pub saw : Setting → Times → Stand → Entry → Stand
saw g k x e = record {
  seen = see g.script k x.seen e;
  told = tell g.script x.told e;
  attempts = x.attempts;
  driver = x.driver;
  commit =
      x.commit;
}

-- What the job's commit has sent: this entry too, if the commit is what the driver is running.
abbrev pub commit_with : Operation → List Entry → Entry → List Entry
commit_with (TheCommit c) es e = es ++ e ∷ []
commit_with _ es e = es

-- The state with these entries as those of the job's commit.
abbrev pub with_commit : Stand → List Entry → Stand
with_commit x es = record { seen = x.seen; told = x.told; attempts = x.attempts; driver = x.driver; commit = es }

-- The set-up ended Done.
abbrev pub is_done : Setup → Bool
is_done (SetupOver setups.Done) = true
is_done _ = false

-- A set-up of the driver has ended Done: it is the last operation, or the last one is of a kind that comes after it.
abbrev pub is_set : Option Operation → Bool
is_set None = false
is_set (Some (TheSetup t)) = is_done t.operation
is_set (Some (TheCommit c)) = true
is_set (Some (TheClean t)) = true
is_set (Some (TheCheck t)) = true
is_set (Some (TheSparing t)) = true
is_set (Some _) = false

-- The operation that the driver began last is a set-up that ended Done.
abbrev pub is_just_set : Option Operation → Bool
is_just_set (Some (TheSetup t)) = is_done t.operation
is_just_set _ = false

-- No set-up has ended Done, or the last operation of the driver did, and no attempt has begun anything.
abbrev pub MaySetUp : Stand → Type 0
MaySetUp x = (is_set x.driver ≡ false) ⊎ ((is_just_set x.driver ≡ true) × ((a : Who) → x.attempts a ≡ None))

-- The event that an entry of the driver may have. A set-up sends before the event of the commit and before that of the first abort or
-- clean. A commit and its check send in the event of the commit or later, and before that of the first abort or clean. An abort or clean
-- sends in its event or later.
abbrev pub IsTimely : Times → ℕ → Operation → Type 0
IsTimely k n (TheSetup t) = (is_begun k.commit n ≡ false) × (is_begun k.clean n ≡ false)
IsTimely k n (TheCommit v) = (is_begun k.commit n ≡ true) × (is_begun k.clean n ≡ false)
IsTimely k n (TheCheck t) = (is_begun k.commit n ≡ true) × (is_begun k.clean n ≡ false)
IsTimely k n (TheClean t) = is_begun k.clean n ≡ true
IsTimely k n (TheSparing t) = is_begun k.clean n ≡ true
IsTimely k n _ = Unit {0}

-- What an attempt knows before it has sent anything.
abbrev pub nothing_learnt : Known
nothing_learnt = record { drawn = []; put_sent = false; publish_sent = false }

-- ---- what an actor may begin

-- An operation that an actor begins.
pub data Beginning : Type 0 where
  -- The driver begins a set-up, its commit with these reports, or an abort or clean of the job.
  BeginSetup : Beginning
  BeginCommit : (reports : Reports) → Beginning
  BeginClean : Beginning
  -- An attempt begins its write, its commit, or an abort.
  BeginWrite : (attempt : Who) → Beginning
  BeginPublish : (attempt : Who) → Beginning
  BeginAbort : (attempt : Who) → Beginning

-- The driver's operation after a beginning.
abbrev pub begun_driver : Setting → Stand → Beginning → Option Operation
begun_driver g x BeginSetup = Some (TheSetup (fresh g.script.retries setup_start))
begun_driver g x (BeginCommit reports) = Some (commit_of g reports)
begun_driver g x BeginClean = Some (clean_of g)
begun_driver g x _ = x.driver

-- What the job's commit has sent, after a beginning.
abbrev pub begun_commit : Stand → Beginning → List Entry
begun_commit x (BeginCommit reports) = []
begun_commit x _ = x.commit

-- The operation of each attempt after a beginning.
abbrev pub begun_attempts : Setting → Stand → Beginning → Who → Option Operation
begun_attempts g x (BeginWrite a) = put_who x.attempts a (Some (TheWrite (fresh g.script.retries (write_start g.script a))))
begun_attempts g x (BeginPublish a) = put_who x.attempts a (Some (TheTaskCommit (fresh g.script.retries (task_commit_start g.script a))))
begun_attempts g x (BeginAbort a) = put_who x.attempts a (Some
    (TheTaskAbort (fresh g.script.retries (task_abort_start g.script (known x.told a)))))
begun_attempts g x _ = x.attempts

-- The state after an actor begins an operation.
abbrev pub begin : Setting → Stand → Beginning → Stand
begin g x b = record {
  seen = x.seen;
  told = x.told;
  attempts = begun_attempts g x b;
  driver = begun_driver g x b;
  commit = begun_commit x b;
}

-- An attempt's write has ended Done.
abbrev pub WriteIsDone : Option Operation → Type 0
WriteIsDone o = (spare : ℕ) × (repeated : Bool) × (o ≡ Some (TheWrite
    (record { operation = WriteOver tasks.Done; spare = spare; repeated = repeated })))

-- What may begin in a state. A set-up: if none has ended Done, or if nothing was begun since one did, as its driver may have died before it
-- learned of that. A commit: right after the set-up. An abort or clean of the job: at any time after the set-up. An attempt's write: if the
-- attempt has begun nothing. Its commit: if its write has ended Done. Its abort: at any time after the set-up.
abbrev pub MayBegin : Setting → Stand → Beginning → Type 0
MayBegin g x BeginSetup = MaySetUp x
MayBegin g x (BeginCommit reports) = is_just_set x.driver ≡ true
MayBegin g x BeginClean = is_set x.driver ≡ true
MayBegin g x (BeginWrite a) = (is_set x.driver ≡ true) × IsAttempt g.script a × (x.attempts a ≡ None)
MayBegin g x (BeginPublish a) = (is_set x.driver ≡ true) × WriteIsDone (x.attempts a)
MayBegin g x (BeginAbort a) = (is_set x.driver ≡ true) × IsAttempt g.script a

-- A run over this content, with these times: its entries so far and its state. An actor that stops sends no more, and its operation keeps
-- the progress that it had.
pub data Runs (g : Setting) (k : Times) (opening : Content) : List Entry → Stand → Type 0 where
  run_begins : Runs g k opening [] (first_stand opening k.clean)
  actor_begins : (es : List Entry) (x : Stand) (b : Beginning) → Runs g k opening es x → MayBegin g x b → Runs g k opening es (begin g x b)
  driver_sends : (es : List Entry) (x : Stand) (op : Operation) (n : ℕ) (r : Request) (o : Outcome) → Runs g k opening es x
      → x.driver ≡ Some op → asks g (who Driver) nothing_learnt op ≡ Some r
      → IsTimely k n op → x.seen.scene.content.next ≤ 2 ^ 64 → IsHonestOutcome o (answer x.seen.scene r)
      → Runs g k opening (es ++ driver_entry n r o ∷ []) (with_commit
      (with_driver (saw g k x (driver_entry n r o)) (tells g (who Driver) op o)) (commit_with op x.commit (driver_entry n r o)))
  attempt_sends : (es : List Entry) (x : Stand) (a : Who) (op : Operation) (n : ℕ) (r : Request) (o : Outcome) → Runs g k opening es x
      → is_set x.driver ≡ true → x.attempts a ≡ Some op → asks g a (known x.told a) op ≡ Some r
      → IsHonestOutcome o (answer x.seen.scene r) → Runs g k opening (es ++ entry a n r o ∷ [])
      (with_attempt (saw g k x (entry a n r o)) a (tells g a op o))
  -- A stranger sends a request that is foreign to the job, with any outcome.
  strays : (es : List Entry) (x : Stand) (n : ℕ) (r : Request) (o : Outcome) → Runs g k opening es x → IsForeign g.script x.told.drawn r
      → Runs g k opening (es ++ strange_entry n r o ∷ []) (saw g k x (strange_entry n r o))

-- A content that a run may begin with: the least size of a part is that of the setting, and each upload has a lower id than the next one.
pub record IsOpening (g : Setting) (c : Content) : Type 0 where
  pub least : c.minimum ≡ g.minimum
  pub fresh : (id : ℕ) (x : Upload) → at_id g.script c id ≡ Some x → id < c.next
