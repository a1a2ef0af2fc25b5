-- What a run promises of its job.
use Rattle.job_model.specs.JobScript.{Script}
use Rattle.job_model.specs.declared.ends.CleanEnd.{CleanEnd}
use Rattle.job_model.specs.declared.ends.CommitEnd.{CommitEnd}
use Rattle.job_model.specs.declared.ends.EventEnd.{EventEnd}
use Rattle.job_model.specs.declared.ends.Pick.{Pick}
use Rattle.job_model.specs.declared.ends.SetupEnd.{SetupEnd}
use Rattle.job_model.specs.declared.ends.TaskEnd.{TaskEnd}
use Rattle.job_protocol.specs.JobCommits.{is_untouched}
use Rattle.job_protocol.specs.Operations.{Setting}
use Rattle.job_protocol.specs.Outputs.{Picks}
use Rattle.job_protocol.specs.Seen.{Seen, is_marked, seen}
use Rattle.job_protocol.specs.View.{Same, view}
use Rattle.job_spec.specs.Ends.{CommitEnded, EndedIn, has_cleaned}
use Rattle.job_spec.specs.Entries.{AreOwn, OutsideStays, ZeroRename}
use Rattle.job_spec.specs.Follows.{Plays, known_then}
use Rattle.job_spec.specs.Headline.{Always}
use Rattle.job_spec.specs.OperationEnds.{CleanIs, Cleaned, CommitServed, NoDeletionWorn, OnlyOpening, SetupIs, TaskIs, WasPublished}
use Rattle.job_spec.specs.States.{Decided, Doing, EndedSo, clean_event, past, times}
use Rattle.job_spec.specs.Turns.{AllBy, before, by_actor, is_memory, since, until, until_last}
use Rattle.retries.specs.Worn.{WornFirst}
use Rattle.s3_types.specs.Fates.{fate_at}
use Rattle.s3_types.specs.Foretold.{AreForetold}
use Rattle.s3_types.specs.Moment.{IsHonest, moment}
use Rattle.s3_types.specs.Store.{Content}
use Rattle.s3_types.specs.declared.journal.Entry.{Entry}
use Rattle.s3_types.specs.declared.request.Actor.TheVariants.{Attempt, Driver}
use Rattle.s3_types.specs.declared.request.Request.{Request}
use Rattle.std.specs.Prelude.{Bool, List, None, Option, Some, false, length, suc, true, zero, ℕ, [], ◌++◌, ◌+◌, ◌∷◌, ◌≡◌, ◌≤◌, ◌⊎◌}
use Rattle.job_model.specs.declared.events.Op.TheVariants as ops
use Rattle.job_model.specs.declared.ends.SetupEnd.TheVariants as setups
use Rattle.job_model.specs.declared.ends.TaskEnd.TheVariants as tasks
use Rattle.job_model.specs.declared.ends.CleanEnd.TheVariants as cleans
use Rattle.job_model.specs.declared.ends.CommitEnd.TheVariants as commits
use Rattle.job_model.specs.declared.ends.FaultStage.TheVariants as stages
use Rattle.job_model.specs.declared.ends.OpEnd.TheVariants as ends

-- ---- the chosen attempts in a report

-- The chosen attempt of a task, as a report lists it.
abbrev pub picked : ℕ → Option ℕ → List Pick
picked t None = []
picked t (Some a) = record { task = t; attempt = a } ∷ []

-- The chosen attempts of the first n tasks, in order.
abbrev pub picks_below : Picks → ℕ → List Pick
picks_below picks zero = []
picks_below picks (suc t) = picks_below picks t ++ picked t (picks t)

-- What the journal shows of the job after the first k events.
abbrev pub seen_until : Script → Content → List Entry → List EventEnd → ℕ → Seen
seen_until w opening journal xs k = seen w (times w xs) opening journal (length (until k journal))

-- All chosen attempts of a run, in the order of their tasks.
abbrev pub all_picks : Script → Content → List Entry → List EventEnd → List Pick
all_picks w opening journal xs = picks_below (seen w (times w xs) opening journal (length journal)).picks w.tasks

-- Holds if these are the first of all chosen attempts.
abbrev pub ArePicked : List Pick → List Pick → Type 0
ArePicked ps all = (others : List Pick) × (ps ++ others ≡ all)

-- ---- ends of operations: each in event j + 1 of the run, with the operation's own entries

-- What stays the same in a job's run: its script, and the minimum size of a part.
abbrev pub setting : Script → Content → Setting
setting w opening = record { script = w; minimum = opening.minimum; shared = false }

-- Holds if each set-up of the driver has the end that its cause demands, when nobody outside the job sends.
abbrev pub SetupsEnd : Script → Content → List Entry → List EventEnd → Type 0
SetupsEnd w opening journal xs = AreOwn journal → (j : ℕ) (d : Doing) (e : SetupEnd) (es : List Entry)
    → EndedIn w xs journal j Driver d (ends.Setup e) es
    → (e ≡ setups.NoMemory) ⊎ ((worn : Option Request) × WornFirst w.retries es worn
    × SetupIs w (moment opening journal (length (before d.since journal))).content worn e)

-- Holds if each operation of an attempt has the end that its cause demands, when nobody outside the job sends. The cause may be an abort or
-- clean of the driver that has begun before the attempt's last entry.
abbrev pub TasksEnd : Script → Content → List Entry → List EventEnd → Type 0
TasksEnd w opening journal xs = AreOwn journal → (j t a : ℕ) (d : Doing) (e : TaskEnd) (es : List Entry)
    → EndedIn w xs journal j (Attempt t a) d (ends.Task e) es
    → (e ≡ tasks.NoMemory) ⊎ ((worn : Option Request) × WornFirst w.retries es worn
    × TaskIs d.op w (record { task = t; attempt = a }) es (known_then (setting w opening) (Attempt t a) d
    (by_actor (Attempt t a) journal)).publish_sent (has_cleaned (clean_event w xs) (until_last (Attempt t a) (until (j + 1) journal)))
    worn e)

-- Holds if each attempt whose commit ended with Done has published, unless the driver's abort or clean began before its last entry, or
-- someone outside the job sends.
abbrev pub Publishes : Script → Content → List Entry → List EventEnd → Type 0
Publishes w opening journal xs = AreOwn journal → (j t a : ℕ) (d : Doing) (es : List Entry)
    → EndedIn w xs journal j (Attempt t a) d (ends.Task tasks.Done) es → d.op ≡ ops.Commit
    → has_cleaned (clean_event w xs) (until_last (Attempt t a) (until (j + 1) journal)) ≡ false → WasPublished w opening journal t a (j + 1)

-- Holds if each abort or clean of the driver has the end that its cause demands. Suppose that it is Done, and that only the driver sends
-- from the start of its event to its last entry. Then at that entry nothing is left of the job, and readers see the same files as before.
abbrev pub CleansEnd : Script → Content → List Entry → List EventEnd → Type 0
CleansEnd w opening journal xs = (j : ℕ) (d : Doing) (e : CleanEnd) (es : List Entry) → EndedIn w xs journal j Driver d (ends.Clean e) es
    → ((e ≡ cleans.NoMemory) ⊎ ((worn : Option Request) × WornFirst w.retries es worn × CleanIs worn e))
    × (e ≡ cleans.Done → let last = until_last Driver (until (j + 1) journal) in
    AllBy Driver (since d.since last)
    → Cleaned w (moment opening journal (length (before d.since journal))) (moment opening journal (length last)))

-- The end of the driver's commit and what it leaves, when nobody outside the job sends.
pub record CommitEnds (w : Script) (opening : Content) (journal : List Entry) (xs : List EventEnd) (j : ℕ) (d : Doing) (e : CommitEnd)
    (es : List Entry) : Type 0 where
  pub due : AreOwn journal → CommitEnded w (seen_until w opening journal xs (j + 1)) d.reports.missing es e
  -- After the end Committed, `_SUCCESS` of this run exists.
  pub marked : e ≡ commits.Committed → AreOwn journal → is_marked w (seen_until w opening journal xs (j + 1)) ≡ true
  -- If the commit deleted and completed nothing, readers see the opening files after each entry of the run.
  pub untouched : is_untouched e ≡ true → AreOwn journal → (m : ℕ) → m ≤ length journal
      → Same (view w.dest (moment opening journal m).content) (view w.dest opening)
  -- A revert leaves no file of the job, if each of its deletions was answered.
  pub reverted : e ≡ commits.StoreFault stages.Complete → NoDeletionWorn w.retries es → AreOwn journal
      → OnlyOpening w opening (moment opening journal (length (until (j + 1) journal))).content
  -- Each set that it read existed, and a completion was refused only after an earlier send of it was lost.
  pub served : AreOwn journal → CommitServed w es

-- Holds if each commit of the job that ended has the end that its cause demands, and leaves what it must.
abbrev pub CommitsEnd : Script → Content → List Entry → List EventEnd → Type 0
CommitsEnd w opening journal xs = (j : ℕ) (d : Doing) (e : CommitEnd) (es : List Entry) → EndedIn w xs journal j Driver d (ends.Commit e) es
    → CommitEnds w opening journal xs j d e es

-- ---- the promise

-- The promise of a job's run over a store with the content `opening`: of its journal, its chosen attempts, and the ends of its events.
pub record Promised (w : Script) (opening : Content) (journal : List Entry) (ps : List Pick) (xs : List EventEnd) : Type 0 where
  -- After each entry, readers of the destination see what they may rely on.
  pub always : AreOwn journal → Always w (times w xs) opening journal
  -- Events, turns and operations follow the script.
  pub plays : Plays (setting w opening) xs journal
  -- The reported attempts are the first of those that the journal shows as chosen, or all of them.
  pub picks : ArePicked ps (all_picks w opening journal xs)
  -- Files are published without a copy of their bytes, and the job changes nothing outside its destination.
  pub zero_rename : ZeroRename w opening journal
  -- Other buckets, and all that is not below the destination, stay as in the opening.
  pub outside : OutsideStays w opening journal
  -- Each set-up has the end that its cause demands.
  pub setups : SetupsEnd w opening journal xs
  -- So has each operation of an attempt.
  pub tasks : TasksEnd w opening journal xs
  -- An attempt whose commit is Done has published.
  pub publishes : Publishes w opening journal xs
  -- Each abort or clean of the job has the end that its cause demands, and leaves what it must.
  pub cleans : CleansEnd w opening journal xs
  -- So has each commit of the job.
  pub commits : CommitsEnd w opening journal xs

-- Each reply is the one that S3 must give, and each send has the fate that the script names for its number.
pub record Sent (w : Script) (opening : Content) (journal : List Entry) : Type 0 where
  pub honest : IsHonest opening journal
  -- Each send has the fate that the script names for its number.
  pub fated : AreForetold (λ n. Some (fate_at w.fates n)) 1 journal

-- True if the operation ended because memory ran out.
abbrev pub lacked_memory : Decided → Bool
lacked_memory (EndedSo e) = is_memory e
lacked_memory _ = false

-- The promise of a run whose events have all ended.
pub record Finished (w : Script) (opening : Content) (journal : List Entry) (ps : List Pick) (xs : List EventEnd) : Type 0 where
  pub promised : Promised w opening journal ps xs
  pub sent : Sent w opening journal
  pub events : length xs ≡ length w.events
  -- All chosen attempts are reported, unless memory ran out in the job's commit.
  pub picks : lacked_memory (past w xs).commit ≡ false → ps ≡ all_picks w opening journal xs
