-- The driver's commit in a run: how its own entries led it to its state, how the sets that it has read fit the picks that the journal
-- shows, and how it ends.
use Rattle.job_invariant.specs.Told.{driver_entry, entry}
use Rattle.job_model.specs.Attempts.{Who}
use Rattle.job_model.specs.JobScript.{Script}
use Rattle.job_model.specs.Legal.{IsLegal}
use Rattle.job_model.specs.declared.ends.CommitEnd.{CommitEnd}
use Rattle.job_protocol.specs.Cleanups.{Clean, clean_asks}
use Rattle.job_protocol.specs.JobCommits.{Commit, CommitOver, Completing, Fetching, Marking, Replacing, Reverting, Sets, commit_asks}
use Rattle.job_protocol.specs.JobCommits.{commit_start, commit_tells, fetching, picks_of, set_read, set_request, stage_of}
use Rattle.job_protocol.specs.LaneTable.{AllSound}
use Rattle.job_protocol.specs.Operations.{Setting, TheCommit}
use Rattle.job_protocol.specs.Outputs.{Picks}
use Rattle.job_protocol.specs.Seen.{Seen, Times, is_begun, is_marked, nothing_seen, see, see_all}
use Rattle.job_protocol.specs.Setup.{Setup, setup_asks}
use Rattle.job_spec.specs.Ends.{CommitEnded, commit_due, is_mark_answered}
use Rattle.job_spec.specs.Entries.{AreOwn}
use Rattle.job_spec.specs.OperationEnds.{was_lost}
use Rattle.job_spec.specs.Promise.{picked, picks_below}
use Rattle.protocol_runs.specs.Runs.{IsOpening, IsTimely, Runs, Stand}
use Rattle.pending_json.specs.declared.records.PendingSet.{PendingSet}
use Rattle.retries.specs.Operation.{Follows, run}
use Rattle.retries.specs.Worn.{WornFirst}
use Rattle.s3_types.specs.Answer.{answer}
use Rattle.s3_types.specs.Moment.{IsHonestOutcome}
use Rattle.s3_types.specs.Store.{Content}
use Rattle.s3_types.specs.declared.journal.Entry.{Entry}
use Rattle.s3_types.specs.declared.journal.Outcome.{Outcome}
use Rattle.s3_types.specs.declared.journal.Outcome.TheVariants.{Answered}
use Rattle.s3_types.specs.declared.reply.Refusal.{Refusal}
use Rattle.s3_types.specs.declared.reply.Refusal.TheVariants.{NoSuchUpload}
use Rattle.s3_types.specs.declared.reply.Reply.{Reply}
use Rattle.s3_types.specs.declared.reply.Reply.TheVariants.{Refused}
use Rattle.s3_types.specs.declared.request.Actor.TheVariants.{Driver}
use Rattle.s3_types.specs.declared.request.Request.{Request}
use Rattle.std.specs.Prelude.{IsSome, List, None, Option, Some, false, length, true, ℕ, [], ◌++◌, ◌<◌, ◌^◌, ◌∷◌, ◌≡◌, ◌≤◌, ◌⊎◌}
use Rattle.job_model.specs.declared.ends.CommitEnd.TheVariants as commits
use Rattle.job_model.specs.declared.ends.FaultStage.TheVariants as stages

-- The end that is due with these sets, apart from requests that ran out of retries. If a read ran out of retries, not all sets were read.
abbrev pub IsDue : Script → Option ℕ → Sets → CommitEnd → Type 0
IsDue w missing sets (commits.StoreFault stages.Read) = (missing ≡ None) × (length sets < w.tasks)
IsDue w missing sets (commits.StoreFault stage) = missing ≡ None
IsDue w missing sets (commits.Missing t) = (missing ≡ Some t) × (sets ≡ [])
IsDue w missing sets end = end ≡ commit_due w (picks_of sets) missing None

-- The commit has come to this state with these sets.
abbrev pub IsAt : Script → Option ℕ → Sets → Commit → Type 0
IsAt w missing sets (Fetching s n) = (missing ≡ None) × (s ≡ sets)
IsAt w missing sets (Replacing s p ps x n) = (missing ≡ None) × (s ≡ sets)
IsAt w missing sets (Completing s x xs finished) = (missing ≡ None) × (s ≡ sets)
IsAt w missing sets (Marking s n) = (missing ≡ None) × (s ≡ sets)
IsAt w missing sets (Reverting r rs n) = missing ≡ None
IsAt w missing sets (CommitOver end) = IsDue w missing sets end

-- P holds if the commit ended Committed.
abbrev pub WhereCommitted : Type 0 → Commit → Type 0
WhereCommitted P (CommitOver commits.Committed) = P
WhereCommitted P _ = Unit {0}

-- The picks of the job's tasks are those of these sets.
abbrev pub ArePicks : Script → Picks → Sets → Type 0
ArePicks w picks sets = (t : ℕ) → t < w.tasks → picks t ≡ picks_of sets t

-- The commit's own entries led it to its state, and the picks that the journal shows are those of the sets that it has read.
pub record CommitStands (g : Setting) (x : Stand) (c : Commit) : Type 0 where
  -- The lowest task that none had reported when the commit began, if there was one.
  pub missing : Option ℕ
  -- Its own entries are the requests that it asked, and their outcomes led to its state.
  pub follows : Follows (commit_asks g.script) (commit_tells g.script) (commit_start g.script missing) x.commit
  pub leads : run (commit_tells g.script) (commit_start g.script missing) x.commit ≡ c
  -- Its uploads are all different: the completions of two of them are two requests.
  pub sound : AllSound g.script (commit_start g.script missing) x.commit
  pub sets : Sets
  pub at : IsAt g.script missing sets c
  pub picks : ArePicks g.script x.seen.picks sets
  -- If it ended Committed, the put of its marker was answered.
  pub answered : WhereCommitted (is_mark_answered g.script x.commit ≡ true) c

-- The picks gained one: the next task's set was read, and the attempt of that set is the task's pick.
pub record PicksOneMore (w : Script) (before now : Picks) (c d : Commit) : Type 0 where
  pub sets : Sets
  pub missed : ℕ
  pub set : PendingSet
  pub from : c ≡ Fetching sets missed
  pub to : d ≡ fetching w (sets ++ set ∷ [])
  pub next : length sets < w.tasks
  pub picked : now (length sets) ≡ Some set.attempt
  pub others : (t : ℕ) → t < w.tasks → (t ≡ length sets → ⊥) → now t ≡ before t
  -- Neither this task nor a later one had a pick before.
  pub behind : (t : ℕ) → t < w.tasks → length sets ≤ t → before t ≡ None

-- One more entry leaves the picks as they are or adds the pick of the next task.
abbrev pub PicksGrow : Script → Picks → Picks → Commit → Commit → Type 0
PicksGrow w before now c d = ((t : ℕ) → t < w.tasks → now t ≡ before t) ⊎ PicksOneMore w before now c d

-- Some task of the job has published nothing with these entries.
abbrev pub Unpublished : Script → Times → Content → List Entry → Type 0
Unpublished w k opening es = (t : ℕ) × (t < w.tasks) × ((see_all w k (nothing_seen opening) es).last t ≡ None)

-- The end is the one that is due by these picks and by the first request of these entries that ran out of retries.
abbrev pub EndsDue : Script → Picks → Option ℕ → List Entry → CommitEnd → Type 0
EndsDue w picks missing es end = (worn : Option Request) × WornFirst w.retries es worn × (end ≡ commit_due w picks missing worn)

-- What holds of the driver's commit in every run, of every committer and mode, with any number of lanes, among strangers.
pub record CommitRuns : Type 0 where
  pub stands : (g : Setting) → IsLegal g.script → (k : Times) (opening : Content) → IsOpening g opening → (es : List Entry) (x : Stand)
      → Runs g k opening es x → (c : Commit) → x.driver ≡ Some (TheCommit c) → CommitStands g x c
  -- The state of a commit determines which task was missing when it began.
  pub one_start : (w : Script) (a b : Option ℕ) (es : List Entry)
      → run (commit_tells w) (commit_start w a) es ≡ run (commit_tells w) (commit_start w b) es → a ≡ b
  -- It ends as is due by the picks that the journal shows then. If it ends Committed, the put of its marker was answered.
  pub ends : (g : Setting) → IsLegal g.script → (x : Stand) (end : CommitEnd) → (h : CommitStands g x (CommitOver end))
      → EndsDue g.script x.seen.picks h.missing x.commit end
  pub answered : (g : Setting) (x : Stand) (end : CommitEnd) → CommitStands g x (CommitOver end) → end ≡ commits.Committed
      → is_mark_answered g.script x.commit ≡ true
  -- Then the marker exists too, if no stranger sends.
  pub marked : (g : Setting) → IsLegal g.script → (k : Times) (opening : Content) → IsOpening g opening → (es : List Entry) (x : Stand)
      → Runs g k opening es x → AreOwn es → x.driver ≡ Some (TheCommit (CommitOver commits.Committed)) → is_marked g.script x.seen ≡ true
  -- All of that together, with the task that was missing when it began.
  pub ended : (g : Setting) → IsLegal g.script → (k : Times) (opening : Content) → IsOpening g opening → (es : List Entry) (x : Stand)
      → Runs g k opening es x → (end : CommitEnd) → x.driver ≡ Some (TheCommit (CommitOver end))
      → (missing : Option ℕ) → run (commit_tells g.script) (commit_start g.script missing) x.commit ≡ CommitOver end
      → CommitEnded g.script x.seen missing x.commit end
  -- How the picks grow with the commit's entries. Entries of other operations leave the picks as they are.
  pub grows : (g : Setting) → IsLegal g.script → (k : Times) (opening : Content) → IsOpening g opening → (es : List Entry) (x : Stand)
      → Runs g k opening es x → (c : Commit) → x.driver ≡ Some (TheCommit c)
      → (n : ℕ) (r : Request) (o : Outcome) → commit_asks g.script c ≡ Some r → IsTimely k n (TheCommit c)
      → x.seen.scene.content.next ≤ 2 ^ 64 → IsHonestOutcome o (answer x.seen.scene r)
      → PicksGrow g.script x.seen.picks (see g.script k x.seen (driver_entry n r o)).picks c (commit_tells g.script c o)
  -- The list of the picks grows in the same way.
  pub list : (w : Script) (before now : Picks) (c d : Commit) → (m : PicksOneMore w before now c d)
      → picks_below now w.tasks ≡ picks_below before w.tasks ++ picked (length m.sets) (Some m.set.attempt)
  pub same : (before now : Picks) (n : ℕ) → ((t : ℕ) → t < n → now t ≡ before t) → picks_below now n ≡ picks_below before n
  pub attempts : (w : Script) (k : Times) (s : Seen) (a : Who) (n : ℕ) (r : Request) (o : Outcome)
      → (see w k s (entry a n r o)).picks ≡ s.picks
  pub setup : (w : Script) (k : Times) (s : Seen) (n : ℕ) (c : Setup) (r : Request) (o : Outcome) → setup_asks w c ≡ Some r → (t : ℕ)
      → (see w k s (driver_entry n r o)).picks t ≡ s.picks t
  pub clean : (w : Script) (k : Times) (s : Seen) (n : ℕ) (c : Clean) (r : Request) (o : Outcome) → clean_asks w c ≡ Some r → (t : ℕ)
      → (see w k s (driver_entry n r o)).picks t ≡ s.picks t

-- What the commit's requests are answered, in every run.
pub record CommitAnswers : Type 0 where
  -- A refused completion found no upload, and an earlier send of it was lost.
  pub refused : (g : Setting) → IsLegal g.script → (k : Times) (opening : Content) → IsOpening g opening → (es : List Entry) (x : Stand)
      → Runs g k opening es x → (c : Commit) → x.driver ≡ Some (TheCommit c)
      → (before : List Entry) (e : Entry) (later : List Entry) (why : Refusal)
      → x.commit ≡ before ++ e ∷ later → stage_of e.request ≡ stages.Complete → e.outcome ≡ Answered (Refused why)
      → (why ≡ NoSuchUpload) × (was_lost e.request before ≡ true)
  -- A read of a set, before an abort or clean, finds one if each task has published.
  pub there : (g : Setting) → IsLegal g.script → (k : Times) (opening : Content) → IsOpening g opening → (es : List Entry) (x : Stand)
      → Runs g k opening es x → (before : List Entry) (e : Entry) (later : List Entry) (t : ℕ) (r : Reply) → es ≡ before ++ e ∷ later
      → e.actor ≡ Driver → is_begun k.clean e.event ≡ false → e.request ≡ set_request g.script.committer g.script t → e.outcome ≡ Answered r
      → IsSome (set_read r) ⊎ Unpublished g.script k opening before
