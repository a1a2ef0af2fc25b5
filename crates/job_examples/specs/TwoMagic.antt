-- Two jobs of the magic committer at one destination, one file each: three events of the first, four of the second, two of the first.
use Rattle.job_examples.specs.FourFileLanes.{out}
use Rattle.job_examples.specs.Jobs.{commits_at, lake}
use Rattle.job_examples.specs.OneFile.{opening}
use Rattle.job_examples.specs.TwoJobs.{clean_entries, ja, jb, journal, marks, mine, quiet_entries}
use Rattle.job_model.specs.JobScript.{Script}
use Rattle.job_protocol.specs.Seen.{Times}
use Rattle.job_protocol.specs.Sparing.{Sparing, SparingOver, sparing_after, sparing_asks, sparing_start}
use Rattle.retries.specs.Operation.{Follows, run}
use Rattle.retries.specs.Retries.{Retried, fresh, step, wants_of}
use Rattle.s3_types.specs.declared.journal.Entry.{Entry}
use Rattle.s3_types.specs.declared.journal.Outcome.{Outcome}
use Rattle.s3_types.specs.declared.request.Request.{Request}
use Rattle.s3_types.specs.declared.request.Request.TheVariants.{AbortUpload}
use Rattle.std.specs.Prelude.{Bool, List, Some, codes, cond, false, length, nat_eq, take, true, ℕ, [], ◌++◌, ◌∷◌, ◌≡◌}
use Rattle.twin_facts.specs.Events.{AtMoment}
use Rattle.twin_facts.specs.Names.{Ids, IsStranger}
use Rattle.twin_facts.specs.Sides.{First, Second, Side, TwinEntry}
use Rattle.twin_facts.specs.TwinLaws.{is_marked_by}
use Rattle.job_model.specs.declared.ends.CleanEnd.TheVariants as cleans

-- ---- entries with the side of their events

-- The entries of a journal with their sides.
abbrev pub sided : (ℕ → Bool) → List Entry → List TwinEntry
sided mine [] = []
sided mine (e ∷ es) = record { side = cond (mine e.event) First Second; entry = e; theirs = e.event } ∷ sided mine es

-- Holds if the request of a side names nothing that belongs to the other job, which created these uploads.
abbrev pub StrangeBy : Script → Script → Ids → Ids → Side → Request → Type 0
StrangeBy w v mine others First r = IsStranger v others r
StrangeBy w v mine others Second r = IsStranger w mine r

-- Holds if this is so for each entry.
abbrev pub AllStrange : Script → Script → Ids → Ids → List TwinEntry → Type 0
AllStrange w v mine others [] = Unit {0}
AllStrange w v mine others (t ∷ ts) = StrangeBy w v mine others t.side t.entry.request × AllStrange w v mine others ts

-- ---- the run

-- The journal, with the side of each entry.
abbrev pub entries : List TwinEntry
entries = sided mine journal

-- The first job's commit is event 8 of the run, and its clean is event 9.
abbrev pub first_times : Times
first_times = record { commit = Some 8; clean = Some 9 }

-- Holds if readers see what two jobs promise after the first m entries. The commits are the events 8 and 7, and the clean is event 9.
abbrev pub Stands : ℕ → Type 0
Stands m = AtMoment ja jb first_times (commits_at 7) opening entries m

-- The uploads that the first job created.
abbrev pub drew_first : Ids
drew_first id = nat_eq id 1

-- The uploads that the second job created.
abbrev pub drew_second : Ids
drew_second id = nat_eq id 2

-- The clean of ja as it begins.
abbrev pub begun : Retried Sparing
begun = fresh ja.retries (sparing_start ja.committer)

-- The clean of ja after the outcome of a send.
abbrev pub next : Retried Sparing → Outcome → Retried Sparing
next = step ja.retries (sparing_after ja)

-- The entries in which jb puts `_SUCCESS` without its file, which no commit does.
abbrev pub hasty : List TwinEntry
hasty = sided mine (quiet_entries ++ marks (codes "jb") (codes "y") 7 ∷ [])

-- No job touches what belongs to the other, and readers see what two jobs promise.
pub record TwoMagic : Type 0 where
  pub sent : length entries ≡ 30
  -- No entry names what belongs to the other job.
  pub apart : AllStrange ja jb drew_first drew_second entries
  -- Before any file, with jb's file, with jb's `_SUCCESS`, with both files, with ja's `_SUCCESS`, and at the end.
  pub none : Stands 21
  pub one : Stands 22
  pub first_mark : Stands 23
  pub two : Stands 25
  pub second_mark : Stands 26
  pub whole : Stands 30
  -- `_SUCCESS` is jb's until ja puts its own.
  pub by_second : is_marked_by jb Second false (take 25 entries) ≡ true
  pub by_first : is_marked_by ja First false (take 26 entries) ≡ true
  pub no_more : is_marked_by jb Second false (take 26 entries) ≡ false
  -- The clean lists the keys that ja made, aborts the upload that its record names, and deletes these keys.
  pub clean : Follows (wants_of (sparing_asks ja)) next begun clean_entries
  pub cleaned : (run next begun clean_entries).operation ≡ SparingOver cleans.Done
  -- A clean of ja that aborts jb's upload names what belongs to jb. `_SUCCESS` over a missing file breaks the promise.
  pub wrong_abort : IsStranger jb drew_second (AbortUpload lake (out (codes "y")) 2) → ⊥
  pub wrong_mark : AtMoment ja jb first_times (commits_at 7) opening hasty 22 → ⊥
