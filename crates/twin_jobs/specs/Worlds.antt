-- A world of two jobs as its callers see it.
use Rattle.job_model.specs.JobScript.{Script}
use Rattle.job_model.specs.declared.ends.EventEnd.{EventEnd}
use Rattle.job_model.specs.declared.ends.Pick.{Pick}
use Rattle.job_protocol.specs.Operations.{Setting}
use Rattle.job_protocol.specs.Seen.{Times}
use Rattle.job_safety.specs.RunsKeep.{FactsHold, KeptAmong}
use Rattle.job_run.specs.Holds.{is_mine}
use Rattle.job_spec.specs.Entries.{AreOwn}
use Rattle.job_spec.specs.Eyes.{in_eyes, number_in}
use Rattle.job_spec.specs.Promise.{Sent, all_picks, lacked_memory}
use Rattle.job_spec.specs.States.{past, times}
use Rattle.s3_types.specs.Store.{Content}
use Rattle.s3_types.specs.declared.journal.Entry.{Entry}
use Rattle.std.specs.List.{AllByRecursion}
use Rattle.std.specs.Prelude.{Bool, List, None, Option, Some, false, length, map, slice_get, true, ℕ, [], ◌++◌, ◌+◌, ◌∷◌, ◌≡◌, ◌≤◌}
use Rattle.twin_facts.specs.Events.{AtMoment}
use Rattle.twin_facts.specs.Named.{NamesNoneOfOthers}
use Rattle.twin_facts.specs.Sides.{TwinEntry, drew}
use Rattle.twin_jobs.specs.Order.{other_of, others_in}
use Rattle.twin_safety.specs.Shared.{SharedKept}
use Rattle.twin_script.specs.TwinScripts.{Twins, sides_in}
use Rattle.twin_script.specs.declared.turns.Side.{Side}
use Rattle.twin_script.specs.declared.turns.Side.TheVariants.{First, Second}
use Rattle.twin_facts.specs.Sides as two

-- What callers see of one job: its script, the picks of its commit, and the ends of its events so far.
pub record JobRun : Type 0 where
  pub script : Script
  pub picks : List Pick
  pub ends : List EventEnd

-- What callers see of a world: both jobs, the side of each event of the order, the store's content as the run began, all entries, and
-- whether an event ran out of memory.
pub record Run : Type 0 where
  pub first : JobRun
  pub second : JobRun
  pub sides : List Side
  pub opening : Content
  pub journal : List Entry
  pub stuck : Bool

-- The number of events that were played.
abbrev pub played : Run → ℕ
played r = length r.first.ends + length r.second.ends

-- The job of a side.
abbrev pub job_of : Run → Side → JobRun
job_of r First = r.first
job_of r Second = r.second

-- A job of which nothing has happened.
abbrev pub nothing_run : Script → JobRun
nothing_run w = record { script = w; picks = []; ends = [] }

-- The run in which nothing has happened yet.
abbrev pub begun : Twins → Content → Run
begun t opening = record {
  first = nothing_run t.first;
  second = nothing_run t.second;
  sides = sides_in t.order;
  opening = opening;
  journal = [];
  stuck = false;
}

-- ---- each job, as it reads the journal

-- Whether the event with a number is the side's own.
abbrev pub mine : List Side → Side → ℕ → Bool
mine sides side = is_mine (others_in side 1 sides)

-- The setting of a job whose destination another job shares.
abbrev pub setting : Script → Content → Setting
setting w opening = record { script = w; minimum = opening.minimum; shared = true }

-- The journal as a side reads it.
abbrev pub seen_by : Run → Side → List Entry
seen_by r side = in_eyes (mine r.sides side) r.journal

-- What a side keeps, as it reads the journal, whatever the other one sends.
pub record KeepsSide (r : Run) (side : Side) : Type 0 where
  -- What no stranger breaks.
  pub among : let j = job_of r side in KeptAmong (setting j.script r.opening) r.opening (seen_by r side) j.picks j.ends
  -- How its commit, its check, and its abort or clean end.
  pub shared : let j = job_of r side in SharedKept (setting j.script r.opening) r.opening (seen_by r side) j.ends
  -- It has one end for each of its events among those that were played.
  pub counts : number_in (mine r.sides side) (played r) ≡ length (job_of r side).ends
  -- The picks are all that its commit has made, unless it ran out of memory.
  pub whole : let j = job_of r side in
      lacked_memory (past j.script j.ends).commit ≡ false → j.picks ≡ all_picks j.script r.opening (seen_by r side) j.ends
  -- Once its set-up has ended done, the facts of the job hold after each send.
  pub facts : let j = job_of r side in FactsHold j.script r.opening (seen_by r side) j.ends

-- ---- the journal of both

-- An entry with its side. Its event has the number n as the first job counts, and m as the second one does.
abbrev pub entry_by : Bool → ℕ → ℕ → Entry → TwinEntry
entry_by true n m e = record {
  side = two.First;
  entry = record { event = n; actor = e.actor; request = e.request; outcome = e.outcome };
  theirs = m;
}
entry_by false n m e = record {
  side = two.Second;
  entry = record { event = m; actor = e.actor; request = e.request; outcome = e.outcome };
  theirs = n;
}

-- A journal as entries with their sides; the events of the first job are those in `mine`, of the second those in `theirs`.
abbrev pub both_of : (ℕ → Bool) → (ℕ → Bool) → List Entry → List TwinEntry
both_of mine theirs = map (λ e. entry_by (mine e.event) (number_in mine e.event) (number_in theirs e.event) e)

abbrev pub entries_of : Run → List TwinEntry
entries_of r = both_of (mine r.sides First) (mine r.sides Second) r.journal

-- When a job's commit began, and when its first abort or clean.
abbrev pub times_of : JobRun → Times
times_of j = times j.script j.ends

-- What readers see at each moment, and what the success marker promises there.
abbrev pub ShowsBoth : Run → Type 0
ShowsBoth r = (m : ℕ) → m ≤ length (entries_of r)
    → AtMoment r.first.script r.second.script (times_of r.first) (times_of r.second) r.opening (entries_of r) m

-- What holds of a run of two jobs after each call.
pub record Keeps (r : Run) : Type 0 where
  pub first : KeepsSide r First
  pub second : KeepsSide r Second
  pub shows : ShowsBoth r
  -- No request of one job names what is the other's.
  pub named_first : NamesNoneOfOthers two.First r.second.script (drew two.Second r.opening (entries_of r)) (entries_of r)
  pub named_second : NamesNoneOfOthers two.Second r.first.script (drew two.First r.opening (entries_of r)) (entries_of r)
  -- All was sent by actors of the two jobs, and each send had the outcome that was due and that the first script names for it.
  pub own : AreOwn r.journal
  -- Each entry belongs to an event that has its end.
  pub numbered : AllByRecursion (λ e. (1 ≤ e.event) × (e.event ≤ played r)) r.journal
  pub sent : Sent r.first.script r.opening r.journal

-- ---- a turn

-- This side's next event has its end, and each entry that was added has the event's number. The other side has not changed.
pub record Played (r s : Run) (side : Side) : Type 0 where
  pub next : slice_get r.sides (played r) ≡ Some side
  pub script : (job_of s side).script ≡ (job_of r side).script
  pub end : EventEnd
  pub ends : (job_of s side).ends ≡ (job_of r side).ends ++ end ∷ []
  pub other : job_of s (other_of side) ≡ job_of r (other_of side)
  pub sides : s.sides ≡ r.sides
  pub opening : s.opening ≡ r.opening
  pub more : (part : List Entry) × (s.journal ≡ r.journal ++ part) × AllByRecursion (λ e. e.event ≡ played r + 1) part
  pub stuck : s.stuck ≡ r.stuck

-- An event of this side was played; or, for None, the order has no more events and nothing has changed.
abbrev pub Turned : Run → Run → Option Side → Type 0
Turned r s (Some side) = Played r s side
Turned r s None = (s ≡ r) × (played r ≡ length r.sides)

-- No event happened because memory ran out, and no later one will.
pub record FoundNone (r s : Run) : Type 0 where
  pub is : s ≡ record r { stuck = true }
