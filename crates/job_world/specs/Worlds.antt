-- A world as its callers see it.
use Rattle.job_model.specs.JobScript.{Script}
use Rattle.job_model.specs.declared.ends.EventEnd.{EventEnd}
use Rattle.job_model.specs.declared.ends.Pick.{Pick}
use Rattle.job_safety.specs.RunsKeep.{FactsHold}
use Rattle.job_run.specs.Events.{picks_in}
use Rattle.job_run.specs.declared.body.Body.{Body}
use Rattle.job_soundness.specs.Safe.{ReadersSafe}
use Rattle.job_spec.specs.Entries.{AreOwn}
use Rattle.job_spec.specs.Promise.{Promised, Sent, all_picks, lacked_memory}
use Rattle.job_spec.specs.States.{past}
use Rattle.s3_types.specs.Store.{Content}
use Rattle.s3_types.specs.declared.journal.Entry.{Entry}
use Rattle.std.specs.List.{AllByRecursion}
use Rattle.std.specs.Prelude.{Bool, List, Option, false, length, slice_get, true, [], ◌++◌, ◌+◌, ◌^◌, ◌∷◌, ◌≡◌, ◌≤◌}

-- What callers see of a world: the script, the store's content as the run began, all entries, the picks of the job's commit, the ends of
-- the events so far, and whether an event ran out of memory.
pub record Run : Type 0 where
  pub script : Script
  pub opening : Content
  pub journal : List Entry
  pub picks : List Pick
  pub ends : List EventEnd
  pub stuck : Bool

-- What callers see of a world that is made of this body and this flag.
abbrev pub run_of : {W : Type 0} → (W → Option (List Pick)) → Body W → Bool → Run
run_of picks_of b stuck = record {
  script = b.side.script;
  opening = b.shared.opening;
  journal = b.shared.journal.entries;
  picks = picks_in
      picks_of b.side.picks (slice_get b.side.hands.items 0);
  ends = b.side.ends.items;
  stuck = stuck;
}

-- A run may begin over this store: its next upload id is at most 2^62.
pub record MayBegin (c : Content) : Type 0 where
  pub few : c.next ≤ 2 ^ 62

-- The run in which nothing has happened yet.
abbrev pub begun : Script → Content → Run
begun w opening = record { script = w; opening = opening; journal = []; picks = []; ends = []; stuck = false }

-- All that holds of a run after each call: what is promised of its job, that only the job's actors sent, that each send had the outcome
-- that was due and named for it, and the facts of the job.
pub record Keeps (r : Run) : Type 0 where
  pub promised : Promised r.script r.opening r.journal r.picks r.ends
  -- The picks are all that the commit has made, unless it ran out of memory.
  pub whole : lacked_memory (past r.script r.ends).commit ≡ false → r.picks ≡ all_picks r.script r.opening r.journal r.ends
  pub own : AreOwn r.journal
  pub sent : Sent r.script r.opening r.journal
  pub facts : FactsHold r.script r.opening r.journal r.ends
  -- One attempt per task explains all that readers saw.
  pub readers_safe : ReadersSafe r.script r.opening r.journal r.ends

-- The script's next event has its end, and each entry that was added has the event's number.
pub record WentOn (r s : Run) : Type 0 where
  pub script : s.script ≡ r.script
  pub opening : s.opening ≡ r.opening
  pub end : EventEnd
  pub ends : s.ends ≡ r.ends ++ end ∷ []
  pub more : (part : List Entry) × (s.journal ≡ r.journal ++ part) × AllByRecursion (λ e. e.event ≡ length r.ends + 1) part
  pub stuck : s.stuck ≡ r.stuck

-- No event happened because memory ran out, and no later one will.
pub record FoundNone (r s : Run) : Type 0 where
  pub script : s.script ≡ r.script
  pub opening : s.opening ≡ r.opening
  pub ends : s.ends ≡ r.ends
  pub journal : s.journal ≡ r.journal
  pub picks : s.picks ≡ r.picks
  pub stuck : s.stuck ≡ true
