-- Every run keeps what is promised of its job.
use Rattle.job_invariant.specs.Facts.{Hold}
use Rattle.job_invariant.specs.Told.{nothing_told, tell_all}
use Rattle.job_model.specs.JobScript.{Script}
use Rattle.job_model.specs.Legal.{IsLegal}
use Rattle.job_model.specs.declared.ends.CommitEnd.{CommitEnd}
use Rattle.job_model.specs.declared.ends.EventEnd.{EventEnd}
use Rattle.job_model.specs.declared.ends.Pick.{Pick}
use Rattle.job_model.specs.declared.ends.SetupEnd.{SetupEnd}
use Rattle.job_model.specs.declared.ends.TaskEnd.{TaskEnd}
use Rattle.job_outcomes.specs.SetupEnds.{SetupListed, keys_listed}
use Rattle.job_protocol.specs.Operations.{Setting}
use Rattle.job_protocol.specs.Seen.{nothing_seen, see_all}
use Rattle.job_spec.specs.Ends.{CommitEnded, EndedIn, has_cleaned}
use Rattle.job_spec.specs.Entries.{ZeroRename}
use Rattle.job_spec.specs.Follows.{Plays, known_then}
use Rattle.job_spec.specs.OperationEnds.{CommitServed, TaskIs, WasPublished}
use Rattle.job_spec.specs.Promise.{ArePicked, CleansEnd, Promised, all_picks, seen_until, setting}
use Rattle.job_spec.specs.States.{Doing, clean_event, is_new, past, times}
use Rattle.job_spec.specs.Turns.{by_actor, until, until_last}
use Rattle.script_steps.specs.Transitions.{Play, Reachable}
use Rattle.protocol_runs.specs.Runs.{IsOpening}
use Rattle.retries.specs.Worn.{WornFirst}
use Rattle.s3_types.specs.Store.{Content}
use Rattle.s3_types.specs.declared.journal.Entry.{Entry}
use Rattle.s3_types.specs.declared.request.Actor.TheVariants.{Attempt, Driver}
use Rattle.s3_types.specs.declared.request.Request.{Request}
use Rattle.std.specs.Prelude.{Bool, List, None, Option, false, length, not, take, true, ℕ, ◌+◌, ◌≡◌, ◌≤◌, ◌⊎◌}
use Rattle.job_model.specs.declared.events.Op.TheVariants as ops
use Rattle.job_model.specs.declared.ends.SetupEnd.TheVariants as setups
use Rattle.job_model.specs.declared.ends.TaskEnd.TheVariants as tasks
use Rattle.job_model.specs.declared.ends.OpEnd.TheVariants as ends

-- ---- among strangers that leave the job's own alone

-- How the driver's set-up ends: out of memory, or by its own entries, that is, by the keys that they listed and the first request that ran
-- out of retries.
abbrev pub SetupsEndAmong : Script → List Entry → List EventEnd → Type 0
SetupsEndAmong w journal xs = (j : ℕ) (d : Doing) (e : SetupEnd) (es : List Entry) → EndedIn w xs journal j Driver d (ends.Setup e) es
    → (e ≡ setups.NoMemory) ⊎ ((worn : Option Request) × WornFirst w.retries es worn × SetupListed w (keys_listed es) worn e)

-- How an attempt's operation ends: as is promised also without strangers, or out of memory.
abbrev pub TasksEndAmong : Script → Content → List Entry → List EventEnd → Type 0
TasksEndAmong w opening journal xs = (j t a : ℕ) (d : Doing) (e : TaskEnd) (es : List Entry)
    → EndedIn w xs journal j (Attempt t a) d (ends.Task e) es
    → (e ≡ tasks.NoMemory) ⊎ ((worn : Option Request) × WornFirst w.retries es worn
    × TaskIs d.op w (record { task = t; attempt = a }) es (known_then (setting w opening) (Attempt t a) d
    (by_actor (Attempt t a) journal)).publish_sent (has_cleaned (clean_event w xs) (until_last (Attempt t a) (until (j + 1) journal)))
    worn e)

-- An attempt's commit that ended Done has published, unless the driver had begun to clean up before the attempt's last entry.
abbrev pub PublishesAmong : Script → Content → List Entry → List EventEnd → Type 0
PublishesAmong w opening journal xs = (j t a : ℕ) (d : Doing) (es : List Entry)
    → EndedIn w xs journal j (Attempt t a) d (ends.Task tasks.Done) es → d.op ≡ ops.Commit
    → has_cleaned (clean_event w xs) (until_last (Attempt t a) (until (j + 1) journal)) ≡ false → WasPublished w opening journal t a (j + 1)

-- The job's commit has the end that is due. Each answered read of a set gave one, and a completion was refused only if an earlier send of
-- it was lost.
abbrev pub CommitsEndAmong : Script → Content → List Entry → List EventEnd → Type 0
CommitsEndAmong w opening journal xs = (j : ℕ) (d : Doing) (e : CommitEnd) (es : List Entry)
    → EndedIn w xs journal j Driver d (ends.Commit e) es
    → CommitEnded w (seen_until w opening journal xs (j + 1)) d.reports.missing es e × CommitServed w es

-- What no stranger can break. How a commit, an abort or a clean ends is said only of a job that does not share its destination.
pub record KeptAmong (g : Setting) (opening : Content) (journal : List Entry) (ps : List Pick) (xs : List EventEnd) : Type 0 where
  pub plays : Plays g xs journal
  pub picks : ArePicked ps (all_picks g.script opening journal xs)
  pub zero_rename : ZeroRename g.script opening journal
  pub setups : SetupsEndAmong g.script journal xs
  pub tasks : TasksEndAmong g.script opening journal xs
  pub publishes : PublishesAmong g.script opening journal xs
  pub cleans : g.shared ≡ false → CleansEnd g.script opening journal xs
  pub commits : g.shared ≡ false → CommitsEndAmong g.script opening journal xs

-- ---- the laws

-- At each point between two events, all that no stranger can break holds.
abbrev pub RunsAreKeptAmong : Type 0
RunsAreKeptAmong = (g : Setting) → (opening : Content) (x : Play) → IsLegal g.script → IsOpening g opening → Reachable g opening x
    → x.now ≡ None
    → (ps : List Pick) → ArePicked ps (all_picks g.script opening x.journal x.ends) → KeptAmong g opening x.journal ps x.ends

-- At each point between two events, all that is promised holds of a job that does not share its destination.
abbrev pub RunsAreKept : Type 0
RunsAreKept = (g : Setting) → g.shared ≡ false → (opening : Content) (x : Play) → IsLegal g.script → IsOpening g opening
    → Reachable g opening x → x.now ≡ None
    → (ps : List Pick) → ArePicked ps (all_picks g.script opening x.journal x.ends) → Promised g.script opening x.journal ps x.ends

-- A set-up of the job has ended Done.
abbrev pub is_set_up : Script → List EventEnd → Bool
is_set_up w xs = not (is_new ((past w xs).state Driver).stage)

-- From the end of the event in which a set-up ended Done, the facts of the job hold after each send.
abbrev pub FactsHold : Script → Content → List Entry → List EventEnd → Type 0
FactsHold w opening journal xs = (j m : ℕ) → is_set_up w (take j xs) ≡ true → length (until j journal) ≤ m → m ≤ length journal
    → Hold w opening.minimum (see_all w (times w xs) (nothing_seen opening) (take m journal))
    (tell_all w (nothing_told (clean_event w xs)) (take m journal))

-- At each point between two events, the facts have held after each send since the end of a set-up.
abbrev pub RunsHoldFacts : Type 0
RunsHoldFacts = (g : Setting) (opening : Content) (x : Play) → IsLegal g.script → IsOpening g opening → Reachable g opening x → x.now ≡ None
    → FactsHold g.script opening x.journal x.ends
