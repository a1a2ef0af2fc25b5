-- The run of one task with two attempts, between which the driver is killed and restarted. The new driver knows no report of the first
-- attempt; that of the second one counts.
use Rattle.job_examples.specs.Jobs.{commits_at, done_task, lake, other, set_key, worker}
use Rattle.job_examples.specs.OneFile.{opening}
use Rattle.job_examples.specs.Runs.{Goes, Keeps}
use Rattle.job_examples.specs.TwoAttempts.{Replaces, first_entries, first_set, journal_of, with_events}
use Rattle.job_model.specs.JobScript.{Script}
use Rattle.job_model.specs.declared.ends.EventEnd.{EventEnd}
use Rattle.job_model.specs.declared.ends.EventEnd.TheVariants.{Done, Ended}
use Rattle.job_model.specs.declared.events.Event.TheVariants.{Do, Kill, Restart}
use Rattle.job_model.specs.declared.events.Op.TheVariants.{Clean, Commit, Setup, Write}
use Rattle.job_protocol.specs.Seen.{Seen, seen}
use Rattle.job_protocol.specs.View.{object_at, view}
use Rattle.job_spec.specs.Ends.{commit_due}
use Rattle.job_spec.specs.Promise.{all_picks}
use Rattle.job_spec.specs.States.{commit_event, dead, idle, missing, past, refusal, verdict}
use Rattle.job_spec.specs.Turns.{Turns, by_actor, of_event, since}
use Rattle.pending_json.specs.Trees.{set_tree}
use Rattle.retries.specs.Worn.{first_worn}
use Rattle.s3_types.specs.Moment.{moment}
use Rattle.s3_types.specs.declared.journal.Entry.{Entry}
use Rattle.s3_types.specs.declared.request.Actor.TheVariants.{Driver}
use Rattle.serde_json.specs.Written.{compact_text}
use Rattle.std.specs.Prelude.{List, None, Some, false, length, take, ℕ, [], ◌++◌, ◌∷◌, ◌≡◌}
use Rattle.job_model.specs.declared.ends.SetupEnd.TheVariants as setups
use Rattle.job_model.specs.declared.ends.TaskEnd.TheVariants as tasks
use Rattle.job_model.specs.declared.ends.CommitEnd.TheVariants as commits
use Rattle.job_model.specs.declared.ends.CleanEnd.TheVariants as cleans
use Rattle.job_model.specs.declared.ends.OpEnd.TheVariants as ends
use Rattle.job_model.specs.declared.states.ActorStage.TheVariants as stage

-- The ends of the set-up, of the first attempt's write and commit, and of the kill and the restart.
abbrev pub restart_ends : List EventEnd
restart_ends = Ended (ends.Setup setups.Done) ∷ done_task ∷ done_task ∷ Done ∷ Done ∷ []

-- ---- the second attempt commits

-- The job's script.
abbrev pub script : Script
script = with_events (Do Driver Setup ∷ Do worker Write ∷ Do worker Commit ∷ Kill Driver ∷ Restart ∷ Do other Write ∷ Do other Commit ∷ Do
    Driver Commit ∷ Do Driver Clean ∷ [])

-- The run's journal.
abbrev pub journal : List Entry
journal = journal_of 6 7 8 9

-- The ends of the run's events.
abbrev pub the_ends : List EventEnd
the_ends = restart_ends ++ done_task ∷ done_task ∷ Ended (ends.Commit commits.Committed) ∷ Ended (ends.Clean cleans.Done) ∷ []

-- The second attempt, which commits after the restart, is chosen, and readers see its file.
pub record NewDriver : Type 0 where
  pub replaces : Replaces script 8 the_ends journal
  pub setup : Goes script the_ends journal Driver Setup 1 (Some 0) (ends.Setup setups.Done)
  pub first_write : Goes script the_ends journal worker Write 2 (Some 0) (ends.Task tasks.Done)
  pub first_task : Goes script the_ends journal worker Commit 3 (Some 0) (ends.Task tasks.Done)
  -- The driver is killed while idle, and a new one goes on after the set-up. Neither event is refused, and neither sends anything.
  pub may_die : refusal (past script (take 3 the_ends)).state (Kill Driver) ≡ None
  pub kill : Turns script (past script (take 3 the_ends)).state (Kill Driver) Done (of_event 4 journal)
  pub died : (past script (take 4 the_ends)).state Driver ≡ dead stage.Set
  pub may_restart : refusal (past script (take 4 the_ends)).state Restart ≡ None
  pub restart : Turns script (past script (take 4 the_ends)).state Restart Done (of_event 5 journal)
  pub goes_on : (past script restart_ends).state Driver ≡ idle stage.Set
  -- The first attempt stays committed, and its report is forgotten.
  pub reported : missing script (past script (take 4 the_ends)).reported ≡ None
  pub forgot : missing script (past script restart_ends).reported ≡ Some 0
  pub stays : (past script restart_ends).state worker ≡ idle stage.Committed
  -- The task is missing until the end of the second attempt's commit.
  pub second_write : Goes script the_ends journal other Write 6 (Some 0) (ends.Task tasks.Done)
  pub second_task : Goes script the_ends journal other Commit 7 (Some 0) (ends.Task tasks.Done)
  pub commit : Goes script the_ends journal Driver Commit 8 None (ends.Commit commits.Committed)
  pub clean : Goes script the_ends journal Driver Clean 9 None (ends.Clean cleans.Done)
  -- All actors are idle and committed, and the job attempt is the second one.
  pub driver : (past script the_ends).state Driver ≡ idle stage.Committed
  pub first : (past script the_ends).state worker ≡ idle stage.Committed
  pub second : (past script the_ends).state other ≡ idle stage.Committed
  pub number : (past script the_ends).attempt ≡ 2

-- ---- the new driver commits at once

-- The script in which the new driver commits at once.
abbrev pub early_script : Script
early_script = with_events (Do Driver Setup ∷ Do worker Write ∷ Do worker Commit ∷ Kill Driver ∷ Restart ∷ Do Driver Commit ∷ [])

-- The ends of its events.
abbrev pub early_ends : List EventEnd
early_ends = restart_ends ++ Ended (ends.Commit (commits.Missing 0)) ∷ []

-- What the journal shows after the first m entries.
abbrev pub early_at : ℕ → Seen
early_at m = seen early_script (commits_at 6) opening first_entries m

-- The new driver's commit misses the task, although its set exists.
pub record Forgotten : Type 0 where
  pub sent : length first_entries ≡ 10
  pub event : commit_event early_script early_ends ≡ Some 6
  pub keeps : Keeps early_script (commits_at 6) opening first_entries
  pub setup : Goes early_script early_ends first_entries Driver Setup 1 (Some 0) (ends.Setup setups.Done)
  pub write : Goes early_script early_ends first_entries worker Write 2 (Some 0) (ends.Task tasks.Done)
  pub task : Goes early_script early_ends first_entries worker Commit 3 (Some 0) (ends.Task tasks.Done)
  -- The attempt has published, and its set exists.
  pub published : (early_at 10).last 0 ≡ Some 0
  pub stands : object_at (moment opening first_entries 10).content lake set_key ≡ Some
      (record { bytes = compact_text (set_tree first_set); header = None })
  -- The commit misses its task all the same, without a request. The resulting end is Missing.
  pub commit : Goes early_script early_ends first_entries Driver Commit 6 (Some 0) (ends.Commit (commits.Missing 0))
  pub not_begun : (early_at 10).begun ≡ false
  pub due : commit_due early_script (early_at 10).picks (Some 0) (first_worn 3 (since 6 (by_actor Driver first_entries))) ≡ commits.Missing
      0
  pub picks : all_picks early_script opening first_entries early_ends ≡ []
  -- Readers never see a file.
  pub shows : (m : ℕ) (p : List ℕ) → view early_script.dest (moment opening first_entries m).content p ≡ None
  pub driver : (past early_script early_ends).state Driver ≡ idle stage.Failed
  pub number : (past early_script early_ends).attempt ≡ 2
  pub verdict : verdict early_script early_ends ≡ 1
