-- One job or two that are played, what a run reports of them, and what is promised of them.
use Rattle.durable_job.specs.declared.jobs.Jobs.{Jobs}
use Rattle.durable_job.specs.declared.jobs.Jobs.TheVariants.{One, Two}
use Rattle.durable_job.specs.declared.jobs.Told.{Told}
use Rattle.job_model.specs.JobScript.{Script}
use Rattle.job_soundness.specs.Safe.{ReadersSafe}
use Rattle.job_spec.specs.Entries.{AreOwn}
use Rattle.job_spec.specs.Promise.{Finished, Promised, Sent, all_picks, lacked_memory}
use Rattle.job_spec.specs.States.{past, verdict}
use Rattle.path_keys.specs.Paths.{Path}
use Rattle.s3_types.specs.Store.{Content}
use Rattle.s3_types.specs.declared.journal.Entry.{Entry}
use Rattle.std.specs.Prelude.{List, false, if◌then◌else◌, length, ℕ, [], ◌==◌, ◌≡◌}
use Rattle.twin_jobs.specs.Worlds.{Keeps, Run, played}
use Rattle.twin_script.specs.TwinScripts.{Twins, sides_in}

-- The destination of the job, or the one that both jobs share.
abbrev pub dest_of : Jobs → Path
dest_of (One w) = w.dest
dest_of (Two t) = t.first.dest

-- A report without picks and ends.
abbrev pub nothing_told : Told
nothing_told = record { picks = []; ends = []; second_picks = []; second_ends = [] }

-- The report has nothing of a second job.
pub record IsOfOne (told : Told) : Type 0 where
  pub picks : told.second_picks ≡ []
  pub ends : told.second_ends ≡ []

-- The run of two jobs over a store with this content, with these entries and this report.
abbrev pub run_told : Twins → Content → List Entry → Told → Run
run_told t c es told = record {
  first = record { script = t.first; picks = told.picks; ends = told.ends };
  second = record { script = t.second; picks = told.second_picks; ends = told.second_ends };
  sides = sides_in t.order;
  opening = c;
  journal = es;
  stuck = false;
}

-- ---- what is promised

-- What is promised of a job alone.
pub record KeepsOne (w : Script) (c : Content) (es : List Entry) (told : Told) : Type 0 where
  -- Readers see what they may rely on at every moment, and each event, turn and operation is as the script says.
  pub promised : Promised w c es told.picks told.ends
  -- The picks are all that the job's commit has made, unless it ran out of memory.
  pub whole : lacked_memory (past w told.ends).commit ≡ false → told.picks ≡ all_picks w c es told.ends
  -- Each answer is the one that was due, and each send has the fate that the script names for it.
  pub sent : Sent w c es
  -- No stranger sent anything.
  pub own : AreOwn es
  -- There is no second job.
  pub alone : IsOfOne told
  -- One attempt per task explains all that readers saw: only opening files, or opening files and whole files of these attempts.
  pub readers_safe : ReadersSafe w c es told.ends

-- What is promised of one job or two, by the opening content, all entries and the report.
abbrev pub ArePromised : Jobs → Content → List Entry → Told → Type 0
ArePromised (One w) c es told = KeepsOne w c es told
ArePromised (Two t) c es told = Keeps (run_told t c es told)

-- What is also true of a run that went to its end: each event has its end; of two jobs, each event that the order asks for.
abbrev pub AreFinished : Jobs → Content → List Entry → Told → Type 0
AreFinished (One w) c es told = Finished w c es told.picks told.ends × IsOfOne told
AreFinished (Two t) c es told = Keeps (run_told t c es told) × (played (run_told t c es told) ≡ length (sides_in t.order))

-- ---- the status of a run

-- The first of two statuses that is not 0, or 0 if both are.
abbrev pub verdict_of_two : ℕ → ℕ → ℕ
verdict_of_two first second = if first == 0 then second else first

-- The status by the ends in the report. Of two jobs it is the first one's, unless that is 0; then it is the second one's.
abbrev pub verdict_of : Jobs → Told → ℕ
verdict_of (One w) told = verdict w told.ends
verdict_of (Two t) told = verdict_of_two (verdict t.first told.ends) (verdict t.second told.second_ends)
