-- A run that is made to be shown and stored nowhere.
use Rattle.std.specs.Prelude.{◌≡◌, string_bytes}
use Rattle.s3_types.specs.Store.{Content}
use Rattle.job_model.specs.JobScript.{Script}
use Rattle.job_spec.specs.Promise.{Finished}
use Rattle.job_spec.specs.States.{verdict}
use Rattle.job_world.specs.Worlds.{Keeps, Run}
use Rattle.trace_text.specs.declared.dry_runs.DryRun.{DryRun}
use Rattle.trace_text.specs.Trace.{trace_text}

-- A job's script ran over a store to its end, and this is its trace.
pub record IsDryRun (w : Script) (c : Content) (d : DryRun) : Type 0 where
  -- The run, which keeps all that is promised of a job.
  pub run : Run
  pub keeps : Keeps run
  pub finished : Finished run.script run.opening run.journal run.picks run.ends
  -- The run has this script and this opening store.
  pub script : run.script ≡ w
  pub opening : run.opening ≡ c
  -- The result repeats the data of the run.
  pub script_told : d.script ≡ w
  pub journal : d.journal.entries ≡ run.journal
  pub picks : d.picks ≡ run.picks
  pub ends : d.ends ≡ run.ends
  pub status : d.status ≡ verdict w d.ends
  -- The trace of the run.
  pub text : string_bytes d.text ≡ trace_text w c d.journal.entries d.ends
