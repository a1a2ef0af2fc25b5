-- The run of one attempt with one file is finished.
use Rattle.job_examples.specs.OneFile.{journal, opening, script}
use Rattle.job_model.specs.declared.ends.EventEnd.{EventEnd}
use Rattle.job_model.specs.declared.ends.EventEnd.TheVariants.{Ended}
use Rattle.job_model.specs.declared.ends.Pick.{Pick}
use Rattle.job_spec.specs.Promise.{Finished}
use Rattle.job_spec.specs.States.{verdict}
use Rattle.std.specs.Prelude.{List, [], ◌∷◌, ◌≡◌}
use Rattle.job_model.specs.declared.ends.SetupEnd.TheVariants as setups
use Rattle.job_model.specs.declared.ends.TaskEnd.TheVariants as tasks
use Rattle.job_model.specs.declared.ends.CommitEnd.TheVariants as commits
use Rattle.job_model.specs.declared.ends.OpEnd.TheVariants as ends

-- The ends of the run's events.
abbrev pub the_ends : List EventEnd
the_ends = Ended (ends.Setup setups.Done) ∷ Ended (ends.Task tasks.Done) ∷ Ended (ends.Task tasks.Done) ∷ Ended
    (ends.Commit commits.Committed) ∷ []

-- The reported attempts.
abbrev pub the_picks : List Pick
the_picks = record { task = 0; attempt = 0 } ∷ []

-- The run is finished, with status 0.
pub record OneFileFinished : Type 0 where
  pub finished : Finished script opening journal the_picks the_ends
  pub verdict : verdict script the_ends ≡ 0
