-- What a driver knows of its tasks as it begins an operation.
use Rattle.commit_lanes.specs.Fitting.{least_missing}
use Rattle.job_actor.specs.declared.reported.Reported.{Reported}
use Rattle.job_model.specs.Attempts.{Who}
use Rattle.job_model.specs.JobScript.{Script}
use Rattle.job_model.specs.declared.events.Op.{Op}
use Rattle.job_protocol.specs.Operations.{Reports, Setting}
use Rattle.job_protocol.specs.Outputs.{paths_of}
use Rattle.job_protocol.specs.Rechecks.{files_of_all}
use Rattle.s3_types.specs.declared.request.Actor.{Actor}
use Rattle.s3_types.specs.declared.request.Actor.TheVariants.{Driver}
use Rattle.std.specs.Prelude.{List, Some, is_some, ℕ, ◌≡◌}
use Rattle.job_model.specs.declared.events.Op.TheVariants as ops
use Rattle.job_protocol.specs.Conflicts as conflicts

-- The partitions of the files of these attempts.
abbrev pub report_dirs : Script → List Who → List (List ℕ)
report_dirs w attempts = conflicts.partitions (paths_of (files_of_all w attempts))

-- The report agrees with what the driver knows when the actor begins this operation. Only the job's commit needs the partitions.
pub record IsReport (g : Setting) (a : Actor) (op : Op) (x : Reported) (r : Reports) : Type 0 where
  -- The lowest task that is missing is the same.
  pub missing : least_missing g.script.tasks x.tasks ≡ r.missing
  -- The report has partitions exactly if another job shares the destination.
  pub shared : is_some x.partitions ≡ g.shared
  -- For the job's commit these are the partitions of the attempts that reported their commit.
  pub partitions : (ds : List (List ℕ)) → a ≡ Driver → op ≡ ops.Commit → x.partitions ≡ Some ds → ds ≡ report_dirs g.script r.attempts
