-- The paths of a job that a search for shared keys finds.
use Rattle.commit_lanes.specs.Clashes.{IsBest, items_from}
use Rattle.commit_lanes.specs.ReadSets.{AreRead}
use Rattle.commit_lanes.specs.Relatives.{relative_of}
use Rattle.commit_lanes.specs.declared.sharing.Clash.{Clash}
use Rattle.job_model.specs.Jobs.{Job}
use Rattle.job_model.specs.declared.ends.CommitEnd.{CommitEnd}
use Rattle.job_model.specs.declared.ends.CommitEnd.TheVariants.{SamePath}
use Rattle.job_protocol.specs.AtWork.{read_script}
use Rattle.job_protocol.specs.JobCommits.{Sets, picks_of}
use Rattle.job_protocol.specs.LaneTable.{RequestsApart}
use Rattle.job_protocol.specs.Outputs.{same_path}
use Rattle.path_keys.specs.Paths.{Path}
use Rattle.std.specs.Prelude.{None, Option, Some, length, ◌≡◌}

-- The end that a job's commit has if two tasks write this key.
abbrev pub end_of : Path → Option Clash → Option CommitEnd
end_of dest None = None
end_of dest (Some c) = Some (SamePath (relative_of dest c.key) c.first c.second)

-- If all sets were read and no two tasks write the same path, no two uploads lead to the same request.
pub record SetsAreApart : Type 0 where
  pub apart : (j : Job) (sets : Sets) → AreRead j sets → length sets ≡ j.tasks → same_path (read_script j sets) (picks_of sets) ≡ None
      → RequestsApart sets

-- The least key that two tasks write is that of the path that `same_path` finds.
pub record PathIsFound : Type 0 where
  pub same : (j : Job) (sets : Sets) (best : Option Clash) → AreRead j sets → length sets ≡ j.tasks → IsBest (items_from 0 sets) best
      → end_of j.dest best ≡ same_path (read_script j sets) (picks_of sets)
