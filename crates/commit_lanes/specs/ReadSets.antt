-- The sets that a job's commit has read.
use Rattle.commit_lanes.specs.Places.{places_from}
use Rattle.commit_lanes.specs.declared.places.Place.{Place}
use Rattle.job_model.specs.Jobs.{Job}
use Rattle.job_protocol.specs.JobCommits.{Sets}
use Rattle.path_keys.specs.Paths.{relative_in}
use Rattle.pending_json.specs.Pending.{Pending}
use Rattle.pending_json.specs.declared.records.PendingSet.{PendingSet}
use Rattle.std.specs.Prelude.{List, Some, is_some, length, slice_get, true, ℕ, ◌≡◌}

-- The set of a task of the job: its uploads go to different keys below the destination, in the destination's bucket.
pub record IsSetOf (j : Job) (t : ℕ) (s : PendingSet) : Type 0 where
  pub job : s.job ≡ j.job
  pub task : s.task ≡ t
  pub bucket : (n : ℕ) (c : Pending) → slice_get s.commits n ≡ Some c → c.bucket ≡ j.dest.bucket
  pub below : (n : ℕ) (c : Pending) → slice_get s.commits n ≡ Some c → is_some (relative_in j.dest.key c.destination) ≡ true
  pub apart : (m n : ℕ) (c d : Pending) → slice_get s.commits m ≡ Some c → slice_get s.commits n ≡ Some d → c.destination ≡ d.destination
      → m ≡ n

-- Each set is that of the task with its index.
abbrev pub AreRead : Job → Sets → Type 0
AreRead j sets = (n : ℕ) (s : PendingSet) → slice_get sets n ≡ Some s → IsSetOf j n s

-- All sets were read, and these are the places of their uploads.
pub record HasAll (j : Job) (sets : Sets) (places : List Place) : Type 0 where
  pub each : AreRead j sets
  pub all : length sets ≡ j.tasks
  pub placed : places ≡ places_from 0 sets
