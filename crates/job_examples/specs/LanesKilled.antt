-- Four files in two lanes and in one. The reply to the first completion is lost, and the driver is killed after five sends of its commit.
use Rattle.job_examples.specs.FourFileLanes.{Goes, Prepared, Shows, completes, finds_none, hellos, loses, read_entries}
use Rattle.job_examples.specs.Jobs.{before_commit, commits_at, lake}
use Rattle.job_examples.specs.OneFile.{opening}
use Rattle.job_model.specs.JobScript.{Script}
use Rattle.job_model.specs.declared.ends.EventEnd.{EventEnd}
use Rattle.job_model.specs.declared.ends.EventEnd.TheVariants.{Done}
use Rattle.job_model.specs.declared.events.Event.TheVariants.{Kill, Start, Step}
use Rattle.job_protocol.specs.Seen.{Seen, seen}
use Rattle.job_protocol.specs.View.{object_at}
use Rattle.job_spec.specs.Entries.{OutsideStays, ZeroRename}
use Rattle.job_spec.specs.Headline.{Always}
use Rattle.job_spec.specs.States.{dead, past, verdict}
use Rattle.s3_types.specs.Moment.{IsHonest, moment}
use Rattle.s3_types.specs.declared.fates.Fate.TheVariants.{After}
use Rattle.s3_types.specs.declared.journal.Entry.{Entry}
use Rattle.s3_types.specs.declared.request.Actor.TheVariants.{Driver}
use Rattle.std.specs.Prelude.{List, None, Some, codes, false, length, true, ℕ, [], ◌++◌, ◌∷◌, ◌≡◌}
use Rattle.std.specs.FinMap as fin
use Rattle.job_model.specs.declared.events.Op.TheVariants as ops
use Rattle.job_model.specs.declared.states.ActorStage.TheVariants as stage
use Rattle.job_examples.specs.FourFileLanes as files

-- The job's script. The reply to send 27 is lost.
abbrev pub script : ℕ → Script
script lanes = files.script 3 lanes (fin.insert fin.empty 27 After) (Start Driver ops.Commit ∷ Step Driver 5 ∷ Kill Driver ∷ [])

-- The journal in two lanes. The five sends belong to event 5.
abbrev pub in_two : List Entry
in_two = read_entries 5 ++ loses 5 (codes "a") 1 ∷ completes 5 (codes "b") 2 ∷ finds_none 5 (codes "a") 1 ∷ completes 5 (codes "d") 4 ∷ []

-- The journal in one lane.
abbrev pub in_one : List Entry
in_one = read_entries 5 ++ loses 5 (codes "a") 1 ∷ finds_none 5 (codes "a") 1 ∷ completes 5 (codes "b") 2 ∷ completes 5 (codes "c") 3 ∷ []

-- The ends of the run's events.
abbrev pub the_ends : List EventEnd
the_ends = before_commit ++ Done ∷ Done ∷ Done ∷ []

-- What the journal shows after the first m entries.
abbrev pub at : ℕ → List Entry → ℕ → Seen
at lanes journal m = seen (script lanes) (commits_at 4) opening journal m

-- The run with this number of lanes and this journal, after which the files `names` are left.
pub record KilledWith (lanes : ℕ) (journal : List Entry) (names : List (List ℕ)) : Type 0 where
  pub sent : length journal ≡ 30
  pub always : Always (script lanes) (commits_at 4) opening journal
  pub honest : IsHonest opening journal
  pub zero_rename : ZeroRename (script lanes) opening journal
  pub outside : OutsideStays (script lanes) opening journal
  pub prepared : Prepared (script lanes) journal
  -- The commit begins in event 4, and does not end.
  pub commit : Goes (script lanes) journal Driver ops.Commit 4 None 6 None
  pub dead : (past (script lanes) the_ends).state Driver ≡ dead stage.Committing
  pub verdict : verdict (script lanes) the_ends ≡ 1
  pub begun : (at lanes journal 26).begun ≡ true
  pub picked : (at lanes journal 26).picks 0 ≡ Some 0
  -- Three files are left, and `_SUCCESS` does not exist.
  pub left : Shows (script lanes) journal 30 (hellos names)
  pub unmarked : (at lanes journal 30).put_mark ≡ false
  pub unmade : object_at (moment opening journal 30).content lake (codes "out/_SUCCESS") ≡ None

-- In both runs readers see three whole files and no `_SUCCESS`, but not the same three.
pub record LanesKilled : Type 0 where
  pub two : KilledWith 2 in_two (codes "a" ∷ codes "b" ∷ codes "d" ∷ [])
  pub one : KilledWith 1 in_one (codes "a" ∷ codes "b" ∷ codes "c" ∷ [])
