-- Four files in two lanes. The reply to the first completion is lost, and the commit ends with Committed all the same.
use Rattle.job_examples.specs.FourFileLanes.{Goes, Prepared, Shows, completes, finds_none, hellos, loses, mark_bytes, read_entries}
use Rattle.job_examples.specs.Jobs.{before_commit, commits_at, lake}
use Rattle.job_examples.specs.OneFile.{opening}
use Rattle.job_examples.specs.Runs.{puts}
use Rattle.job_model.specs.JobScript.{Script}
use Rattle.job_model.specs.declared.ends.EventEnd.{EventEnd}
use Rattle.job_model.specs.declared.ends.EventEnd.TheVariants.{Ended}
use Rattle.job_model.specs.declared.events.Event.TheVariants.{Do}
use Rattle.job_protocol.specs.Seen.{Seen, seen}
use Rattle.job_protocol.specs.View.{object_at}
use Rattle.job_spec.specs.Ends.{commit_due, is_mark_answered}
use Rattle.job_spec.specs.Entries.{OutsideStays, ZeroRename}
use Rattle.job_spec.specs.Headline.{Always}
use Rattle.job_spec.specs.States.{verdict}
use Rattle.job_spec.specs.Turns.{by_actor, since}
use Rattle.retries.specs.Worn.{first_worn}
use Rattle.s3_types.specs.Moment.{IsHonest, moment}
use Rattle.s3_types.specs.declared.fates.Fate.TheVariants.{After}
use Rattle.s3_types.specs.declared.journal.Entry.{Entry}
use Rattle.s3_types.specs.declared.object.Object.{Object}
use Rattle.s3_types.specs.declared.request.Actor.TheVariants.{Driver}
use Rattle.std.specs.Prelude.{List, None, Option, Some, codes, false, length, true, ℕ, [], ◌++◌, ◌∷◌, ◌≡◌}
use Rattle.std.specs.FinMap as fin
use Rattle.job_model.specs.declared.events.Op.TheVariants as ops
use Rattle.job_model.specs.declared.ends.CommitEnd.TheVariants as commits
use Rattle.job_model.specs.declared.ends.OpEnd.TheVariants as ends
use Rattle.job_examples.specs.FourFileLanes as files

-- The job's script. The reply to send 27 is lost.
abbrev pub script : Script
script = files.script 3 2 (fin.insert fin.empty 27 After) (Do Driver ops.Commit ∷ [])

-- The journal. The lanes are a and c, b and d. The lost completion is sent again at its lane's next turn.
abbrev pub journal : List Entry
journal =
    read_entries 4
    ++ loses 4 (codes "a") 1 ∷ completes 4 (codes "b") 2 ∷ finds_none 4 (codes "a") 1 ∷ completes 4 (codes "d") 4 ∷ completes 4 (codes "c")
    3 ∷ puts 4 Driver (codes "out/_SUCCESS") mark_bytes ∷ []

-- The ends of the run's events.
abbrev pub the_ends : List EventEnd
the_ends = before_commit ++ Ended (ends.Commit commits.Committed) ∷ []

-- What the journal shows after the first m entries.
abbrev pub at : ℕ → Seen
at m = seen script (commits_at 4) opening journal m

-- The object at the key of `_SUCCESS` after the first m entries.
abbrev pub marker_at : ℕ → Option Object
marker_at m = object_at (moment opening journal m).content lake (codes "out/_SUCCESS")

-- The commit ends with Committed, with all four files.
pub record LanesLost : Type 0 where
  pub sent : length journal ≡ 32
  pub always : Always script (commits_at 4) opening journal
  pub honest : IsHonest opening journal
  pub zero_rename : ZeroRename script opening journal
  pub outside : OutsideStays script opening journal
  pub prepared : Prepared script journal
  pub commit : Goes script journal Driver ops.Commit 4 None 4 (Some (ends.Commit commits.Committed))
  -- No request runs out of retries, so the resulting end is Committed. The put of `_SUCCESS` is answered.
  pub worn : first_worn 3 (since 4 (by_actor Driver journal)) ≡ None
  pub due : commit_due script (at 32).picks None (first_worn 3 (since 4 (by_actor Driver journal))) ≡ commits.Committed
  pub answered : is_mark_answered script (since 4 (by_actor Driver journal)) ≡ true
  pub verdict : verdict script the_ends ≡ 0
  pub begun : (at 26).begun ≡ true
  pub picked : (at 26).picks 0 ≡ Some 0
  pub unmarked : (at 31).put_mark ≡ false
  pub marked : (at 32).put_mark ≡ true
  -- The files appear in the order of the lanes' turns, and `_SUCCESS` comes after all four.
  pub none : Shows script journal 26 []
  pub one : Shows script journal 27 (hellos (codes "a" ∷ []))
  pub two : Shows script journal 28 (hellos (codes "a" ∷ codes "b" ∷ []))
  pub again : Shows script journal 29 (hellos (codes "a" ∷ codes "b" ∷ []))
  pub three : Shows script journal 30 (hellos (codes "a" ∷ codes "b" ∷ codes "d" ∷ []))
  pub four : Shows script journal 31 (hellos (codes "a" ∷ codes "b" ∷ codes "c" ∷ codes "d" ∷ []))
  pub whole : Shows script journal 32 (hellos (codes "a" ∷ codes "b" ∷ codes "c" ∷ codes "d" ∷ []))
  pub unmade : marker_at 31 ≡ None
  pub stands : marker_at 32 ≡ Some (record { bytes = mark_bytes; header = None })
