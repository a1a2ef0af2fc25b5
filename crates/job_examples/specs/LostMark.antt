-- The run of one file in which both sends of the last put lose their replies. The commit ends with StoreFault, but the file and `_SUCCESS`
-- exist.
use Rattle.job_examples.specs.Jobs.{before_commit, commits_at, doing, entry, lake}
use Rattle.job_examples.specs.OneFile.{attempt_entries, opening, the_completion, the_mark, the_read}
use Rattle.job_model.specs.JobScript.{Script}
use Rattle.job_model.specs.declared.ends.EventEnd.{EventEnd}
use Rattle.job_model.specs.declared.ends.EventEnd.TheVariants.{Ended}
use Rattle.job_protocol.specs.Operations.{Setting}
use Rattle.job_protocol.specs.Seen.{seen}
use Rattle.job_spec.specs.Ends.{commit_due}
use Rattle.job_spec.specs.Entries.{OutsideStays, ZeroRename}
use Rattle.job_spec.specs.Follows.{OpFollows, op_over}
use Rattle.job_spec.specs.Headline.{Always}
use Rattle.job_spec.specs.States.{verdict}
use Rattle.job_spec.specs.Turns.{by_actor, since}
use Rattle.pending_json.specs.Trees.{success_tree}
use Rattle.retries.specs.Worn.{first_worn}
use Rattle.s3_types.specs.Moment.{IsHonest}
use Rattle.s3_types.specs.declared.fates.Fate.TheVariants.{After}
use Rattle.s3_types.specs.declared.journal.Entry.{Entry}
use Rattle.s3_types.specs.declared.journal.Outcome.TheVariants.{ReplyLost}
use Rattle.s3_types.specs.declared.request.Actor.TheVariants.{Driver}
use Rattle.s3_types.specs.declared.request.Request.TheVariants.{PutObject}
use Rattle.serde_json.specs.Written.{compact_text}
use Rattle.std.specs.Prelude.{List, None, Some, codes, false, [], ◌++◌, ◌∷◌, ◌≡◌}
use Rattle.std.specs.FinMap as fin
use Rattle.job_model.specs.declared.events.Op.TheVariants as ops
use Rattle.job_model.specs.declared.ends.CommitEnd.TheVariants as commits
use Rattle.job_model.specs.declared.ends.FaultStage.TheVariants as stages
use Rattle.job_model.specs.declared.ends.OpEnd.TheVariants as ends
use Rattle.job_examples.specs.OneFile as one

-- The job's script. Each request may be sent twice, and the replies to sends 13 and 14 are lost.
abbrev pub script : Script
script = record one.script { retries = 1; fates = fin.insert (fin.insert fin.empty 13 After) 14 After }

-- A put of `_SUCCESS` whose reply is lost.
abbrev pub lost_put : Entry
lost_put = entry 4 Driver (PutObject lake (codes "out/_SUCCESS") (compact_text (success_tree the_mark)) None) ReplyLost

-- The run's journal.
abbrev pub journal : List Entry
journal = attempt_entries ++ the_read ∷ the_completion 4 ∷ lost_put ∷ lost_put ∷ []

-- The ends of the run's events.
abbrev pub the_ends : List EventEnd
the_ends = before_commit ++ Ended (ends.Commit (commits.StoreFault stages.Success)) ∷ []

-- What stays the same during the run.
abbrev pub setting : Setting
setting = record { script = script; minimum = 5242880; shared = false }

-- The commit ends with StoreFault, but the file and `_SUCCESS` exist.
pub record LostMark : Type 0 where
  -- After each entry readers see what they may rely on. From send 13 on `_SUCCESS` exists, and with it the whole file.
  pub always : Always script (commits_at 4) opening journal
  pub honest : IsHonest opening journal
  pub zero_rename : ZeroRename script opening journal
  pub outside : OutsideStays script opening journal
  -- The put runs out of retries with its second send, and the resulting end is StoreFault of its stage.
  pub follows : OpFollows setting Driver (doing ops.Commit 4 None) (by_actor Driver journal)
  pub over : op_over setting Driver (doing ops.Commit 4 None) (by_actor Driver journal) ≡ Some
      (ends.Commit (commits.StoreFault stages.Success))
  pub worn : first_worn 1 (since 4 (by_actor Driver journal)) ≡ Some (PutObject lake (codes "out/_SUCCESS")
      (compact_text (success_tree the_mark)) None)
  pub due : commit_due script (seen script (commits_at 4) opening journal 14).picks None (first_worn 1 (since 4 (by_actor Driver journal)))
      ≡ commits.StoreFault stages.Success
  pub verdict : verdict script the_ends ≡ 8
