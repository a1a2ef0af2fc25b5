-- Runs of four files: killed between completions, reverted, with a lost reply in two lanes, killed in lanes, and aborted after a restart.
use Rattle.text_and_lists.specs.Parts.{parts_from}
use Rattle.job_examples.proofs.Kept.{always_kept, files_then, honours, keeps, object_then, upload_then}
use Rattle.job_examples.proofs.OneSet.{set_by}
use Rattle.job_examples.proofs.Sights.{nothing}
use Rattle.job_examples.specs.FourFileLanes.{Goes}
use Rattle.job_examples.specs.FourFiles.{FourFiles, attempt_entries, journal, script, the_set}
use Rattle.job_examples.specs.Jobs.{commits_at}
use Rattle.job_examples.specs.OneFile.{opening}
use Rattle.job_examples.specs.Runs.{Keeps}
use Rattle.job_model.specs.declared.events.Event.{Event}
use Rattle.json.specs.Print.{escape_byte}
use Rattle.pending_json.specs.Reading.{set_of}
use Rattle.pending_json.specs.Trees.{set_tree}
use Rattle.s3_types.specs.Blocks.{block_of, parts_of}
use Rattle.s3_types.specs.Fates.{FateMap}
use Rattle.s3_types.specs.declared.request.Actor.TheVariants.{Driver}
use Rattle.serde_json.specs.Written.{compact_text}
use Rattle.std.proofs.Common.{List, None, Ok, Some, codes, drop, refl, ℕ, [], ◌∷◌, ◌≡◌}
use Rattle.std.specs.Fmt.{digits}
use Rattle.job_model.specs.declared.events.Op.TheVariants as ops
use Rattle.job_model.specs.declared.ends.CommitEnd.TheVariants as commits
use Rattle.job_model.specs.declared.ends.FaultStage.TheVariants as stages
use Rattle.job_model.specs.declared.ends.OpEnd.TheVariants as ends
use Rattle.job_examples.specs.FourFileLanes as files
use Rattle.job_examples.specs.LanesReverted as back
use Rattle.job_examples.specs.LanesLost as lost
use Rattle.job_examples.specs.LanesKilled as killed
use Rattle.job_examples.specs.Restarted as anew

set_is_read : set_of (compact_text (set_tree the_set)) ≡ Ok the_set
unfolding parts_from
set_is_read = set_by the_set refl

four_kept : Keeps script (commits_at 4) opening journal
unfolding digits escape_byte
four_kept = keeps nothing journal script refl (commits_at 4) refl refl refl [] refl refl

pub four_files : FourFiles
unfolding digits escape_byte block_of parts_of
four_files =
    let file = files_then nothing journal refl in
    let live = upload_then nothing journal refl 28 in
    let mark = object_then nothing journal refl 28 (codes "out/_SUCCESS") in
    search (
      set_is_read,
      live 3,
      live 4,
      file 26,
      file 28 (codes "a"),
      file 28 (codes "b"),
      file 28 (codes "c"),
      file 28 (codes "d"),
      mark,
      four_kept,
    )

-- The operations before the commit send their requests and end as they must.
prepared : (retries lanes : ℕ) (fates : FateMap) (events : List Event)
    → files.Prepared (files.script retries lanes fates events) attempt_entries
unfolding digits block_of parts_of
prepared retries lanes fates events = search

pub lanes_reverted : back.LanesReverted
unfolding digits escape_byte
lanes_reverted =
    let commit : Goes back.script back.journal Driver ops.Commit 4 None 4 (Some (ends.Commit (commits.StoreFault stages.Complete))) =
    (rw set_is_read search, rw set_is_read refl) in
    let file = files_then nothing back.journal refl in
    let kept = always_kept nothing back.journal back.script refl (commits_at 4) refl in
    let before = prepared 0 1 back.script.fates (drop 3 back.script.events) in
    search (
      commit,
      file 26,
      file 27,
      file 28,
      file 30,
      file 31,
      file 33,
      kept,
      honours nothing back.journal back.script refl refl refl,
      before,
    )

pub lanes_lost : lost.LanesLost
unfolding digits escape_byte
lanes_lost =
    let commit : Goes lost.script lost.journal Driver ops.Commit 4 None 4 (Some (ends.Commit commits.Committed)) =
    (rw set_is_read search, rw set_is_read refl) in
    let file = files_then nothing lost.journal refl in
    let object = object_then nothing lost.journal refl in
    let mark = codes "out/_SUCCESS" in
    let kept = always_kept nothing lost.journal lost.script refl (commits_at 4) refl in
    let honour = honours nothing lost.journal lost.script refl refl refl in
    let before = prepared 3 2 lost.script.fates (drop 3 lost.script.events) in
    search (commit, file 26, file 27, file 28, file 29, file 30, file 31, file 32, object 31 mark, object 32 mark, kept, honour, before)

killed_two : killed.KilledWith 2 killed.in_two (codes "a" ∷ codes "b" ∷ codes "d" ∷ [])
unfolding digits escape_byte
killed_two =
    let commit : Goes (killed.script 2) killed.in_two Driver ops.Commit 4 None 6 None = (rw set_is_read search, rw set_is_read refl) in
    let mark = object_then nothing killed.in_two refl 30 (codes "out/_SUCCESS") in
    let kept = always_kept nothing killed.in_two (killed.script 2) refl (commits_at 4) refl in
    let before = prepared 3 2 (killed.script 2).fates (drop 3 (killed.script 2).events) in
    search (
      commit,
      files_then nothing killed.in_two refl 30,
      mark,
      kept,
      honours nothing killed.in_two (killed.script 2) refl refl refl,
      before,
    )

killed_one : killed.KilledWith 1 killed.in_one (codes "a" ∷ codes "b" ∷ codes "c" ∷ [])
unfolding digits escape_byte
killed_one =
    let commit : Goes (killed.script 1) killed.in_one Driver ops.Commit 4 None 6 None = (rw set_is_read search, rw set_is_read refl) in
    let mark = object_then nothing killed.in_one refl 30 (codes "out/_SUCCESS") in
    let kept = always_kept nothing killed.in_one (killed.script 1) refl (commits_at 4) refl in
    let before = prepared 3 1 (killed.script 1).fates (drop 3 (killed.script 1).events) in
    search (
      commit,
      files_then nothing killed.in_one refl 30,
      mark,
      kept,
      honours nothing killed.in_one (killed.script 1) refl refl refl,
      before,
    )

pub lanes_killed : killed.LanesKilled
lanes_killed = record { two = killed_two; one = killed_one }

pub restarted : anew.Restarted
unfolding digits escape_byte
restarted =
    let commit : Goes anew.script anew.journal Driver ops.Commit 4 None 6 None = (rw set_is_read search, rw set_is_read refl) in
    let file = files_then nothing anew.journal refl in
    let end = object_then nothing anew.journal refl 33 in
    let kept = always_kept nothing anew.journal anew.script refl (commits_at 4) refl in
    let honour = honours nothing anew.journal anew.script refl refl refl in
    let before = prepared 3 1 anew.script.fates (drop 3 anew.script.events) in
    search (commit, file 28, file 33, upload_then nothing anew.journal refl 33, end, kept, honour, before)
