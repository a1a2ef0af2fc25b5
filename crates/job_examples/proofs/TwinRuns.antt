-- Runs of two jobs of the magic committer, as each of them sees it and by events, and a run whose check finds the other job's file.
use Rattle.text_and_lists.proofs.Members.{false_true, none_some}
use Rattle.text_and_lists.specs.Parts.{parts_from}
use Rattle.job_examples.proofs.Kept.{files_then, honours, object_then}
use Rattle.job_examples.proofs.OneSet.{record_by, set_by}
use Rattle.job_examples.proofs.Sights.{nothing}
use Rattle.job_examples.proofs.TwinChecks.{all_strange_so, at_so, seen_scene}
use Rattle.job_examples.specs.FourFileLanes.{Goes, Prepared, out}
use Rattle.job_examples.specs.FourFiles.{of_file}
use Rattle.job_examples.specs.Jobs.{commits_at, doing, lake, setting}
use Rattle.job_examples.specs.OneFile.{opening}
use Rattle.job_examples.specs.TwoJobs.{Kept, TheOther, TwoJobs, clean_entries, eyes, ja, jb, journal, magic, marks, mine, other_eyes}
use Rattle.job_examples.specs.TwoJobs.{quiet_entries, set_key, set_of}
use Rattle.job_examples.specs.TwoMagic.{TwoMagic, begun, drew_first, drew_second, entries, first_times, hasty, next}
use Rattle.job_model.specs.declared.ends.CheckEnd.TheVariants.{Conflict}
use Rattle.job_protocol.specs.Sparing.{sparing_asks}
use Rattle.job_protocol.specs.View.{view}
use Rattle.job_spec.specs.Follows.{OpFollows}
use Rattle.job_spec.specs.Turns.{by_actor}
use Rattle.json.specs.Print.{escape_byte}
use Rattle.retries.specs.Operation.{Follows}
use Rattle.retries.specs.Retries.{wants_of}
use Rattle.s3_types.specs.Blocks.{block_of, parts_of}
use Rattle.s3_types.specs.Store.{Scene}
use Rattle.s3_types.specs.declared.reply.Reply.TheVariants.{Page}
use Rattle.s3_types.specs.declared.request.Actor.TheVariants.{Driver}
use Rattle.s3_types.specs.declared.request.Request.TheVariants.{AbortUpload, ListPage, ListUploads}
use Rattle.std.proofs.Common.{List, None, Some, ap, codes, false, refl, ℕ, [], ◌++◌, ◌∙◌, ◌∷◌, ◌≡◌}
use Rattle.std.specs.Fmt.{digits}
use Rattle.twin_facts.specs.Events.{AtMoment}
use Rattle.twin_facts.specs.Names.{IsStranger}
use Rattle.twin_facts.specs.Sides.{Second}
use Rattle.job_model.specs.declared.events.Op.TheVariants as ops
use Rattle.job_model.specs.declared.ends.CommitEnd.TheVariants as commits
use Rattle.job_model.specs.declared.ends.OpEnd.TheVariants as ends
use Rattle.job_examples.specs.Conflict as conflict

-- ---- as ja reads it

other_clean : OpFollows (setting ja) Driver (doing ops.Clean 5 None) (by_actor Driver eyes) → ⊥
unfolding digits
other_clean h = let e : Some (ListUploads lake (codes "out/") None 1000) ≡ Some (ListPage lake (magic (codes "ja")) false [] 1000) = h.0 in
    cc

pub two_jobs : TwoJobs
unfolding digits escape_byte block_of parts_of parts_from
two_jobs =
    let read = set_by (set_of (codes "ja") (codes "x") 1) refl in
    let commit : Goes ja eyes Driver ops.Commit 4 None 4 (Some (ends.Commit commits.Committed)) = (rw read search, rw read refl) in
    let prepared : Prepared ja eyes = search in
    let shown = files_then nothing eyes refl in
    let stored = object_then nothing eyes refl in
    let before : Kept 26 = search (stored 26) in
    let stay : Kept 30 = search (stored 30) in
    let mark = codes "out/_SUCCESS" in
    search (
      commit,
      prepared,
      honours nothing eyes ja refl refl refl,
      other_clean,
      shown 21,
      shown 22,
      shown 25,
      shown 30,
      before,
      stay,
      stored 23 mark,
      stored 30 mark,
      stored 30 (set_key (codes "ja")),
    )

pub the_other : TheOther
unfolding digits escape_byte block_of parts_of parts_from
the_other = search (set_by (set_of (codes "jb") (codes "y") 2) refl, honours nothing other_eyes jb refl refl refl)

-- ---- by events

-- The promise refuses `_SUCCESS` before its file.
wrong_mark : AtMoment ja jb first_times (commits_at 7) opening hasty 22 → ⊥
unfolding digits escape_byte block_of parts_of
wrong_mark h =
    let es = quiet_entries ++ marks (codes "jb") (codes "y") 7 ∷ [] in
    none_some (ap (λ (x : Scene). view jb.dest x.content (codes "y")) (seen_scene jb (commits_at 7) Second mine opening es 22) ∙ files_then
    nothing es refl 22 (codes "y")) ((h.second refl).files (codes "y") (codes "hello") refl refl)

pub two_magic : TwoMagic
unfolding digits escape_byte block_of parts_of parts_from
two_magic =
    let at = at_so ja jb first_times (commits_at 7) mine journal refl refl refl in
    let read = record_by (of_file (codes "x") 1) refl in
    let clean : Follows (wants_of (sparing_asks ja)) next begun clean_entries = rw read search in
    let wrong_abort = λ (h : IsStranger jb drew_second (AbortUpload lake (out (codes "y")) 2)). false_true (h.uploads refl 2 refl) refl in
    search (
      read,
      at 21 refl,
      at 22 refl,
      at 23 refl,
      at 25 refl,
      at 26 refl,
      at 30 refl,
      all_strange_so ja jb drew_first drew_second
          entries refl,
      clean,
      wrong_abort,
      wrong_mark,
    )

-- ---- a check that finds the other job's file

pub found_conflict : conflict.FoundConflict
unfolding digits escape_byte block_of parts_of
found_conflict =
    let at = at_so conflict.ja jb (commits_at 8) (commits_at 7) mine conflict.journal refl refl refl in
    let free : (p : List ℕ) → conflict.told (Page [] false) ≡ Some (ends.Check (Conflict p)) → ⊥ = λ p e. cc in
    search (
      free,
      at 18 refl,
      at 19 refl,
      at 20 refl,
      at 21 refl,
      honours nothing conflict.journal jb refl refl refl,
      all_strange_so
          conflict.ja jb drew_first drew_second conflict.entries refl,
    )
