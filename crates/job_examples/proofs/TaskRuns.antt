-- Runs in which the last put or a set's put runs out of retries, and runs in which two tasks share a path, a partition has a file, or a
-- task has two attempts.
use Rattle.text_and_lists.proofs.Bools.{not_so}
use Rattle.text_and_lists.proofs.Members.{none_some}
use Rattle.text_and_lists.specs.Parts.{parts_from}
use Rattle.job_examples.proofs.Books.{content_of}
use Rattle.job_examples.proofs.Checks.{visible}
use Rattle.job_examples.proofs.Kept.{always_kept, book_at, files_then, honours, keeps, key_found, object_then, shows_as, upload_then}
use Rattle.job_examples.proofs.MapLists.{map_of}
use Rattle.job_examples.proofs.OneSet.{set_by}
use Rattle.job_examples.proofs.Sights.{Start, book_with, nothing}
use Rattle.job_examples.specs.Jobs.{commits_at, set_key}
use Rattle.job_examples.specs.OneFile.{opening}
use Rattle.job_examples.specs.Runs.{Keeps}
use Rattle.job_model.specs.declared.events.Event.{Event}
use Rattle.job_protocol.specs.Scope.{NothingLeft}
use Rattle.json.specs.Print.{escape_byte}
use Rattle.pending_json.specs.Reading.{set_of}
use Rattle.pending_json.specs.Trees.{set_tree}
use Rattle.s3_types.specs.Blocks.{block_of, parts_of}
use Rattle.s3_types.specs.Moment.{moment}
use Rattle.s3_types.specs.Pages.{begins}
use Rattle.s3_types.specs.declared.fates.Fate.TheVariants.{After}
use Rattle.s3_types.specs.declared.journal.Entry.{Entry}
use Rattle.s3_types.specs.declared.request.Committer.TheVariants.{Magic}
use Rattle.serde_json.specs.Written.{compact_text}
use Rattle.std.proofs.Common.{Bool, List, Ok, codes, not, refl, sym, ℕ, [], ◌∙◌, ◌∷◌, ◌≡◌}
use Rattle.std.specs.Fmt.{digits}
use Rattle.job_examples.specs.LostMark as mark
use Rattle.job_examples.specs.LostSet as lost
use Rattle.job_examples.specs.SharedPath as shared
use Rattle.job_examples.specs.Taken as taken
use Rattle.job_examples.specs.TwoAttempts as two
use Rattle.job_examples.specs.NewDriver as anew
use Rattle.job_examples.proofs.OneSet as one

pub lost_mark : mark.LostMark
unfolding digits escape_byte
lost_mark =
    let kept = always_kept nothing mark.journal mark.script refl (commits_at 4) refl in
    search (one.set_is_read, kept, honours nothing mark.journal mark.script refl refl refl)

set_kept : Keeps lost.script (commits_at 5) opening lost.journal
unfolding digits escape_byte
set_kept = keeps nothing lost.journal lost.script refl (commits_at 5) refl refl refl ((11, After) ∷ (10, After) ∷ []) refl refl

pub lost_set : lost.LostSet
unfolding digits escape_byte block_of parts_of
lost_set =
    let set = object_then nothing lost.journal refl 11 set_key in
    search (set_kept, shows_as nothing lost.journal refl [] refl, set, upload_then nothing lost.journal refl 11 1)

-- ---- two tasks that write the same path

shared_kept : Keeps shared.script (commits_at 6) opening shared.journal
unfolding digits escape_byte
shared_kept = keeps nothing shared.journal shared.script refl (commits_at 6) refl refl refl [] refl refl

pub shared_path : shared.SharedPath
unfolding digits escape_byte block_of parts_of parts_from
shared_path =
    let live = upload_then nothing shared.journal refl 19 in
    search (
      set_by shared.first_set refl,
      set_by shared.second_set refl,
      shared_kept,
      shows_as nothing shared.journal refl [] refl,
      live 1,
      live 2,
    )

-- ---- a partition that already has a file

opening_is : content_of (book_with (codes "out/d=1/a") taken.old_file) ≡ taken.opening
unfolding content_of map_of
opening_is = refl

abbrev start : Start
start = record { book = book_with (codes "out/d=1/a") taken.old_file; content = taken.opening; starts = opening_is }

taken_kept : Keeps taken.script (commits_at 5) taken.opening taken.journal
unfolding digits escape_byte
taken_kept = keeps start taken.journal taken.script refl (commits_at 5) refl refl refl [] refl refl

pub taken_run : taken.Taken
unfolding digits
taken_run =
    let file = files_then start taken.journal refl 0 in
    search (
      taken_kept,
      λ (m : ℕ) (p : List ℕ). shows_as start taken.journal refl (visible start.book.objects) refl m p ∙ sym (file p),
      file
          (codes "d=1/a"),
    )

-- ---- two attempts of one task, and a clean

attempt_is_read : set_of (compact_text (set_tree two.second_set)) ≡ Ok two.second_set
unfolding parts_from
attempt_is_read = set_by two.second_set refl

-- The run with any events.
module _ (events : List Event) (write task commit clean : ℕ) where
  abbrev run : List Entry
  run = two.journal_of write task commit clean

  abbrev is_outside : List ℕ → Bool
  is_outside k = not (begins (codes "out/__magic/job-j1/") k)

  nothing_left : NothingLeft Magic (two.with_events events) (moment opening run 24)
  unfolding digits
  nothing_left = (
    λ id u h. absurd (none_some (upload_then nothing run refl 24 id) h),
    λ k o h. not_so _
        (key_found is_outside (book_at nothing run 24).objects refl k o (sym (object_then nothing run refl 24 k) ∙ h)),
  )

two_kept : Keeps two.script (commits_at 6) opening two.journal
unfolding digits escape_byte
two_kept = keeps nothing two.journal two.script refl (commits_at 6) refl refl refl [] refl refl

replaces : two.Replaces two.script 6 two.the_ends two.journal
unfolding digits escape_byte
replaces =
    let mark = object_then nothing two.journal refl 24 (codes "out/_SUCCESS") in
    search (two_kept, nothing_left two.script.events 4 5 6 7, files_then nothing two.journal refl 24 (codes "p"), mark)

pub two_attempts : two.TwoAttempts
unfolding digits escape_byte block_of parts_of
two_attempts = search (replaces, attempt_is_read)

-- ---- two attempts, where the driver is restarted between them

anew_kept : Keeps anew.script (commits_at 8) opening anew.journal
unfolding digits escape_byte
anew_kept = keeps nothing anew.journal anew.script refl (commits_at 8) refl refl refl [] refl refl

replaces_anew : two.Replaces anew.script 8 anew.the_ends anew.journal
unfolding digits escape_byte
replaces_anew =
    let mark = object_then nothing anew.journal refl 24 (codes "out/_SUCCESS") in
    search (anew_kept, nothing_left anew.script.events 6 7 8 9, files_then nothing anew.journal refl 24 (codes "p"), mark)

pub new_driver : anew.NewDriver
unfolding digits escape_byte block_of parts_of
new_driver = search (replaces_anew, attempt_is_read)

early_kept : Keeps anew.early_script (commits_at 6) opening two.first_entries
unfolding digits escape_byte
early_kept = keeps nothing two.first_entries anew.early_script refl (commits_at 6) refl refl refl [] refl refl

pub forgotten : anew.Forgotten
unfolding digits escape_byte block_of parts_of
forgotten =
    search (early_kept, object_then nothing two.first_entries refl 10 set_key, shows_as nothing two.first_entries refl [] refl)
