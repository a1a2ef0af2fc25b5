-- What readers of a job's destination may rely on, after each entry of a run.
use Rattle.job_model.specs.JobScript.{Script}
use Rattle.job_protocol.specs.Conflicts.{keeps_of}
use Rattle.job_protocol.specs.Outputs.{Picks, is_clash, is_decided, is_picked, wanted_at}
use Rattle.job_protocol.specs.Records.{mark_text}
use Rattle.job_protocol.specs.Seen.{Seen, Times, is_marked, seen}
use Rattle.job_protocol.specs.View.{Same, Shown, object_at, view}
use Rattle.magic_paths.specs.Layout.{success_key}
use Rattle.s3_types.specs.Store.{Content}
use Rattle.s3_types.specs.declared.journal.Entry.{Entry}
use Rattle.s3_types.specs.declared.object.Object.{Object}
use Rattle.std.specs.Prelude.{List, None, Option, Some, cond, false, length, true, ℕ, ◌≡◌, ◌≤◌, ◌⊎◌}

-- The first bytes if there are any, otherwise the second.
abbrev pub or_else : Option (List ℕ) → Option (List ℕ) → Option (List ℕ)
or_else (Some b) o = Some b
or_else None o = o

-- The view after a finished job: the opening files that the mode keeps, overlaid by those of the chosen attempts.
abbrev pub done : Script → Picks → Shown → Shown
done w picks opening p = or_else (wanted_at w picks p) (cond (keeps_of w picks p) (opening p) None)

-- The views that readers may see during the commit. They see the opening files until each task has a chosen attempt and no two of these
-- write the same path. From then on they see only opening files and whole files of the chosen attempts.
pub record Between (w : Script) (opening : Shown) (picks : Picks) (v : Shown) : Type 0 where
  -- While some task has no chosen attempt, or two of them write the same path, readers see exactly the opening files.
  pub untouched : is_decided w picks ≡ false → Same v opening
  -- From then on they see only opening files and whole files of the chosen attempts.
  pub only : is_decided w picks ≡ true → (p b : List ℕ) → v p ≡ Some b → (opening p ≡ Some b) ⊎ (wanted_at w picks p ≡ Some b)
  -- They see each opening file that the mode keeps, unless a chosen attempt writes its path.
  pub kept : is_decided w picks ≡ true → (p b : List ℕ) → opening p ≡ Some b → keeps_of w picks p ≡ true → wanted_at w picks p ≡ None
      → v p ≡ Some b

-- Holds if the job is complete: readers see exactly the kept files and all files of the chosen attempts, and `_SUCCESS` lists these.
pub record Whole (w : Script) (opening : Shown) (picks : Picks) (c : Content) : Type 0 where
  -- Each task has a chosen attempt.
  pub picked : is_picked w picks ≡ true
  -- No two chosen attempts write the same path.
  pub apart : is_clash w picks ≡ false
  -- Readers see exactly the kept files and all files of the chosen attempts.
  pub files : Same (view w.dest c) (done w picks opening)
  -- The text of `_SUCCESS` is the one for these attempts.
  pub mark : (o : Object) → object_at c w.dest.bucket (success_key w.dest.key) ≡ Some o → o.bytes ≡ mark_text w picks

-- What holds after an entry, by what the journal shows.
pub record Kept (w : Script) (opening : Content) (s : Seen) : Type 0 where
  -- Until the job's commit begins, readers see the opening files.
  pub before : s.begun ≡ false → Same (view w.dest s.scene.content) (view w.dest opening)
  -- Then they see a view between these and the files of one committed attempt per task.
  pub between : s.begun ≡ true → Between w (view w.dest opening) s.picks (view w.dest s.scene.content)
  -- If `_SUCCESS` of this run exists, the job is complete.
  pub whole : is_marked w s ≡ true → Whole w (view w.dest opening) s.picks s.scene.content

-- The promise: after each entry of the journal over this content readers see what they may rely on. `k` has the events of the job's commit
-- and its first abort or clean.
abbrev pub Always : Script → Times → Content → List Entry → Type 0
Always w k opening journal = (m : ℕ) → m ≤ length journal → Kept w opening (seen w k opening journal m)
