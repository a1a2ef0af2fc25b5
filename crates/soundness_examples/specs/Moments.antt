-- Moments of runs written out: sound ones for each way to keep opening files, and unsound ones for each reason. Numbers stand for contents.
use Rattle.std.specs.Prelude.{ℕ, List, [], ◌∷◌, ◌++◌, Bool, true, false, codes}
use Rattle.soundness.specs.Claims.{Claim, Files, file_at}
use Rattle.soundness.specs.Moments.{Moment, Sound}
use Rattle.soundness.specs.declared.keeps.Keeps.{Keeps}
use Rattle.soundness.specs.declared.keeps.Keeps.TheVariants.{Everything, Nothing, Partitions}
use Rattle.soundness.specs.declared.marker.Marker.{Marker}
use Rattle.soundness.specs.declared.marker.Marker.TheVariants.{Absent, New, Old}

-- Two files exist in the opening: `a/old` with content 1, and `b/old` with content 2.
abbrev pub opening : Files ℕ
opening = (codes "a/old", 1) ∷ (codes "b/old", 2) ∷ []

-- The file `a/new` with this content.
abbrev pub written : ℕ → Files ℕ
written content = (codes "a/new", content) ∷ []

-- A job of one task with two attempts, which write `a/new` with the contents 3 and 4.
abbrev pub two_attempts : Keeps → Claim ℕ
two_attempts keeps = record { keeps = keeps; tasks = (written 3 ∷ written 4 ∷ []) ∷ [] }

-- A job of one task that has no attempt.
abbrev pub no_attempt : Claim ℕ
no_attempt = record { keeps = Everything; tasks = [] ∷ [] }

-- A moment at which readers see these files.
abbrev pub moment : Bool → Marker → Files ℕ → Moment ℕ
moment begun marker files = record { begun = begun; marker = marker; shown = file_at files }

-- The moments of a run over that opening. Readers see the opening files before the commit begins.
abbrev pub run : List (Moment ℕ) → List (Moment ℕ)
run moments = moment false Absent opening ∷ moments

-- A run with these moments is sound for this job.
abbrev pub IsSound : Claim ℕ → List (Moment ℕ) → Type 0
IsSound claim moments = Sound claim (file_at opening) (run moments)

-- ---- sound runs

-- Runs that end with a success marker and all of the job's files are sound, for each way to keep opening files.
pub record SoundRuns : Type 0 where
  -- All opening files stay.
  pub everything : IsSound (two_attempts Everything) (moment true Absent opening ∷ moment true Absent (opening ++ written 3)
      ∷ moment true New (opening ++ written 3) ∷ [])
  -- `a/old` goes, since each attempt writes into `a`, and `b/old` stays.
  pub partitions : IsSound (two_attempts Partitions) (moment true Absent ((codes "b/old", 2) ∷ written 4)
      ∷ moment true New ((codes "b/old", 2) ∷ written 4) ∷ [])
  -- No opening file stays.
  pub nothing : IsSound (two_attempts Nothing) (moment true Absent [] ∷ moment true New (written 3) ∷ [])
  -- Readers see the opening files alone while an old marker exists, and the job ends without one.
  pub unmarked : IsSound (two_attempts Everything) (moment true Old opening ∷ moment true Absent (opening ++ written 3) ∷ [])

-- ---- unsound runs

-- Each of these runs is unsound, for the reason in its name.
pub record UnsoundRuns : Type 0 where
  -- Readers see a new file before the commit begins.
  pub early : IsSound (two_attempts Everything) (moment false Absent (opening ++ written 3) ∷ []) → ⊥
  -- A new marker exists, and the task has no attempt.
  pub missing : IsSound no_attempt (moment true New opening ∷ []) → ⊥
  -- Readers see a file that no attempt writes.
  pub foreign : IsSound (two_attempts Everything) (moment true Absent ((codes "c", 5) ∷ opening) ∷ []) → ⊥
  -- An opening file that the job keeps is gone, though at the end it is back.
  pub lost : IsSound (two_attempts Everything) (moment true Absent ((codes "b/old", 2) ∷ []) ∷ moment true New (opening ++ written 3)
      ∷ []) → ⊥
  -- Readers see the file of one attempt, and later that of the other: no one choice explains both moments.
  pub torn : IsSound (two_attempts Everything) (moment true Absent (opening ++ written 3) ∷ moment true Absent (opening ++ written 4)
      ∷ []) → ⊥
  -- An old marker exists while readers see a new file.
  pub stale : IsSound (two_attempts Everything) (moment true Old (opening ++ written 3) ∷ []) → ⊥
  -- A new marker exists, and the job's file is not there.
  pub half : IsSound (two_attempts Everything) (moment true New opening ∷ []) → ⊥
  -- A new marker exists, and an opening file that the job replaces is still there.
  pub left : IsSound (two_attempts Nothing) (moment true New ((codes "b/old", 2) ∷ written 3) ∷ []) → ⊥
