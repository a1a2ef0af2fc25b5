-- What each entry of a job may be, and what it may change.
use Rattle.job_model.specs.JobScript.{Script}
use Rattle.job_protocol.specs.Scope.{IsZeroRename, SameOutside}
use Rattle.job_spec.specs.Turns.{is_own}
use Rattle.s3_types.specs.Moment.{moment}
use Rattle.s3_types.specs.Store.{Content}
use Rattle.s3_types.specs.declared.journal.Entry.{Entry}
use Rattle.std.specs.Prelude.{List, Some, length, slice_get, true, ℕ, [], ◌+◌, ◌∷◌, ◌≡◌, ◌≤◌}

-- Holds if the job publishes its files without a copy of their bytes, and changes nothing outside its destination.
abbrev pub ZeroRename : Script → Content → List Entry → Type 0
ZeroRename w opening journal = (m : ℕ) (e : Entry) → slice_get journal m ≡ Some e → is_own e.actor ≡ true
    → IsZeroRename w e (moment opening journal m).content (moment opening journal (m + 1)).content

-- Holds if nobody outside the job sends.
abbrev pub AreOwn : List Entry → Type 0
AreOwn [] = Unit {0}
AreOwn (e ∷ es) = (is_own e.actor ≡ true) × AreOwn es

-- Holds if all that is outside the destination stays as in the opening after each entry, when nobody outside the job sends.
abbrev pub OutsideStays : Script → Content → List Entry → Type 0
OutsideStays w opening journal = AreOwn journal → (m : ℕ) → m ≤ length journal → SameOutside w opening (moment opening journal m).content
