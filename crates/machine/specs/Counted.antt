-- How sends change a store's counts, beside the journal into which they are written.
use Rattle.s3_types.specs.Moment.{is_unanswered}
use Rattle.s3_types.specs.declared.fates.Fate.{Fate}
use Rattle.s3_types.specs.declared.journal.Entry.{Entry}
use Rattle.std.specs.Prelude.{List, Option, false, length, ℕ, [], ◌++◌, ◌+◌, ◌∷◌, ◌≡◌, ◌≤◌}

-- Each of these sends got an answer.
abbrev pub AreAnswered : List Entry → Type 0
AreAnswered [] = Unit {0}
AreAnswered (e ∷ es) = (is_unanswered e.outcome ≡ false) × AreAnswered es

-- A journal went from the entries `old` to `new`. Meanwhile the store's count of requests went from `first` to `requests`, its count of
-- losses from `before` to `now`, and the outcomes that are known in advance from `told` to `tells`.
pub record Counted (old new : List Entry) (first requests before now : ℕ) (told tells : ℕ → Option Fate) : Type 0 where
  -- One request was made for each appended entry, and no other.
  pub made : requests + length old ≡ first + length new
  -- The outcomes that are known in advance stay the same.
  pub foretold : (n : ℕ) → tells n ≡ told n
  -- Losses never fall.
  pub losses : before ≤ now
  -- Losses do not change if each appended entry was answered.
  pub kept : (part : List Entry) → new ≡ old ++ part → AreAnswered part → now ≡ before
