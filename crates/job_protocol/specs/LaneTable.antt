-- The invariant of the table of lanes, in terms of numbers.
use Rattle.job_model.specs.JobScript.{Script}
use Rattle.job_protocol.specs.JobCommits.{Commit, Completing, Sets, all_commits, commit_tells}
use Rattle.job_protocol.specs.Lanes.{Turn, completion, nth}
use Rattle.retries.specs.Same.{same_request}
use Rattle.s3_types.specs.declared.journal.Entry.{Entry}
use Rattle.std.specs.Prelude.{List, false, length, suc, true, zero, ℕ, [], ◌+◌, ◌<◌, ◌∷◌, ◌≡◌, ◌≤◌, ◌⊎◌}

-- Holds if x is a member of the list.
abbrev pub In : {X : Type 0} → X → List X → Type 0
In x [] = ⊥
In x (y ∷ ys) = (y ≡ x) ⊎ In x ys

-- The number of the upload that is k places after upload a in a's lane.
abbrev pub ahead : ℕ → ℕ → ℕ → ℕ
ahead lanes a zero = a
ahead lanes a (suc k) = ahead lanes a k + lanes

-- Holds if upload n is upload a or a later one in a's lane.
abbrev pub After : ℕ → ℕ → ℕ → Type 0
After lanes a n = (k : ℕ) × (ahead lanes a k ≡ n)

-- Holds if no upload is at or after two of these turns.
abbrev pub Apart : ℕ → List Turn → Type 0
Apart lanes [] = Unit {0}
Apart lanes (x ∷ xs) = ((y : Turn) (n : ℕ) → In y xs → After lanes x.number n → After lanes y.number n → ⊥) × Apart lanes xs

-- The invariant of the turns of the lanes that have uploads to complete, and of the numbers of the completed uploads.
pub record Table (lanes retries total : ℕ) (waiting : List Turn) (finished : List ℕ) : Type 0 where
  pub within : (x : Turn) → In x waiting → x.number < total
  pub unsent : (x : Turn) → In x waiting → x.missed ≡ 0 → x.lost ≡ false
  pub few : (x : Turn) → In x waiting → x.missed ≤ retries
  pub apart : Apart lanes waiting
  -- The upload of a turn and the later ones of its lane are not completed.
  pub undone : (x : Turn) (n : ℕ) → In x waiting → In n finished → After lanes x.number n → ⊥
  -- Each upload is completed, or is at or after a turn.
  pub cover : (n : ℕ) → n < total → In n finished ⊎ ((x : Turn) × In x waiting × After lanes x.number n)
  pub done_within : (n : ℕ) → In n finished → n < total

-- Holds if a commit that completes has such a table.
abbrev pub Tabled : Script → Commit → Type 0
Tabled w (Completing sets x xs finished) = Table w.lanes w.retries (length (all_commits sets)) (x ∷ xs) finished
Tabled w _ = Unit {0}

-- Holds if the completions of different uploads are different requests.
abbrev pub RequestsApart : Sets → Type 0
RequestsApart sets = (m n : ℕ) → m < length (all_commits sets) → n < length (all_commits sets)
    → same_request (completion (nth (all_commits sets) m)) (completion (nth (all_commits sets) n)) ≡ true → m ≡ n

-- Holds if the completions of a commit's different uploads are different requests, while it completes.
abbrev pub Sound : Commit → Type 0
Sound (Completing sets x xs finished) = RequestsApart sets
Sound _ = Unit {0}

-- Holds if this is so at each of these sends.
abbrev pub AllSound : Script → Commit → List Entry → Type 0
AllSound w c [] = Unit {0}
AllSound w c (e ∷ es) = Sound c × AllSound w (commit_tells w c e.outcome) es
