-- The answer that an audit of a trace must give.
use Rattle.std.specs.Prelude.{ℕ, ◌+◌, ◌≤◌, List, [], ◌∷◌, ◌++◌, Option, Some, None, Ok, Err, IfSome, cond, length, ◌≡◌, ◌⊎◌}
use Rattle.std.specs.List.{All, Any, flat_map}
use Rattle.std.specs.Str.{bytes_eq}
use Rattle.audit_claims.specs.Claims.{Tags}
use Rattle.judging.specs.Judging.{StillExplains}
use Rattle.judging.specs.Listed.{numbered, of_task}
use Rattle.soundness.specs.Claims.{Files}
use Rattle.soundness.specs.Moments.{Sound}
use Rattle.soundness.specs.Paths.{is_visible}
use Rattle.path_keys.specs.Paths.{Path, relative_in}
use Rattle.trace_reader.specs.Reading.{line_of}
use Rattle.trace_reader.specs.declared.fault.TraceFault.{TraceFault}
use Rattle.trace_reader.specs.declared.fault.TraceFault.TheVariants.{OutOfOrder}
use Rattle.trace_reader.specs.declared.line.TraceLine.{TraceLine}
use Rattle.trace_reader.specs.declared.line.TraceLine.TheVariants.{Copy, Delete, Put}
use Rattle.audit_model.specs.Moments.{claim, moment, moments, opening, said_by}
use Rattle.audit_judge.specs.Reasons.{IsFirst}
use Rattle.audit_model.specs.Recorded.{Recorded, after, read_after, stage_of}
use Rattle.audit_judge.specs.declared.reason.Reason.{Reason}

-- By what the lines say, readers were safe at each moment after them.
abbrev pub IsSafe : List (List ℕ) → Recorded → Type 0
IsSafe lines r = Sound (claim r) (opening r) (moments lines None)

-- ---- the paths that a line changed

-- The path as a list, empty if readers see no file at it.
abbrev pub visible_in : Option (List ℕ) → List (List ℕ)
visible_in None = []
visible_in (Some path) = cond (is_visible path) (path ∷ []) []

-- The path of a key below a destination as a list, empty if readers see no file at it.
abbrev pub seen_path : Path → List ℕ → List (List ℕ)
seen_path dest key = visible_in (relative_in dest.key key)

-- The paths of these keys of a bucket that are below a destination and at which readers see files.
abbrev pub seen_paths : Path → (bucket : List ℕ) → (keys : List (List ℕ)) → List (List ℕ)
seen_paths dest bucket keys = cond (bytes_eq bucket dest.bucket) (flat_map (seen_path dest) keys) []

-- The paths that a line changed.
abbrev pub changed_paths : Path → TraceLine → List (List ℕ)
changed_paths dest (Put bucket key tags) = seen_paths dest bucket (key ∷ [])
changed_paths dest (Copy bucket source key) = seen_paths dest bucket (key ∷ [])
changed_paths dest (Delete bucket keys) = seen_paths dest bucket keys
changed_paths dest _ = []

-- ---- the answers

-- The lines have no fault, and readers were safe after each of them.
pub record IsSound (lines : List (List ℕ)) (r : Recorded) : Type 0 where
  pub said : said_by lines None ≡ Ok (Some r)
  pub safe : IsSafe lines r

-- Readers were safe up to the line before this one but not with it, for this reason.
pub record IsUnsound (lines : List (List ℕ)) (number : ℕ) (reason : Reason) : Type 0 where
  -- The lines before it, its own bytes, and the lines after it.
  pub before : List (List ℕ)
  pub bytes : List ℕ
  pub behind : List (List ℕ)
  pub lines_are : lines ≡ before ++ bytes ∷ behind
  pub number_is : number ≡ length before + 1
  -- Readers were safe before.
  pub said : Recorded
  pub sound : IsSound before said
  -- The line has no fault.
  pub line : TraceLine
  pub read : line_of (stage_of (Some said)) bytes ≡ Ok line
  pub now : Recorded
  pub added : after (Some said) line ≡ Ok now
  -- This is the first reason that holds.
  pub first : IsFirst (claim said) (opening said) (moments before None) (moment now) (changed_paths said.dest line) reason

-- The line with this number is the first with a fault, and readers were safe up to the line before it. A trace without a line is out of
-- order.
pub record IsFaulty (lines : List (List ℕ)) (number : ℕ) (fault : TraceFault) : Type 0 where
  pub before : List (List ℕ)
  pub said : Option Recorded
  pub no_fault : said_by before None ≡ Ok said
  pub safe : IfSome said (IsSafe before)
  pub faulty : (lines ≡ [] × before ≡ [] × number ≡ 0 × fault ≡ OutOfOrder)
      ⊎ ((bytes : List ℕ) × (behind : List (List ℕ)) × lines ≡ before ++ bytes ∷ behind × number ≡ length before + 1
      × read_after said bytes ≡ Err fault)

-- ---- the attempts that can be a job's choice

-- The attempt, with its files, explains what readers saw of its task at each moment.
abbrev pub ExplainsAll : (lines : List (List ℕ)) → Recorded → (task : ℕ) → ℕ × Files Tags → Type 0
ExplainsAll lines r task a = StillExplains (claim r) (opening r) (moments lines None) (of_task task r.claimed.listed) a.1

-- The least number of an attempt of this task that explains what readers saw at each moment.
pub record IsLeast (lines : List (List ℕ)) (r : Recorded) (task attempt : ℕ) : Type 0 where
  pub explains : Any (λ a. (a.0 ≡ attempt) × ExplainsAll lines r task a) (numbered task r.claimed.listed)
  pub least : All (λ a. ExplainsAll lines r task a → attempt ≤ a.0) (numbered task r.claimed.listed)
