-- The claim of a trace, as its lines list it.
use Rattle.judging.specs.Listed.{Listed, last_files, numbered, with_attempt}
use Rattle.soundness.specs.Claims.{file_at}
use Rattle.std.specs.Prelude.{Bool, List, is_some, length, ℕ, [], ◌<◌, ◌≡◌}

-- The identity of a content: the tags of its parts.
abbrev pub Tags : Type 0
Tags = List (List ℕ)

-- The attempts that are listed, and the task of the last one.
pub record Claimed : Type 0 where
  pub listed : Listed Tags
  pub current : ℕ

-- The last attempt that was listed has a file at this path.
abbrev pub last_has : Claimed → List ℕ → Bool
last_has c p = is_some (file_at (last_files (numbered c.current c.listed)) p)

-- The claim with one more attempt, which is then the last one.
abbrev pub with_next : ℕ → ℕ → Claimed → Claimed
with_next t a c = record { listed = with_attempt t a c.listed; current = t }

-- Each task below this number has an attempt.
abbrev pub AllListed : Listed Tags → ℕ → Type 0
AllListed listed tasks = (t : ℕ) → t < tasks → 0 < length (numbered t listed)

-- The task with this number has no attempt, and each one before it has one.
pub record IsFirstMissing (listed : Listed Tags) (t : ℕ) : Type 0 where
  pub missing : numbered t listed ≡ []
  pub before : AllListed listed t
