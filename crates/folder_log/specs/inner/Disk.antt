-- Definitions beside those of `Disk` that no public contract cites.
use Rattle.folder_log.specs.Disk.{File}
use Rattle.std.specs.Prelude.{None, Option, Some, min, ℕ, ◌+◌, ◌-◌, ◌^◌, ◌≡◌, ◌≤◌}

-- If the disk shows nothing, it does not show this file.
pub untold : (c : File) → (let seen : Option File = None in seen ≡ Some c) → ⊥
untold c e = cc

-- The count of calls after n more, but at most 2^64 - 1.
abbrev pub more : ℕ → ℕ → ℕ
more n count = min (count + n) (2 ^ 64 - 1)

-- At least one and at most `most` more calls were made.
abbrev pub FewMore : (most before after : ℕ) → Type 0
FewMore most before after = (n : ℕ) × (1 ≤ n) × (n ≤ most) × (after ≡ more n before)
