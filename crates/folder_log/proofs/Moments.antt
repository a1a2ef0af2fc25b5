-- How a run of calls goes on.
use Rattle.folder_log.specs.Disk.{Elapses, File}
use Rattle.folder_log.specs.inner.Disk.{FewMore, more}
use Rattle.devices.specs.Logged.{LeavesOnly}
use Rattle.std.proofs.Common.{ap, arith, inl, ℕ, ◌+◌, ◌∙◌, ◌≡◌, ◌≤◌}

-- m more calls and then n more are m + n more.
pub more_more : (m n c : ℕ) → more n (more m c) ≡ more (m + n) c
more_more m n c = omega arith

pub few_more : (m most all c d e : ℕ) → d ≡ more m c → m + most ≤ all → FewMore most d e → FewMore all c e
few_more m most all c d e is le few = (
  m + few.0,
  omega (arith, few.1),
  omega (arith, few.2, le),
  few.3 ∙ ap (more few.0) is ∙ more_more m
      few.0 c,
)

pub fewer : (most all c d : ℕ) → most ≤ all → FewMore most c d → FewMore all c d
fewer most all c d le few = (few.0, few.1, omega (arith, few.2, le), few.3)

module _ {D : Type 0} (moment : D → ℕ) (left_since : D → ℕ → File → Type 0) where
  -- Before the first call.
  pub started : (old : D) (P : File → Type 0) → ((c : File) → left_since old (moment old) c → P c) → LeavesOnly moment left_since old old P
  started old P here = record { later = omega arith; each = here; before = λ t c le left. inl left }

  -- After one call more, if a crash then leaves what has P.
  pub goes_on : (old mid new : D) (P may_leave : File → Type 0) → LeavesOnly moment left_since old mid P
      → Elapses (moment mid) (moment new) (left_since mid) (left_since new) may_leave
      → ((c : File) → may_leave c → P c) → LeavesOnly moment left_since old new P
  goes_on old mid new P may_leave h g e = grind arith

  -- One run after another.
  pub then_on : (old mid new : D) (P Q R : File → Type 0) → LeavesOnly moment left_since old mid P → LeavesOnly moment left_since mid new Q
      → ((c : File) → P c → R c) → ((c : File) → Q c → R c) → LeavesOnly moment left_since old new R
  then_on old mid new P Q R h g e f = grind arith

  -- If P implies R, what leaves only P leaves only R.
  pub widened : (old new : D) (P R : File → Type 0) → LeavesOnly moment left_since old new P → ((c : File) → P c → R c)
      → LeavesOnly moment left_since old new R
  widened old new P R h g = grind arith
