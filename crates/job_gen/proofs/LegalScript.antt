-- A made script keeps the bounds of a script.
use Rattle.text_and_lists.proofs.Members.{none_some}
use Rattle.text_and_lists.specs.Parts.{parts_from}
use Rattle.job_gen.proofs.Declaring.{attempts_fit, attempts_from, has_first, has_second, known, one_or_two}
use Rattle.job_gen.proofs.Happening.{events_count, events_fit}
use Rattle.job_gen.proofs.PartFiles.{files_bytes, files_fit}
use Rattle.job_gen.proofs.PartPaths.{text_fits}
use Rattle.job_gen.specs.Made.{attempt_of, attempts_of, is_twice, made_attempts, made_dest, made_script, part_files}
use Rattle.job_model.specs.Attempts.{Declared}
use Rattle.job_model.specs.Files.{File}
use Rattle.job_model.specs.Legal.{AreFates, IsDest, IsLegal, bytes_in, bytes_of, files_in}
use Rattle.std.proofs.Common.{List, ap, arith, false, length, length-append, refl, suc, true, zero, ℕ, [], ◌%◌, ◌*◌, ◌++◌, ◌+◌, ◌∷◌, ◌≡◌}
use Rattle.std.proofs.Common.{◌≤◌}
use Rattle.std.specs.List.{AllByRecursion}
use Rattle.std.specs.Ordering.{nat_cmp}
use Rattle.std.specs.Prelude.{codes}
use Rattle.std.specs.FinMap as fin
use Rattle.job_gen.proofs.PartFiles as made

-- ---- the numbers of its attempts, files and bytes

-- A task has one attempt; every fifth task has two.
two_or_one : (fs : List File) (a m : ℕ) → 5 * length (attempts_of fs a) + (a + 1) % 5 ≡ 6 + a % 5
two_or_one fs a m = grind arith

-- Every five tasks have six attempts.
attempts_count : (g : ℕ → List File) (a n : ℕ) → 5 * length (attempts_from g a n) + (a + n) % 5 ≡ 6 * n + a % 5
attempts_count g a zero = let e : a + 0 ≡ a = omega arith in ap (λ x. 0 + x % 5) e
attempts_count g a (suc n) =
    let here = two_or_one (g a) a n in
    let rest = attempts_count g (a + 1) n in
    let both = length-append (attempts_of (g a) a) (attempts_from g (a + 1) n) in
    let same : a + suc n ≡ a + 1 + n = omega arith in
    let left : (a + suc n) % 5 ≡ (a + 1 + n) % 5 = ap (λ x. x % 5) same in
    omega (arith, here, rest, both, left)

-- Holds if the attempt has at most fifty files, of at most 4,095 bytes each.
abbrev pub IsFew : Declared → Type 0
IsFew d = (length d.1 ≤ 50) × (bytes_of d.1 ≤ 204750)

all_few : (g : ℕ → List File) (a n : ℕ) → ((t k : ℕ) → IsFew (attempt_of t k, g t)) → AllByRecursion IsFew (attempts_from g a n)
all_few g a zero h = tt
all_few g a (suc n) h = elim (is_twice a) as (λ b. AllByRecursion IsFew (one_or_two b (g a) a ++ attempts_from g (a + 1) n))
    [ true ↦ (h a 0, (h a 1, all_few g (a + 1) n h)) | false ↦ (h a 0, all_few g (a + 1) n h) ]

few_sums : (xs : List Declared) → AllByRecursion IsFew xs → (files_in xs ≤ 50 * length xs) × (bytes_in xs ≤ 204750 * length xs)
few_sums [] h = (omega arith, omega arith)
few_sums (x ∷ xs) h =
    let files = h.0.0 in
    let bytes = h.0.1 in
    let rest = few_sums xs h.1 in
    let more = rest.0 in
    let longer = rest.1 in
    (omega (arith, files, more), omega (arith, bytes, longer))

-- ---- its bounds

dest_fits : IsDest made_dest
unfolding parts_from
dest_fits = record { bucket = refl; key = refl; below = refl; word = (text_fits (codes "gen") refl, refl) }

no_fates : AreFates fin.empty
no_fates n fate h = absurd (none_some (fin.get-empty nat_cmp n) h)

pub made_legal : (seed tasks files : ℕ) → tasks ≤ 200 → files ≤ 50 → IsLegal (made_script seed tasks files)
unfolding made_script made_attempts
made_legal seed tasks files few short =
    let g = part_files seed files in
    let count = attempts_count g 0 tasks in
    let many : length (attempts_from g 0 tasks) ≤ 240 = omega (arith, count) in
    let sums = few_sums (attempts_from g 0 tasks) (all_few g 0 tasks (λ t k.
    (omega (arith, made.files_count seed files t), omega (arith, files_bytes seed files t)))) in
    let some = sums.0 in
    let long = sums.1 in
    record {
      job = refl;
      dest = dest_fits;
      magic = (refl, refl);
      tasks = omega arith;
      retries = omega arith;
      block = omega arith;
      one_lane = omega arith;
      few_lanes = omega arith;
      stamp = tt;
      fates = no_fates;
      attempts = attempts_fit g tasks 0 tasks (λ t less. files_fit seed files t (omega arith) (omega arith)) (omega arith);
      few_attempts = omega (arith, many);
      few_files = omega (arith, some, many);
      few_bytes = omega (arith, long, many);
      events = events_fit (attempts_from g 0 tasks) seed tasks (λ t less. known g 0 0 tasks t (λ rest. has_first (g t) rest t) (omega arith)
          (omega arith)) (λ t less two. known g 1 0 tasks t (λ rest. has_second (g t) rest t two) (omega arith) (omega arith));
      few_events = let e = events_count seed tasks in omega (arith, e);
    }
