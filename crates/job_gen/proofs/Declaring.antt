-- The attempts of a made job.
use Rattle.job_gen.proofs.Ranges.{flat_map_next}
use Rattle.job_gen.specs.Made.{attempt_of, attempts_of, is_twice}
use Rattle.job_model.specs.Attempts.{Declared, Who, declares, same_name}
use Rattle.job_model.specs.Files.{File}
use Rattle.job_model.specs.Legal.{AreAttempts, AreFiles}
use Rattle.std.proofs.Common.{Bool, List, Some, append_assoc, arith, cond, false, inl, inr, is_some, refl, subst, suc, sym, true, zero, ℕ}
use Rattle.std.proofs.Common.{[], ◌++◌, ◌+◌, ◌<◌, ◌∷◌, ◌≡◌, ◌≤◌}
use Rattle.std.proofs.lemmas.Bool.{cases_lt, eq-eqb}
use Rattle.std.specs.List.{flat_map, range_with_len}
use Rattle.std.specs.Map.{lookup}

-- ---- which attempts are declared

-- An attempt that is declared after others.
pub later : (xs ys : List Declared) (m : Who) → declares ys m ≡ true → declares (xs ++ ys) m ≡ true
later [] ys m h = h
later (x ∷ xs) ys m h = elim (same_name m x.0) as (λ b. is_some (cond b (Some x.1) (lookup (same_name m) (xs ++ ys))) ≡ true)
    [ true ↦ refl | false ↦ later xs ys m h ]

-- An attempt that is declared neither before nor after.
pub neither : (xs ys : List Declared) (m : Who) → declares xs m ≡ false → declares ys m ≡ false → declares (xs ++ ys) m ≡ false
neither [] ys m h k = k
neither (x ∷ xs) ys m h k = elim (same_name m x.0) as (λ b. is_some (cond b (Some x.1) (lookup (same_name m) xs)) ≡ false → is_some
    (cond b (Some x.1) (lookup (same_name m) (xs ++ ys))) ≡ false) [
      | true ↦ λ e. e
      | false ↦ λ e. neither xs ys m e k
    ] h

same_own : (t k : ℕ) → same_name (attempt_of t k) (attempt_of t k) ≡ true
same_own t k = rw (eq-eqb t t refl, eq-eqb k k refl) refl

second_new : (t : ℕ) → same_name (attempt_of t 1) (attempt_of t 0) ≡ false
second_new t = rw (eq-eqb t t refl) refl

-- The attempts of a task: two or one.
abbrev pub one_or_two : Bool → List File → ℕ → List Declared
one_or_two b fs a = cond b ((attempt_of a 0, fs) ∷ (attempt_of a 1, fs) ∷ []) ((attempt_of a 0, fs) ∷ [])

not_of : (fs : List File) (t a k : ℕ) → (t ≡ a → ⊥) → declares (attempts_of fs a) (attempt_of t k) ≡ false
not_of fs t a k h = grind arith

-- The attempts of the n tasks from a on, by the files of each task.
abbrev pub attempts_from : (ℕ → List File) → ℕ → ℕ → List Declared
attempts_from g a n = flat_map (λ t. attempts_of (g t) t) (range_with_len a n)

-- An attempt of a later task is not declared yet.
pub new_task : (g : ℕ → List File) (a n t k : ℕ) → a + n ≤ t → declares (attempts_from g a n) (attempt_of t k) ≡ false
new_task g a zero t k h = refl
new_task g a (suc n) t k h = neither (attempts_of (g a) a) (attempts_from g (a + 1) n) (attempt_of t k)
    (not_of (g a) t a k (λ e. omega arith)) (new_task g (a + 1) n t k (omega arith))

-- The first attempt of each task is declared, and so is the second one of each task that has two.
pub has_first : (fs : List File) (rest : List Declared) (a : ℕ) → declares (attempts_of fs a ++ rest) (attempt_of a 0) ≡ true
has_first fs rest a = elim (is_twice a) as (λ b. declares (one_or_two b fs a ++ rest) (attempt_of a 0) ≡ true)
    [ true ↦ rw (same_own a 0) refl | false ↦ rw (same_own a 0) refl ]

pub has_second : (fs : List File) (rest : List Declared) (a : ℕ) → is_twice a ≡ true
    → declares (attempts_of fs a ++ rest) (attempt_of a 1) ≡ true
has_second fs rest a h = rw (h, second_new a, same_own a 1) refl

pub known : (g : ℕ → List File) (k a n t : ℕ) → ((rest : List Declared) → declares (attempts_of (g t) t ++ rest) (attempt_of t k) ≡ true)
    → a ≤ t → t < a + n → declares (attempts_from g a n) (attempt_of t k) ≡ true
known g k a zero t has h l = absurd (omega arith)
known g k a (suc n) t has h l = elim (cases_lt a t) [
  | inl less ↦ later (attempts_of (g a) a) (attempts_from g (a + 1) n) (attempt_of t k)
      (known g k (a + 1) n t has (omega arith) (omega arith))
  | inr le ↦ let e : t ≡ a = omega arith in subst (λ x. declares (attempts_of (g x) x ++ attempts_from g (a + 1) n) (attempt_of t k) ≡ true)
      e (has (attempts_from g (a + 1) n))
]

-- ---- a script may declare them

behind : (tasks : ℕ) (before rest : List Declared) (fs : List File) (a : ℕ) (b : Bool) → a < tasks
    → declares before (attempt_of a 0) ≡ false → declares before (attempt_of a 1) ≡ false → AreFiles [] fs
    → AreAttempts tasks (before ++ one_or_two b fs a) rest → AreAttempts tasks before (one_or_two b fs a ++ rest)
behind tasks before rest fs a true less first second fit h = (
  less,
  omega arith,
  first,
  fit,
  (
    less,
    omega arith,
    neither before ((attempt_of a 0, fs) ∷ []) (attempt_of a 1) second (rw (second_new a) refl),
    fit,
    subst (λ (l : List Declared). AreAttempts tasks l rest) (sym
        (append_assoc before ((attempt_of a 0, fs) ∷ []) ((attempt_of a 1, fs) ∷ []))) h,
  ),
)
behind tasks before rest fs a false less first second fit h = (less, omega arith, first, fit, h)

pub attempts_fit : (g : ℕ → List File) (tasks a n : ℕ) → ((t : ℕ) → t < tasks → AreFiles [] (g t)) → a + n ≤ tasks
    → AreAttempts tasks (attempts_from g 0 a) (attempts_from g a n)
attempts_fit g tasks a zero fit h = tt
attempts_fit g tasks a (suc n) fit h =
    behind tasks (attempts_from g 0 a) (attempts_from g (a + 1) n) (g a) a (is_twice a) (omega arith) (new_task g 0 a a 0 (omega arith))
    (new_task g 0 a a 1 (omega arith)) (fit a (omega arith))
    (subst (λ (l : List Declared). AreAttempts tasks l (attempts_from g (a + 1) n)) (flat_map_next (λ t. attempts_of (g t) t) a)
    (attempts_fit g tasks (a + 1) n fit (omega arith)))

-- The first attempt does not declare the second one.
pub second_free : (before : List Declared) (fs : List File) (t : ℕ) → declares before (attempt_of t 1) ≡ false
    → declares (before ++ (attempt_of t 0, fs) ∷ []) (attempt_of t 1) ≡ false
second_free before fs t h = neither before ((attempt_of t 0, fs) ∷ []) (attempt_of t 1) h (rw (second_new t) refl)
