-- The reported tasks as a list of truth values, and the busy actors.
use Rattle.job_model.specs.Jobs.{has_task}
use Rattle.job_protocol.specs.Outputs.{first_where}
use Rattle.job_spec.specs.States.{first_not}
use Rattle.job_spec.specs.Turns.{is_busy}
use Rattle.job_states.specs.Stands.{tested}
use Rattle.job_states.specs.inner.Stands.{busy_from, first_false}
use Rattle.job_states.specs.declared.standing.Standing.{Standing}
use Rattle.std.proofs.Common.{Bool, List, Some, ap, append_assoc, arith, cond, false, get_or, inl, inr, length, length-append, map, nat_eq}
use Rattle.std.proofs.Common.{nat_lt, not, refl, replicate, set, slice_get, subst, suc, sym, take, true, unwrap_or, zero, ℕ, [], ◌&&◌, ◌++◌}
use Rattle.std.proofs.Common.{◌+◌, ◌<◌, ◌||◌, ◌∙◌, ◌∷◌, ◌≡◌, ◌≤◌, ◌⊎◌}
use Rattle.std.proofs.Math.Seq.{take-append_seam}
use Rattle.std.proofs.lemmas.Bool.Decides.{nat_tests}
use Rattle.std.proofs.lemmas.List.FromFn.{length-map-range_with_len, length-range_with_len}
use Rattle.std.proofs.lemmas.Option.{slice_get_past}
use Rattle.std.proofs.lemmas.Simd.{splat_is_map}
use Rattle.std.specs.BTreeSet.{insert_key}
use Rattle.std.specs.List.{filter, range_with_len}
use Rattle.std.specs.Ordering.{nat_cmp}

-- ---- tests of tasks

-- Tests that agree give the same list.
pub same_tests : (f g : ℕ → Bool) (n tasks : ℕ) → ((t : ℕ) → f t ≡ g t) → map f (range_with_len n tasks) ≡ map g (range_with_len n tasks)
same_tests f g n tasks h = λ i. map (λ t. h t i) (range_with_len n tasks)

pub length_tested : (tasks : ℕ) (f : ℕ → Bool) → length (tested tasks f) ≡ tasks
length_tested tasks f = length-map-range_with_len f 0 tasks

-- If the task is not among these, none of their values changes.
others_stay : (f : ℕ → Bool) (n tasks t : ℕ) → (t < n) ⊎ (n + tasks ≤ t)
    → map f (range_with_len n tasks) ≡ map (λ q. f q || nat_eq q t) (range_with_len n tasks)
others_stay f n zero t out = refl
others_stay f n (suc tasks) t out =
    grind (arith, nat_tests, others_stay f (n + 1) tasks t (elim out [ inl l ↦ inl (omega arith) | inr l ↦ inr (omega arith) ]))

told_from : (f : ℕ → Bool) (n tasks i t : ℕ) → n + i ≡ t → i < tasks
    → set (map f (range_with_len n tasks)) i true ≡ map (λ q. f q || nat_eq q t) (range_with_len n tasks)
told_from f n zero i t e lt = absurd (omega arith)
told_from f n (suc tasks) zero t e lt =
    grind (arith, nat_tests, others_stay f (n + 1) tasks t (inl (omega arith)))
told_from f n (suc tasks) (suc i) t e lt =
    grind (arith, nat_tests, told_from f (n + 1) tasks i t (omega arith) (omega arith))

pub told_there : (bs : List Bool) (tasks t : ℕ) (f : ℕ → Bool) → bs ≡ tested tasks f → t < length bs
    → set bs t true ≡ tested tasks (λ q. f q || nat_eq q t)
told_there bs tasks t f h g = grind (arith, length_tested, told_from)

pub told_nowhere : (bs : List Bool) (tasks t : ℕ) (f : ℕ → Bool) → bs ≡ tested tasks f → length bs ≤ t
    → bs ≡ tested tasks (λ q. f q || nat_eq q t)
told_nowhere bs tasks t f h g = grind (arith, length_tested, others_stay)

-- All values are false.
all_false : (n tasks : ℕ) (bs : List Bool) → length bs ≡ tasks → ((k : ℕ) → k < length bs → get_or bs k false ≡ false)
    → bs ≡ map (λ t. false) (range_with_len n tasks)
all_false n zero [] e h = refl
all_false n (suc tasks) [] e h = absurd (omega arith)
all_false n zero (b ∷ bs) e h = absurd (omega arith)
all_false n (suc tasks) (b ∷ bs) e h =
    let first : b ≡ false = h zero (omega arith) in
    cc (all_false (n + 1) tasks bs (omega arith) (λ k lt. h (suc k) (omega arith)))

pub forgotten : (bs now : List Bool) (tasks : ℕ) (f : ℕ → Bool) → bs ≡ tested tasks f → length now ≡ length bs
    → ((k : ℕ) → k < length now → get_or now k false ≡ false) → now ≡ tested tasks (λ t. false)
forgotten bs now tasks f is same h = all_false 0 tasks now (same ∙ ap length is ∙ length_tested tasks f) h

-- ---- the lowest task that is not reported

first_same : (f : ℕ → Bool) (n tasks : ℕ) → first_false n (map f (range_with_len n tasks)) ≡ first_not f n tasks
first_same f n zero = refl
first_same f n (suc tasks) = ap (λ o. cond (f n) o (Some n)) (first_same f (n + 1) tasks)

pub missing_is : (bs : List Bool) (tasks : ℕ) (f : ℕ → Bool) → bs ≡ tested tasks f → first_false 0 bs ≡ first_not f 0 tasks
missing_is bs tasks f is = ap (first_false 0) is ∙ first_same f 0 tasks

-- ---- the set of reported tasks

at_test : (f : ℕ → Bool) (n tasks t : ℕ) → unwrap_or (slice_get (map f (range_with_len n tasks)) t) false ≡ (nat_lt t tasks && f (n + t))
at_test f n zero t = grind (arith, nat_tests)
at_test f n (suc tasks) zero = grind (arith, nat_tests)
at_test f n (suc tasks) (suc t) = grind (arith, nat_tests, at_test f (n + 1) tasks t)

pub test_at : (bs : List Bool) (tasks : ℕ) (f : ℕ → Bool) (t : ℕ) → bs ≡ tested tasks f
    → unwrap_or (slice_get bs t) false ≡ (nat_lt t tasks && f t)
test_at bs tasks f t h = grind (arith, at_test)

-- A search that skips the tasks of a set finds the same as the tests.
search_same : (s : List ℕ) (f : ℕ → Bool) (n left tasks : ℕ) → n + left ≡ tasks → ((t : ℕ) → has_task s t ≡ (nat_lt t tasks && f t))
    → first_where (λ t. not (has_task s t)) n left ≡ first_not f n left
search_same s f n zero tasks e h = refl
search_same s f n (suc left) tasks e h =
    let below : nat_lt n tasks ≡ true = grind (arith, nat_tests) in
    let here : has_task s n ≡ f n = h n ∙ ap (λ b. b && f n) below in
    let ih = search_same s f (n + 1) left tasks (omega arith) h in
    grind (arith, here, ih)

pub misses_same : (s : List ℕ) (f : ℕ → Bool) (tasks : ℕ) → ((t : ℕ) → has_task s t ≡ (nat_lt t tasks && f t))
    → first_where (λ t. not (has_task s t)) 0 tasks ≡ first_not f 0 tasks
misses_same s f tasks h = search_same s f 0 tasks tasks (omega arith) h

pub added_task : (s : List ℕ) (k q : ℕ) → has_task (insert_key nat_cmp s k) q ≡ (nat_eq q k || has_task s q)
added_task [] k q = refl
added_task (x ∷ xs) k q = grind (arith, nat_tests, added_task xs k q)

-- ---- busy actors

-- The places of the busy actors in a list after another one.
places_from : {A : Type 0} (before xs : List A) (n : ℕ) (f : A → Standing) → length before ≡ n
    → map (slice_get (before ++ xs)) (busy_from n (map f xs)) ≡ map Some (filter (λ a. is_busy (f a).state.life) xs)
places_from before [] n f e = refl
places_from {A} before (a ∷ xs) n f e =
    let rest = places_from (before ++ a ∷ []) xs (n + 1) f (length-append before (a ∷ []) ∙ omega arith) in
    by (is_busy (f a).state.life) (subst (λ (l : List A). map (slice_get l) (busy_from (n + 1) (map f xs)) ≡ map Some
    (filter (λ x. is_busy (f x).state.life) xs)) (append_assoc before (a ∷ []) xs) rest)
  where
    here : (l : List A) → slice_get (l ++ a ∷ xs) (length l) ≡ Some a
    here [] = refl
    here (x ∷ l) = here l

    by : (b : Bool) → map (slice_get (before ++ a ∷ xs)) (busy_from (n + 1) (map f xs)) ≡ map Some
        (filter (λ x. is_busy (f x).state.life) xs)
        → map (slice_get (before ++ a ∷ xs)) (cond b (n ∷ busy_from (n + 1) (map f xs)) (busy_from (n + 1) (map f xs))) ≡ map Some
        (cond b (a ∷ filter (λ x. is_busy (f x).state.life) xs) (filter (λ x. is_busy (f x).state.life) xs))
    by true h = let first : slice_get (before ++ a ∷ xs) n ≡ Some a = ap (slice_get (before ++ a ∷ xs)) (sym e) ∙ here before in λ i. first
        i ∷ h i
    by false h = h

pub busy_are : {A : Type 0} (xs : List A) (f : A → Standing) (standings : List Standing) → standings ≡ map f xs
    → map (slice_get xs) (busy_from 0 standings) ≡ map Some (filter (λ a. is_busy (f a).state.life) xs)
busy_are xs f standings is = ap (λ l. map (slice_get xs) (busy_from 0 l)) is ∙ places_from [] xs 0 f refl

-- ---- lists as they are made

pub all_same : {A : Type 0} (x : Standing) (n : ℕ) (xs : List A) → length xs ≡ n → replicate n x ≡ map (λ a. x) xs
all_same x n xs e = splat_is_map xs n x e

pub none_reported : (tasks : ℕ) → replicate tasks false ≡ tested tasks (λ t. false)
none_reported tasks = splat_is_map (range_with_len 0 tasks) tasks false (length-range_with_len 0 tasks)

-- The front part of a list is the list before what follows it.
pub whole : {A : Type 0} (n : ℕ) (xs ys : List A) → n ≡ length xs → take n (xs ++ ys) ≡ xs
whole n xs ys e = ap (λ k. take k (xs ++ ys)) e ∙ take-append_seam xs ys

-- ---- a set that grows

-- No task is reported after the end of the list.
pub all_told : (bs : List Bool) (n t : ℕ) → length bs ≤ n
    → (nat_lt t n && unwrap_or (slice_get bs t) false) ≡ unwrap_or (slice_get bs t) false
all_told bs n t le = grind (arith, nat_tests, slice_get_past)

-- One more task, reported or not.
pub grown : (f : ℕ → Bool) (n t : ℕ) (b now before : Bool) → f n ≡ b → now ≡ ((b && nat_eq t n) || before) → before ≡ (nat_lt t n && f t)
    → now ≡ (nat_lt t (n + 1) && f t)
grown f n t b now before e step old = grind (arith, nat_tests)
