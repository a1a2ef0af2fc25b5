-- The events of a made job.
use Rattle.text_and_lists.proofs.Members.{true_or_false}
use Rattle.job_gen.specs.Made.{attempt_of, below, committer_of, is_twice, made_events, mix_by, second_writes, start_commit, start_write}
use Rattle.job_model.specs.Attempts.{Declared, declares, is_known}
use Rattle.job_model.specs.Legal.{AreEvents, IsEvent}
use Rattle.job_model.specs.declared.events.Event.{Event}
use Rattle.job_model.specs.declared.events.Event.TheVariants.{Do, Mix}
use Rattle.job_model.specs.declared.events.Op.TheVariants.{Clean, Commit, Setup}
use Rattle.s3_types.specs.declared.request.Actor.TheVariants.{Driver}
use Rattle.std.proofs.Common.{List, append_assoc, arith, cond, false, filter, inl, inr, length, length-append, map, refl, suc, true, zero}
use Rattle.std.proofs.Common.{ℕ, [], ◌%◌, ◌*◌, ◌++◌, ◌+◌, ◌<◌, ◌^◌, ◌∙◌, ◌∷◌, ◌≡◌, ◌≤◌}
use Rattle.std.proofs.lemmas.List.FromFn.{length-map-range_with_len}
use Rattle.std.specs.List.{flat_map, range_with_len}

-- ---- a script may have these events

both_fit : (attempts : List Declared) (xs ys : List Event) → AreEvents attempts xs → AreEvents attempts ys → AreEvents attempts (xs ++ ys)
both_fit attempts [] ys h k = k
both_fit attempts (x ∷ xs) ys h k = (h.0, both_fit attempts xs ys h.1 k)

mapped_fit : (attempts : List Declared) (f : ℕ → Event) (a n : ℕ) → ((t : ℕ) → t < a + n → IsEvent attempts (f t))
    → AreEvents attempts (map f (range_with_len a n))
mapped_fit attempts f a zero h = tt
mapped_fit attempts f a (suc n) h = (h a (omega arith), mapped_fit attempts f (a + 1) n (λ t less. h t (omega arith)))

seconds_fit : (attempts : List Declared) (a n : ℕ) → ((t : ℕ) → t < a + n → is_twice t ≡ true → AreEvents attempts (second_writes t))
    → AreEvents attempts (flat_map second_writes (filter is_twice (range_with_len a n)))
seconds_fit attempts a zero h = tt
seconds_fit attempts a (suc n) h =
    let rest = seconds_fit attempts (a + 1) n (λ t less. h t (omega arith)) in
    elim (true_or_false (is_twice a)) [
      | inl e ↦ rw e (both_fit attempts (second_writes a) _ (h a (omega arith) e) rest)
      | inr e ↦ rw e rest
    ]

committer_known : (attempts : List Declared) (t : ℕ) → declares attempts (attempt_of t 0) ≡ true
    → (is_twice t ≡ true → declares attempts (attempt_of t 1) ≡ true) → is_known attempts (committer_of t) ≡ true
committer_known attempts t first second = elim (is_twice t) as (λ b. is_twice t ≡ b → declares attempts (attempt_of t (cond b 1 0)) ≡ true)
    [ true ↦ second | false ↦ λ e. first ] refl

mix_fits : (attempts : List Declared) (seed : ℕ) → AreEvents attempts (mix_by seed ∷ [])
mix_fits attempts seed = let small : seed % 2 ^ 31 ≤ 2147483647 = omega arith in (small, tt)

pub events_fit : (attempts : List Declared) (seed tasks : ℕ) → ((t : ℕ) → t < tasks → declares attempts (attempt_of t 0) ≡ true)
    → ((t : ℕ) → t < tasks → is_twice t ≡ true → declares attempts (attempt_of t 1) ≡ true)
    → AreEvents attempts (made_events seed tasks)
unfolding made_events
events_fit attempts seed tasks first second =
    let setup : AreEvents attempts (Do Driver Setup ∷ []) = ((refl, tt), tt) in
    let writes = mapped_fit attempts start_write 0 tasks (λ t less. (first t (omega arith), tt)) in
    let seconds = seconds_fit attempts 0 tasks (λ t less two. (first t (omega arith), ((second t (omega arith) two, tt), tt))) in
    let commits = mapped_fit attempts start_commit 0 tasks (λ t less.
    (committer_known attempts t (first t (omega arith)) (second t (omega arith)), tt)) in
    let ends : AreEvents attempts (Do Driver Commit ∷ Do Driver Clean ∷ []) = ((refl, tt), ((refl, tt), tt)) in
    let told = (Do Driver Setup ∷ []) ++ (map start_write (below tasks) ++ mix_by seed ∷ []) in
    let took = flat_map second_writes (filter is_twice (below tasks)) in
    let gave = map start_commit (below tasks) ++ mix_by seed ∷ [] in
    let begins = both_fit attempts (Do Driver Setup ∷ []) (map start_write (below tasks) ++ mix_by seed ∷ []) setup
    (both_fit attempts (map start_write (below tasks)) (mix_by seed ∷ []) writes (mix_fits attempts seed)) in
    let last = both_fit attempts (map start_commit (below tasks)) (mix_by seed ∷ []) commits (mix_fits attempts seed) in
    both_fit attempts ((told ++ took) ++ gave) (Do Driver Commit ∷ Do Driver Clean ∷ [])
    (both_fit attempts (told ++ took) gave (both_fit attempts told took begins seconds) last) ends

-- ---- the number of events

seconds_count : (a n : ℕ) → length (flat_map second_writes (filter is_twice (range_with_len a n))) ≤ 2 * n
seconds_count a zero = omega arith
seconds_count a (suc n) = let rest = seconds_count (a + 1) n in elim (true_or_false (is_twice a))
    [ inl e ↦ rw e (omega (arith, rest)) | inr e ↦ rw e (omega (arith, rest)) ]

pub events_count : (seed tasks : ℕ) → length (made_events seed tasks) ≤ 4 * tasks + 5
unfolding made_events
events_count seed tasks =
    let writes = length-map-range_with_len start_write 0 tasks in
    let seconds = seconds_count 0 tasks in
    let commits = length-map-range_with_len start_commit 0 tasks in
    simp length-append (omega (arith, writes, seconds, commits))

-- ---- the events are appended one after another

appended : (s w m k c e f : List Event) → ((((((s ++ w) ++ m) ++ k) ++ c) ++ m) ++ e) ++ f ≡ (((s ++ (w ++ m)) ++ k) ++ (c ++ m)) ++
    (e ++ f)
appended s w m k c e f = simp append_assoc

pub events_are : (seed tasks mixed : ℕ) (none a b c d e f g all : List Event) → mixed ≡ seed % 2 ^ 31 → none ≡ []
    → a ≡ none ++ Do Driver Setup ∷ [] → b ≡ a ++ map start_write (below tasks) → c ≡ b ++ Mix mixed ∷ []
    → d ≡ c ++ flat_map second_writes (filter is_twice (below tasks)) → e ≡ d ++ map start_commit (below tasks) → f ≡ e ++ Mix mixed ∷ []
    → g ≡ f ++ Do Driver Commit ∷ [] → all ≡ g ++ Do Driver Clean ∷ [] → all ≡ made_events seed tasks
unfolding made_events
events_are seed tasks mixed none a b c d e f g all is start one two three four five six seven eight =
    let m = mix_by seed ∷ [] in
    let s = Do Driver Setup ∷ [] in
    let w = map start_write (below tasks) in
    let k = flat_map second_writes (filter is_twice (below tasks)) in
    let n = map start_commit (below tasks) in
    let all_is : all ≡ ((((((s ++ w) ++ m) ++ k) ++ n) ++ m) ++ Do Driver Commit ∷ []) ++ Do Driver Clean ∷ [] = cc in
    all_is ∙ appended s w m k n (Do Driver Commit ∷ []) (Do Driver Clean ∷ [])
