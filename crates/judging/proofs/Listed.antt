-- The tasks and paths of a claim, by the attempts that are listed.
use Rattle.std.proofs.Common.{Bool, List, None, Some, [], ap, arith, cond, false, get_or, inl, inr, length, refl, subst, suc, sym}
use Rattle.std.proofs.Common.{true, zero, ℕ, ◌+◌, ◌<◌, ◌||◌, ◌∙◌, ◌∷◌, ◌≡◌, ◌≢◌}
use Rattle.std.proofs.lemmas.Bool.{eq-eqb, eqb-true, true≢false}
use Rattle.std.proofs.lemmas.List.Folds.{Any-from_list_any, list_any_at}
use Rattle.std.proofs.lemmas.Option.{slice_get-get_or}
use Rattle.std.proofs.lemmas.Slice.Eq.{bytes_eq-Decides}
use Rattle.std.specs.List.{Any, list_all, list_any}
use Rattle.std.specs.Map.{lookup}
use Rattle.std.specs.Option.{unwrap_or}
use Rattle.std.specs.Prelude.{is_some, nat_eq, slice_get, ◌&&◌, ◌↔◌}
use Rattle.std.specs.Str.{bytes_eq}
use Rattle.soundness.specs.Claims.{Apart, Attempts, always_reaches, directory, file_at, is_below, is_claimed, reaches, writes}
use Rattle.soundness.specs.Claims.{writes_into}
use Rattle.judging.specs.TaskByTask.{ListedClaims}
use Rattle.judging.specs.Listed.{Listed, ListedBelow, ListedOnce, Numbered, by_task, files_of, numbered, of_task, owner}
use Rattle.judging.specs.Listed.{writes_among}
use Rattle.judging.proofs.Owned.{either}

-- ---- tests

alike : (a b : Bool) → (a ≡ true → b ≡ true) → (b ≡ true → a ≡ true) → a ≡ b
alike true b on back = sym (on refl)
alike false b on back = elim (either b) [ inl e ↦ back e ∙ sym e | inr e ↦ sym e ]

and_parts : (a b : Bool) → (a && b) ≡ true → (a ≡ true) × (b ≡ true)
and_parts true b h = (refl, h)
and_parts false b h = absurd (true≢false (sym h))

and_both : (a b : Bool) → a ≡ true → b ≡ true → (a && b) ≡ true
and_both a b h g = rw h g

or_left : (a b : Bool) → a ≡ true → (a || b) ≡ true
or_left a b h = rw h refl

or_right : (a b : Bool) → b ≡ true → (a || b) ≡ true
or_right true b h = refl
or_right false b h = h

-- ---- the tasks

module _ {I : Type 0} (listed : Listed I) where
  count_from : (s count : ℕ) → length (by_task s count listed) ≡ count
  count_from s zero = refl
  count_from s (suc count) = ap suc (count_from (s + 1) count)

  task_from : (s count t : ℕ) (d : Attempts I) → t < count → get_or (by_task s count listed) t d ≡ of_task (s + t) listed
  task_from s zero t d l = absurd (omega (arith, l))
  task_from s (suc count) zero d l = let e : s ≡ s + 0 = omega arith in ap (λ t. of_task t listed) e
  task_from s (suc count) (suc t) d l =
      let e : s + 1 + t ≡ s + suc t = omega arith in
      let less : t < count = omega (arith, l) in
      task_from (s + 1) count t d less ∙ ap (λ t. of_task t listed) e

  some_task : (P : Attempts I → Bool) (s count : ℕ) → list_any P (by_task s count listed) ≡ true
      → (t : ℕ) × (t < count) × (P (of_task (s + t) listed) ≡ true)
  some_task P s count h = by a.0 a.1 a.2 a.3 a.4
    where
      a : Any (λ task. P task ≡ true) (by_task s count listed)
      a = Any-from_list_any P (by_task s count listed) h

      by : (k : ℕ) (x : Attempts I) → k < length (by_task s count listed) → get_or (by_task s count listed) k x ≡ x → P x ≡ true
          → (t : ℕ) × (t < count) × (P (of_task (s + t) listed) ≡ true)
      by k x l e h =
          let less : k < count = subst (λ n. k < n) (count_from s count) l in
          (k, less, subst (λ task. P task ≡ true) (sym e ∙ task_from s count k x less) h)

  from_task : (P : Attempts I → Bool) (s count t : ℕ) → t < count → P (of_task (s + t) listed) ≡ true
      → list_any P (by_task s count listed) ≡ true
  from_task P s count t l h = list_any_at P (by_task s count listed) t (of_task (s + t) listed) (subst (λ n. t < n)
      (sym (count_from s count)) l) (subst (λ task. P task ≡ true) (sym (task_from s count t (of_task (s + t) listed) l)) h)

-- ---- the listed tasks

-- A task that is not found is none of the listed ones.
not_there : {I : Type 0} (t : ℕ) (listed : Listed I) → lookup (nat_eq t) listed ≡ None
    → (i : ℕ) (d : ℕ × Numbered I) → i < length listed
    → nat_eq t (get_or listed i d).0 ≡ true → ⊥
not_there t [] none i d l same = omega (arith, l)
not_there t (x ∷ xs) none zero d l same = cc (sym none, ap (λ b. cond b (Some x.1) (lookup (nat_eq t) xs)) same)
not_there t (x ∷ xs) none (suc i) d l same = elim (either (nat_eq t x.0)) [
  | inl e ↦ cc (sym none, ap (λ b. cond b (Some x.1) (lookup (nat_eq t) xs)) e)
  | inr n ↦ not_there t xs (sym (ap (λ b. cond b (Some x.1) (lookup (nat_eq t) xs)) n) ∙ none) i d (omega (arith, l)) same
]

at : {I : Type 0} (listed : Listed I) → ListedOnce listed → (i : ℕ) (d : ℕ × Numbered I) → i < length listed
    → numbered (get_or listed i d).0 listed ≡ (get_or listed i d).1
at [] once i d l = absurd (omega (arith, l))
at (x ∷ xs) once zero d l = ap (λ b. unwrap_or (cond b (Some x.1) (lookup (nat_eq x.0) xs)) []) (eq-eqb x.0 x.0 refl)
at (x ∷ xs) once (suc i) d l = elim (either (nat_eq (get_or xs i d).0 x.0)) [
  | inl e ↦ absurd (not_there x.0 xs once.0 i d (omega (arith, l))
      (eq-eqb x.0 (get_or xs i d).0 (sym (eqb-true (get_or xs i d).0 x.0 e))))
  | inr n ↦ ap (λ b. unwrap_or (cond b (Some x.1) (lookup (nat_eq (get_or xs i d).0) xs)) []) n ∙ at xs once.1 i d (omega (arith, l))
]

module _ {I : Type 0} (P : Attempts I → Bool) (nothing : P [] ≡ false) where
  -- A test that a task passes is passed by a listed task.
  found : (t : ℕ) (listed : Listed I) → P (of_task t listed) ≡ true → list_any (λ x. P (files_of x.1)) listed ≡ true
  found t [] h = absurd (true≢false (sym h ∙ nothing))
  found t (x ∷ xs) h = elim (either (nat_eq t x.0)) [
    | inl e ↦ or_left (P (files_of x.1)) (list_any (λ y. P (files_of y.1)) xs)
        (sym (ap (λ b. P (files_of (unwrap_or (cond b (Some x.1) (lookup (nat_eq t) xs)) []))) e) ∙ h)
    | inr n ↦ or_right (P (files_of x.1)) (list_any (λ y. P (files_of y.1)) xs)
        (found t xs (sym (ap (λ b. P (files_of (unwrap_or (cond b (Some x.1) (lookup (nat_eq t) xs)) []))) n) ∙ h))
  ]

  any_listed : (tasks : ℕ) (listed : Listed I) → ListedBelow tasks listed → ListedOnce listed
      → list_any P (by_task 0 tasks listed) ≡ list_any (λ x. P (files_of x.1)) listed
  any_listed tasks listed below once = alike (list_any P (by_task 0 tasks listed)) (list_any (λ x. P (files_of x.1)) listed) on back
    where
      on : list_any P (by_task 0 tasks listed) ≡ true → list_any (λ x. P (files_of x.1)) listed ≡ true
      on h = let t = some_task listed P 0 tasks h in found (0 + t.0) listed t.2

      back : list_any (λ x. P (files_of x.1)) listed ≡ true → list_any P (by_task 0 tasks listed) ≡ true
      back h =
          let a = Any-from_list_any (λ x. P (files_of x.1)) listed h in
          let x = get_or listed a.0 a.1 in
          let here : P (files_of x.1) ≡ true = subst (λ y. P (files_of y.1) ≡ true) (sym a.3) a.4 in
          let e : x.0 ≡ 0 + x.0 = omega arith in
          from_task listed P 0 tasks x.0 (below a.0 a.1 a.2)
          (subst (λ n. P (of_task n listed) ≡ true) e
          (subst (λ attempts. P (files_of attempts) ≡ true) (sym (at listed once a.0 a.1 a.2)) here))

-- ---- who writes a path

-- A task writes the path exactly if one of its numbered attempts does.
among : {I : Type 0} (p : List ℕ) (attempts : Numbered I) → writes (files_of attempts) p ≡ writes_among p attempts
among p [] = refl
among p (a ∷ attempts) = ap (λ b. is_some (file_at a.1 p) || b) (among p attempts)

owner_is : {I : Type 0} (p : List ℕ) (listed : Listed I) → list_any (λ x. writes (files_of x.1) p) listed ≡ is_some (owner p listed)
owner_is p [] = refl
owner_is p (x ∷ xs) = elim (either (writes_among p x.1)) [
  | inl e ↦ ap (λ b. b || list_any (λ y. writes (files_of y.1) p) xs) (among p x.1 ∙ e)
      ∙ sym (ap (λ b. is_some (cond b (Some x.0) (owner p xs))) e)
  | inr n ↦ ap (λ b. b || list_any (λ y. writes (files_of y.1) p) xs) (among p x.1 ∙ n) ∙ owner_is p xs
      ∙ sym (ap (λ b. is_some (cond b (Some x.0) (owner p xs))) n)
]

-- the owner is one of the listed tasks
owner_at : {I : Type 0} (p : List ℕ) (listed : Listed I) (t : ℕ) → owner p listed ≡ Some t
    → Any (λ x. (x.0 ≡ t) × (writes_among p x.1 ≡ true)) listed
owner_at p [] t h = absurd (cc h)
owner_at p (x ∷ xs) t h = elim (either (writes_among p x.1)) [
  | inl e ↦ (0, x, omega arith, refl, (cc (h, ap (λ b. cond b (Some x.0) (owner p xs)) e), e))
  | inr n ↦ later (owner_at p xs t (sym (ap (λ b. cond b (Some x.0) (owner p xs)) n) ∙ h))
]
  where
    later : Any (λ y. (y.0 ≡ t) × (writes_among p y.1 ≡ true)) xs
        → Any (λ y. (y.0 ≡ t) × (writes_among p y.1 ≡ true)) (x ∷ xs)
    later a = (suc a.0, a.1, omega (arith, a.2), a.3, a.4)

owned : {I : Type 0} (listed : Listed I) → ListedOnce listed → (p : List ℕ) (t : ℕ) → owner p listed ≡ Some t
    → writes (of_task t listed) p ≡ true
owned listed once p t h =
    let a = owner_at p listed t h in
    let x = get_or listed a.0 a.1 in
    let beside : numbered x.0 listed ≡ x.1 = at listed once a.0 a.1 a.2 in
    let same : x.0 ≡ t = ap (λ y. y.0) a.3 ∙ a.4.0 in
    let wrote : writes_among p x.1 ≡ true = subst (λ y. writes_among p y.1 ≡ true) (sym a.3) a.4.1 in
    subst (λ n. writes (of_task n listed) p ≡ true) same (among p (numbered x.0 listed) ∙ ap (writes_among p) beside ∙ wrote)

free : {I : Type 0} (listed : Listed I) (p : List ℕ) → owner p listed ≡ None → (t : ℕ) → writes (of_task t listed) p ≡ false
free listed p none t = elim (either (writes (of_task t listed) p)) [
  | inl e ↦ absurd (true≢false (sym (found (λ task. writes task p) refl t listed e) ∙ owner_is p listed ∙ ap is_some none))
  | inr n ↦ n
]

-- ---- paths of two tasks

module _ {I : Type 0} (listed : Listed I)
    (own : (t : ℕ) (p : List ℕ) → writes (of_task t listed) p ≡ true → owner p listed ≡ Some t) where
  apart_from : (s count : ℕ) → Apart (by_task s count listed)
  apart_from s zero = tt
  apart_from s (suc count) = (none, apart_from (s + 1) count)
    where
      none : (p : List ℕ) → writes (of_task s listed) p ≡ true → is_claimed (by_task (s + 1) count listed) p ≡ false
      none p here = elim (either (is_claimed (by_task (s + 1) count listed) p)) [ inl o ↦ absurd (by o) | inr o ↦ o ]
        where
          by : is_claimed (by_task (s + 1) count listed) p ≡ true → ⊥
          by o =
              let t = some_task listed (λ task. writes task p) (s + 1) count o in
              let one : owner p listed ≡ Some s = own s p here in
              let two : owner p listed ≡ Some (s + 1 + t.0) = own (s + 1 + t.0) p t.2 in
              let same : s ≡ s + 1 + t.0 = cc (one, two) in
              omega (arith, same)

-- ---- directories that every attempt of a task writes into

shared : {I : Type 0} (task : Attempts I) (p : List ℕ) → (always_reaches p task ≡ true)
    ↔ ((d : List ℕ) × task ≢ [] × (list_all (writes_into d) task ≡ true) × (is_below d p ≡ true))
shared [] p = (λ h. absurd (true≢false (sym h)), λ s. absurd (s.1 refl))
shared {I} (files ∷ others) p = (on, back)
  where
    on : always_reaches p (files ∷ others) ≡ true
        → (d : List ℕ) × (files ∷ others ≢ []) × (list_all (writes_into d) (files ∷ others) ≡ true) × (is_below d p ≡ true)
    on h =
        let a = Any-from_list_any (λ file. is_below (directory file.0) p && list_all (writes_into (directory file.0)) others) files h in
        let d = directory a.1.0 in
        let both = and_parts (is_below d p) (list_all (writes_into d) others) a.4 in
        let first = list_any_at (λ file. bytes_eq d (directory file.0)) files a.0 a.1 a.2 ((bytes_eq-Decides d
        (directory (get_or files a.0 a.1).0)).1 (sym (ap (λ file. directory file.0) a.3))) in
        (d, λ e. cc, and_both (writes_into d files) (list_all (writes_into d) others) first both.1, both.0)

    back : ((d : List ℕ) × (files ∷ others ≢ []) × (list_all (writes_into d) (files ∷ others) ≡ true) × (is_below d p ≡ true))
        → always_reaches p (files ∷ others) ≡ true
    back s =
        let both = and_parts (writes_into s.0 files) (list_all (writes_into s.0) others) s.2 in
        let a = Any-from_list_any (λ file. bytes_eq s.0 (directory file.0)) files both.0 in
        let e : s.0 ≡ directory a.1.0 = (bytes_eq-Decides s.0 (directory a.1.0)).0 a.4 in
        let here = subst (λ d. (is_below d p && list_all (writes_into d) others) ≡ true) e (and_both (is_below s.0 p)
        (list_all (writes_into s.0) others) s.3 both.1) in
        list_any_at (λ file. is_below (directory file.0) p && list_all (writes_into (directory file.0)) others) files a.0 a.1 a.2
        (subst (λ file. (is_below (directory file.0) p && list_all (writes_into (directory file.0)) others) ≡ true) (sym a.3) here)

-- ---- the laws

task_at : {I : Type 0} (tasks : ℕ) (listed : Listed I) (t : ℕ) → t < tasks
    → slice_get (by_task 0 tasks listed) t ≡ Some (of_task t listed)
task_at tasks listed t l =
    let e : 0 + t ≡ t = omega arith in
    slice_get-get_or (by_task 0 tasks listed) t (of_task t listed) (subst (λ n. t < n) (sym (count_from listed 0 tasks)) l)
    ∙ ap Some (task_from listed 0 tasks t (of_task t listed) l ∙ ap (λ n. of_task n listed) e)

pub listed_claims : (I : Type 0) → ListedClaims I
listed_claims I = record {
  count = λ tasks listed. count_from listed 0 tasks;
  task = task_at;
  at = at;
  claimed = λ tasks listed below once p. any_listed (λ task. writes task p) refl tasks listed below once ∙ owner_is p listed;
  owned = owned;
  free = free;
  apart = λ tasks listed own. apart_from listed own 0 tasks;
  reached = λ tasks listed below once p. any_listed (list_any (reaches p)) refl tasks listed below once;
  replaced = λ tasks listed below once p. any_listed (always_reaches p) refl tasks listed below once;
  shared = shared;
}
