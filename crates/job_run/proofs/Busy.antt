-- The places of the busy actors of a legal script's run.
use Rattle.text_and_lists.proofs.Members.{none_some, some_is}
use Rattle.job_model.specs.JobScript.{Script}
use Rattle.job_model.specs.Legal.{IsLegal}
use Rattle.job_run.proofs.Places.{get_map, map_get, one_place}
use Rattle.job_run.proofs.Standings.{busy_at}
use Rattle.job_run.specs.Holds.{is_busy_at}
use Rattle.job_spec.specs.States.{Past, actors}
use Rattle.job_spec.specs.Turns.{busy_actors, is_busy}
use Rattle.job_states.specs.Mixes.{AreApart, IsNotIn}
use Rattle.job_states.specs.Stands.{Kept, Stands}
use Rattle.s3_types.specs.declared.request.Actor.{Actor}
use Rattle.std.proofs.Common.{Bool, List, Option, Some, ap, arith, cond, false, length, map, refl, slice_get, suc, sym, true, zero, ℕ, []}
use Rattle.std.proofs.Common.{◌∙◌, ◌∷◌, ◌≡◌, ◌≤◌}
use Rattle.std.proofs.lemmas.List.{length-map}
use Rattle.std.specs.List.{filter}

-- ---- lists without repetition

Missing : Actor → List Actor → Type 0
Missing a [] = Unit {0}
Missing a (x ∷ xs) = (x ≡ a → ⊥) × Missing a xs

Distinct : List Actor → Type 0
Distinct [] = Unit {0}
Distinct (x ∷ xs) = Missing x xs × Distinct xs

missing_from : (a : Actor) (xs : List Actor) → ((j : ℕ) → slice_get xs j ≡ Some a → ⊥) → Missing a xs
unfolding Missing
missing_from a [] h = tt
missing_from a (x ∷ xs) h = (λ e. h 0 (ap (λ v. Some v) e), missing_from a xs (λ j. h (suc j)))

distinct_from : (xs : List Actor) → ((i j : ℕ) (a : Actor) → slice_get xs i ≡ Some a → slice_get xs j ≡ Some a → i ≡ j) → Distinct xs
unfolding Distinct
distinct_from [] h = tt
distinct_from (x ∷ xs) h = (
  missing_from x xs (λ j e. let s = h 0 (suc j) x refl e in absurd (omega (arith, s))),
  distinct_from xs
      (λ i j a e f. omega (arith, h (suc i) (suc j) a e f)),
)

filter_missing : (p : Actor → Bool) (a : Actor) (xs : List Actor) → Missing a xs → Missing a (filter p xs)
unfolding Missing
filter_missing p a [] h = tt
filter_missing p a (x ∷ xs) h =
    let rest = filter_missing p a xs h.1 in elim (p x) as (λ b. Missing a (cond b (x ∷ filter p xs) (filter p xs)))
    [ true ↦ (h.0, rest) | false ↦ rest ]

filter_distinct : (p : Actor → Bool) (xs : List Actor) → Distinct xs → Distinct (filter p xs)
unfolding Distinct
filter_distinct p [] h = tt
filter_distinct p (x ∷ xs) h =
    let rest = filter_distinct p xs h.1 in elim (p x) as (λ b. Distinct (cond b (x ∷ filter p xs) (filter p xs)))
    [ true ↦ (filter_missing p x xs h.0, rest) | false ↦ rest ]

filter_get : (p : Actor → Bool) (xs : List Actor) (i : ℕ) (a : Actor) → slice_get (filter p xs) i ≡ Some a → p a ≡ true
filter_get p [] i a e = absurd (none_some refl e)
filter_get p (x ∷ xs) i a e = by (p x) refl i e (filter_get p xs)
  where
    by : (b : Bool) → p x ≡ b → (j : ℕ) → slice_get (cond b (x ∷ filter p xs) (filter p xs)) j ≡ Some a
        → ((k : ℕ) (v : Actor) → slice_get (filter p xs) k ≡ Some v → p v ≡ true) → p a ≡ true
    by true is zero f r = ap p (sym (some_is f)) ∙ is
    by true is (suc j) f r = r j a f
    by false is j f r = r j a f

filter_few : (p : Actor → Bool) (xs : List Actor) → length (filter p xs) ≤ length xs
filter_few p [] = omega arith
filter_few p (x ∷ xs) =
    let rest = filter_few p xs in elim (p x) as (λ b. length (cond b (x ∷ filter p xs) (filter p xs)) ≤ suc (length xs))
    [ true ↦ omega arith | false ↦ omega arith ]

-- ---- places of such a list

module _ (f : ℕ → Option Actor) where
  not_in : (p : ℕ) (b : Actor) → f p ≡ Some b → (ps : List ℕ) (bs : List Actor) → map f ps ≡ map (λ x. Some x) bs → Missing b bs
      → IsNotIn p ps
  unfolding Missing
  not_in p b at [] bs e h = tt
  not_in p b at (x ∷ ps) [] e h = absurd cc
  not_in p b at (x ∷ ps) (c ∷ bs) e h =
      let first : f x ≡ Some c = cc in
      let rest : map f ps ≡ map (λ x. Some x) bs = cc in
      (λ s. h.0 (some_is (sym first ∙ ap f s ∙ at)), not_in p b at ps bs rest h.1)

  apart_all : (ps : List ℕ) (bs : List Actor) → map f ps ≡ map (λ x. Some x) bs → Distinct bs → AreApart ps
  unfolding Distinct
  apart_all [] bs e h = tt
  apart_all (p ∷ ps) [] e h = absurd cc
  apart_all (p ∷ ps) (b ∷ bs) e h =
      let first : f p ≡ Some b = cc in
      let rest : map f ps ≡ map (λ x. Some x) bs = cc in
      (not_in p b first ps bs rest h.0, apart_all ps bs rest h.1)

  same_length : (ps : List ℕ) (bs : List Actor) → map f ps ≡ map (λ x. Some x) bs → length ps ≡ length bs
  same_length ps bs e = sym (length-map ps f) ∙ ap length e ∙ length-map bs (λ x. Some x)

-- ---- the busy actors of a run

module _ (w : Script) (legal : IsLegal w) (k : Kept) (p : Past) (stands : Stands w k p) (places : List ℕ)
    (busy : map (slice_get (actors w)) places ≡ map (λ x. Some x) (busy_actors w p.state)) where
  pub busy_apart : AreApart places
  busy_apart = apart_all (slice_get (actors w)) places (busy_actors w p.state) busy
      (filter_distinct (λ a. is_busy (p.state a).life) (actors w) (distinct_from (actors w) (λ i j a e f. one_place w legal i j a e f)))

  pub busy_going : (i q : ℕ) → slice_get places i ≡ Some q → is_busy_at k.actors q ≡ true
  busy_going i q at =
      let named = map_get (λ (x : Actor). Some x) (busy_actors w p.state) i (slice_get (actors w) q)
      (ap (λ l. slice_get l i) (sym busy) ∙ get_map (slice_get (actors w)) places i q at) in
      busy_at w k p stands q named.0 (sym named.2) ∙ filter_get (λ a. is_busy (p.state a).life) (actors w) i named.0 named.1

  pub busy_few : length places ≤ length (actors w)
  busy_few = omega (
    arith,
    same_length (slice_get (actors w)) places (busy_actors w p.state) busy,
    filter_few
        (λ a. is_busy (p.state a).life) (actors w),
  )
