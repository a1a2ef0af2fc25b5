-- Which actors are busy, by the standings that are kept of a run.
use Rattle.text_and_lists.proofs.Members.{false_true, nat_false, nat_true, none_or_some, true_or_false}
use Rattle.job_model.specs.Attempts.{Declared, Who, actor_of, is_known, same_name}
use Rattle.job_model.specs.JobScript.{Script}
use Rattle.job_run.proofs.Places.{get_map, map_none, there}
use Rattle.job_run.specs.Holds.{busy_in, is_busy_at}
use Rattle.job_spec.specs.States.{Past, actors}
use Rattle.job_spec.specs.Turns.{is_busy}
use Rattle.job_states.proofs.PlaceLemmas.{same_exact}
use Rattle.job_states.specs.Standing.{standing}
use Rattle.job_states.specs.Stands.{IsPlace, Kept, Stands}
use Rattle.job_states.specs.declared.standing.Standing.{Standing}
use Rattle.script_steps.proofs.Actors.{same_true}
use Rattle.s3_types.specs.declared.request.Actor.{Actor}
use Rattle.s3_types.specs.declared.request.Actor.TheVariants.{Attempt, Driver, Shell}
use Rattle.std.proofs.Common.{List, None, Some, ap, false, inl, inr, map, refl, slice_get, suc, sym, true, ℕ, [], ◌∙◌, ◌∷◌, ◌≡◌}
use Rattle.std.specs.Map.{lookup}
use Rattle.std.specs.Prelude.{is_some, option_map}

-- ---- places

pub placed : (w : Script) (a : Actor) (i : ℕ) → IsPlace w a (Some i) → slice_get (actors w) i ≡ Some a
placed w a i p =
    let b = there (actors w) i p.within in
    b.1 ∙ ap (λ v. Some v) (same_exact b.0 a (p.only i b.0 b.1 ∙ nat_true i i refl))

-- At another place there is another actor.
pub another : (w : Script) (a : Actor) (i : ℕ) → IsPlace w a (Some i) → (j : ℕ) (b : Actor) → slice_get (actors w) j ≡ Some b → (j ≡ i → ⊥)
    → b ≡ a → ⊥
another w a i p j b at ne e = false_true (p.only j b at ∙ nat_false i j (λ s. ne (sym s))) (same_true b a e)

named_at : (name : Who) (es : List Declared) → is_some (lookup (same_name name) es) ≡ true → (i : ℕ)
    × (slice_get (map (λ d. actor_of d.0) es) i ≡ Some (actor_of name))
named_at name [] h = absurd (false_true refl h)
named_at name (d ∷ es) h = elim (true_or_false (same_name name d.0)) [
  | inl e ↦ (0, ap (λ v. Some v) (sym (same_exact (actor_of name) (actor_of d.0) e)))
  | inr e ↦ let t = named_at name es (rw e at h) in (suc t.0, t.1)
]

-- Each actor of the job has a place.
pub place_known : (w : Script) (a : Actor) → is_known w.attempts a ≡ true → (i : ℕ) × (slice_get (actors w) i ≡ Some a)
place_known w Driver h = (0, refl)
place_known w (Attempt t n) h = let r = named_at (record { task = t; attempt = n }) w.attempts h in (suc r.0, r.1)
place_known w Shell h = absurd (false_true refl h)

-- ---- which actors are busy

module _ (w : Script) (k : Kept) (p : Past) (s : Stands w k p) where
  pub busy_at : (q : ℕ) (a : Actor) → slice_get (actors w) q ≡ Some a → is_busy_at k.actors q ≡ is_busy (p.state a).life
  busy_at q a at = ap busy_in (ap (λ (l : List Standing). slice_get l q) s.actors ∙ get_map (standing p) (actors w) q a at)

  pub busy_nowhere : (q : ℕ) → slice_get (actors w) q ≡ None → is_busy_at k.actors q ≡ false
  busy_nowhere q none = ap busy_in (ap (λ (l : List Standing). slice_get l q) s.actors ∙ map_none (standing p) (actors w) q none)

  pub busy_actor : (q : ℕ) → is_busy_at k.actors q ≡ true → (a : Actor) × (slice_get (actors w) q ≡ Some a)
      × (is_busy (p.state a).life ≡ true)
  busy_actor q busy = elim (none_or_some (slice_get (actors w) q)) [
    | inl none ↦ absurd (false_true (busy_nowhere q none) busy)
    | inr found ↦ (found.0, found.1, sym (busy_at q found.0 found.1) ∙ busy)
  ]

-- The standings are the same for states that differ only in the number of events.
pub same_actors : (w : Script) (k l : Kept) (p q : Past) → Stands w k p → Stands w l q → q.state ≡ p.state → q.doing ≡ p.doing
    → q.reported ≡ p.reported → l.actors ≡ k.actors
same_actors w k l p q s t st d r =
    t.actors ∙ ap (λ (f : Actor → Standing). map f (actors w)) (λ i a. record
    { state = st i a; begun = option_map (λ v. v.op) (d i a); reported = r i a }) ∙ sym s.actors
