-- The first event of a list that passes a test and was not refused.
use Rattle.job_model.specs.declared.ends.EventEnd.{EventEnd}
use Rattle.job_model.specs.declared.events.Event.{Event}
use Rattle.job_spec.specs.States.{event_from, is_refused}
use Rattle.std.proofs.Common.{Bool, List, Option, Some, ap, arith, cond, drop, false, get_or, length, not, option_map, refl, slice_get, suc}
use Rattle.std.proofs.Common.{sym, true, unwrap_or, zero, ℕ, [], ◌&&◌, ◌+◌, ◌<◌, ◌∙◌, ◌∷◌, ◌≡◌}
use Rattle.std.proofs.Math.Bool.{and-true}

-- the event at a place was refused
abbrev pub refused_at : List EventEnd → ℕ → Bool
refused_at xs i = unwrap_or (option_map is_refused (slice_get xs i)) false

none_behind : (i : ℕ) → drop {A = EventEnd} i [] ≡ []
none_behind zero = refl
none_behind (suc i) = refl

module _ (p : Event → Bool) where
  -- The number of this event if it is the first, else that of the first one after it.
  abbrev or_behind : ℕ → Bool → List Event → List EventEnd → Option ℕ
  or_behind n here evs xs = cond here (Some n) (event_from p (n + 1) evs xs)

  -- The first event from a place on, by the event there.
  next_event : (n i : ℕ) (evs : List Event) (xs : List EventEnd) (d : Event) → i < length evs
      → event_from p n (drop i evs) (drop i xs)
      ≡ or_behind n (p (get_or evs i d) && not (refused_at xs i)) (drop (i + 1) evs) (drop (i + 1) xs)
  next_event n i [] xs d h = absurd (omega arith)
  next_event n zero (ev ∷ evs) [] d h = ap (λ (b : Bool). or_behind n b evs []) (sym (and-true (p ev)))
  next_event n zero (ev ∷ evs) (x ∷ xs) d h = refl
  next_event n (suc i) (ev ∷ evs) [] d h =
      let more : suc i + 1 ≡ suc (i + 1) = omega arith in
      let here = p (get_or evs i d) && true in
      ap (event_from p n (drop i evs)) (sym (none_behind i))
      ∙ next_event n i evs [] d (omega arith)
      ∙ ap (or_behind n here (drop (i + 1) evs)) (none_behind (i + 1))
      ∙ ap (λ m. or_behind n here (drop m (ev ∷ evs)) []) (sym more)
      ∙ ap (or_behind n here (drop (suc i + 1) (ev ∷ evs))) (sym (none_behind (suc i + 1)))
  next_event n (suc i) (ev ∷ evs) (x ∷ xs) d h =
      let more : suc i + 1 ≡ suc (i + 1) = omega arith in
      next_event n i evs xs d (omega arith)
      ∙ ap (λ m. or_behind n (p (get_or evs i d) && not (refused_at xs i)) (drop m (ev ∷ evs)) (drop m (x ∷ xs))) (sym more)

  -- The first event from a place on, if it is known whether the event there is the first.
  by_event : (here : Bool) (n i : ℕ) (evs : List Event) (xs : List EventEnd) (d : Event) → i < length evs
      → (p (get_or evs i d) && not (refused_at xs i)) ≡ here
      → event_from p n (drop i evs) (drop i xs) ≡ or_behind n here (drop (i + 1) evs) (drop (i + 1) xs)
  by_event here n i evs xs d h is = next_event n i evs xs d h ∙ ap (λ (t : Bool). or_behind n t (drop (i + 1) evs) (drop (i + 1) xs)) is

  -- the event at a place is the first
  pub found : (n i : ℕ) (evs : List Event) (xs : List EventEnd) (d : Event) (o : Option ℕ) (a b : Bool) → i < length evs
      → a ≡ p (get_or evs i d) → b ≡ refused_at xs i → a ≡ true → b ≡ false
      → event_from p n (drop i evs) (drop i xs) ≡ o → Some n ≡ o
  found n i evs xs d o a b h is was passes fails all =
      sym (by_event true n i evs xs d h ((λ k. sym is k && not (sym was k)) ∙ (λ k. passes k && not (fails k)))) ∙ all

  -- the event at a place does not pass the test
  pub other : (n i : ℕ) (evs : List Event) (xs : List EventEnd) (d : Event) (o : Option ℕ) (a : Bool) → i < length evs
      → a ≡ p (get_or evs i d) → a ≡ false
      → event_from p n (drop i evs) (drop i xs) ≡ o → event_from p (n + 1) (drop (i + 1) evs) (drop (i + 1) xs) ≡ o
  other n i evs xs d o a h is fails all =
      sym (by_event false n i evs xs d h ((λ k. sym is k && not (refused_at xs i)) ∙ (λ k. fails k && not (refused_at xs i)))) ∙ all

  -- the event at a place was refused
  pub refused : (n i : ℕ) (evs : List Event) (xs : List EventEnd) (d : Event) (o : Option ℕ) (b : Bool) → i < length evs
      → b ≡ refused_at xs i → b ≡ true
      → event_from p n (drop i evs) (drop i xs) ≡ o → event_from p (n + 1) (drop (i + 1) evs) (drop (i + 1) xs) ≡ o
  refused n i evs xs d o b h was passes all = sym (by_event false n i evs xs d h not_here) ∙ all
    where
      none : (c : Bool) → (c && false) ≡ false
      none true = refl
      none false = refl

      not_here : (p (get_or evs i d) && not (refused_at xs i)) ≡ false
      not_here = (λ k. p (get_or evs i d) && not (sym was k)) ∙ (λ k. p (get_or evs i d) && not (passes k)) ∙ none (p (get_or evs i d))
