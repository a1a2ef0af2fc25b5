-- Entries whose event numbers never fall, cut before an event and after one.
use Rattle.text_and_lists.proofs.Members.{true_or_false}
use Rattle.text_and_lists.proofs.Naturals.{above_so, at_most_so, below_is, below_not}
use Rattle.job_outcomes.specs.EventRows.{EventRows}
use Rattle.job_spec.specs.States.{same_actor}
use Rattle.job_spec.specs.Turns.{AllBy, AllFrom, IsRising, before, by_actor, since, until}
use Rattle.protocol_runs.proofs.Changes.{after_parts}
use Rattle.s3_types.specs.Moment.{AreHonest, IsHonest, after_all, effect, moment}
use Rattle.s3_types.specs.Store.{Content, Scene, opening as opening_scene}
use Rattle.s3_types.specs.declared.journal.Entry.{Entry}
use Rattle.s3_types.specs.declared.request.Actor.{Actor}
use Rattle.std.proofs.Common.{Bool, List, ap, arith, cond, false, inl, inr, length, nat_le, nat_lt, refl, subst, sym, take, true, ℕ, []}
use Rattle.std.proofs.Common.{◌++◌, ◌+◌, ◌∙◌, ◌∷◌, ◌≡◌, ◌≤◌}
use Rattle.std.proofs.Math.Seq.{take-append_seam}
use Rattle.std.proofs.lemmas.Bool.Decides.{nat_tests}
use Rattle.std.specs.List.{filter}

-- ---- cut

pub none_before : (k n : ℕ) (es : List Entry) → k ≤ n → AllFrom n es → before k es ≡ []
none_before k n [] l h = refl
none_before k n (e ∷ es) l h =
    let low : n ≤ e.event = h.0 in
    let not_lt : nat_lt e.event k ≡ false = grind (arith, nat_tests) in
    ap (λ b. cond b (e ∷ before k es) (before k es)) not_lt ∙ none_before k n es l h.1

pub all_since : (k n : ℕ) (es : List Entry) → k ≤ n → AllFrom n es → since k es ≡ es
all_since k n [] l h = refl
all_since k n (e ∷ es) l h =
    let low : n ≤ e.event = h.0 in
    let is : nat_le k e.event ≡ true = at_most_so k e.event (omega arith) in
    ap (λ b. cond b (e ∷ since k es) (since k es)) is ∙ ap (λ xs. e ∷ xs) (all_since k n es l h.1)

parts : (k : ℕ) (es : List Entry) → IsRising es → before k es ++ since k es ≡ es
parts k [] h = refl
parts k (e ∷ es) h = elim (true_or_false (nat_lt e.event k)) [
  | inl f ↦ rw (f, above_so k e.event (below_is e.event k f)) (ap (λ xs. e ∷ xs) (parts k es h.1))
  | inr f ↦
      let high : k ≤ e.event = below_not e.event k f in
      rw (f, at_most_so k e.event high) (ap (λ xs. xs ++ e ∷ since k es) (none_before k e.event es high h.0) ∙ ap (λ xs. e ∷ xs)
      (all_since k e.event es high h.0))
]

until_is : (i : ℕ) (es : List Entry) → until i es ≡ before (i + 1) es
until_is i [] = refl
until_is i (e ∷ es) =
    let same : nat_le e.event i ≡ nat_lt e.event (i + 1) = grind (arith, nat_tests) in
    ap (λ b. cond b (e ∷ until i es) (until i es)) same ∙ ap (λ xs. cond (nat_lt e.event (i + 1)) (e ∷ xs) xs) (until_is i es)

front : (i : ℕ) (es : List Entry) → IsRising es → until i es ++ since (i + 1) es ≡ es
front i es h = ap (λ xs. xs ++ since (i + 1) es) (until_is i es) ∙ parts (i + 1) es h

from_until : (n i : ℕ) (es : List Entry) → AllFrom n es → AllFrom n (until i es)
from_until n i [] h = tt
from_until n i (e ∷ es) h =
    elim (nat_le e.event i) as (λ b. AllFrom n (cond b (e ∷ until i es) (until i es)))
    [ true ↦ (h.0, from_until n i es h.1) | false ↦ from_until n i es h.1 ]

rises : (i : ℕ) (es : List Entry) → IsRising es → IsRising (until i es)
rises i [] h = tt
rises i (e ∷ es) h =
    elim (nat_le e.event i) as (λ b. IsRising (cond b (e ∷ until i es) (until i es)))
    [ true ↦ (from_until e.event i es h.0, rises i es h.1) | false ↦ rises i es h.1 ]

earlier : (k i : ℕ) (es : List Entry) → k ≤ i + 1 → before k (until i es) ≡ before k es
earlier k i [] l = refl
earlier k i (e ∷ es) l = by (nat_lt e.event k) (nat_le e.event i) refl refl (earlier k i es l)
  where
    by : (b c : Bool) → nat_lt e.event k ≡ b → nat_le e.event i ≡ c → before k (until i es) ≡ before k es
        → before k (cond (nat_le e.event i) (e ∷ until i es) (until i es)) ≡ cond (nat_lt e.event k) (e ∷ before k es) (before k es)
    by b c h g e = grind arith

-- ---- scenes

honest_front : (s : Scene) (xs ys : List Entry) → AreHonest s (xs ++ ys) → AreHonest s xs
honest_front s [] ys h = tt
honest_front s (x ∷ xs) ys h = (h.0, honest_front (effect s x.request x.outcome) xs ys h.1)

pub honest_back : (s : Scene) (xs ys : List Entry) → AreHonest s (xs ++ ys) → AreHonest (after_all s xs) ys
honest_back s [] ys h = h
honest_back s (x ∷ xs) ys h = honest_back (effect s x.request x.outcome) xs ys h.1

-- The moment after a front of a journal.
behind : (opening : Content) (es xs ys : List Entry) → xs ++ ys ≡ es → moment opening es (length xs) ≡ after_all (opening_scene opening) xs
behind opening es xs ys e = ap (λ l. after_all (opening_scene opening) (take (length xs) l)) (sym e) ∙ ap
    (after_all (opening_scene opening)) (take-append_seam xs ys)

module _ (opening : Content) (k i : ℕ) (es : List Entry) (l : k ≤ i + 1) (rising : IsRising es) where
  -- The entries up to the second event are those before the first one and those between.
  cut : before k es ++ since k (until i es) ≡ until i es
  cut = ap (λ xs. xs ++ since k (until i es)) (sym (earlier k i es l)) ∙ parts k (until i es) (rises i es rising)

  first : moment opening es (length (before k es)) ≡ after_all (opening_scene opening) (before k es)
  first = behind opening es (before k es) (since k es) (parts k es rising)

  honest : IsHonest opening es → AreHonest (moment opening es (length (before k es))) (since k (until i es))
  honest h =
      let upto : AreHonest (opening_scene opening) (until i es) = honest_front (opening_scene opening) (until i es) (since (i + 1) es)
      (subst (AreHonest (opening_scene opening)) (sym (front i es rising)) h) in
      subst (λ s. AreHonest s (since k (until i es))) (sym first) (honest_back (opening_scene opening) (before k es) (since k (until i es))
      (subst (AreHonest (opening_scene opening)) (sym cut) upto))

  scene : after_all (moment opening es (length (before k es))) (since k (until i es)) ≡ moment opening es (length (until i es))
  scene =
      ap (λ s. after_all s (since k (until i es))) first ∙ sym (after_parts (opening_scene opening) (before k es) (since k (until i es))) ∙
      ap (after_all (opening_scene opening)) cut
      ∙ sym (behind opening es (until i es) (since (i + 1) es) (front i es rising))

-- ---- the entries of one actor

swapped : (p q : Entry → Bool) (es : List Entry) → filter p (filter q es) ≡ filter q (filter p es)
swapped p q [] = refl
swapped p q (e ∷ es) = by (p e) (q e) refl refl (swapped p q es)
  where
    by : (b c : Bool) → p e ≡ b → q e ≡ c → filter p (filter q es) ≡ filter q (filter p es)
        → filter p (filter q (e ∷ es)) ≡ filter q (filter p (e ∷ es))
    by b c h g e = grind arith

same_self : (a : Actor) → same_actor a a ≡ true
same_self a = grind arith

pub alone : (a : Actor) (es : List Entry) → AllBy a es → by_actor a es ≡ es
alone a [] h = refl
alone a (e ∷ es) h = ap (λ b. cond b (e ∷ by_actor a es) (by_actor a es)) (ap (λ v. same_actor v a) h.0 ∙ same_self a) ∙ ap (λ xs. e ∷ xs)
    (alone a es h.1)

pub event_rows : EventRows
event_rows = record {
  parts = parts;
  front = front;
  rises = rises;
  earlier = earlier;
  honest = honest;
  scene = scene;
  turned = λ a k es.
      swapped (λ e. nat_le k e.event) (λ e. same_actor e.actor a) es;
  alone = alone;
}
