-- A step of a world of two jobs.
use Rattle.durable_job.specs.Moves.{Stepped}
use Rattle.durable_job.specs.inner.Moves.{TwinsStay, turns_left}
use Rattle.std.proofs.Common.{Bool, None, Option, Some, ap, arith, false, inl, inr, is_some, length, length-append, refl, slice_get, subst}
use Rattle.std.proofs.Common.{sym, ℕ, [], ◌+◌, ◌-◌, ◌<◌, ◌∙◌, ◌∷◌, ◌≡◌}
use Rattle.std.proofs.lemmas.Option.{slice_get_cases, slice_get_within}
use Rattle.twin_jobs.specs.Worlds.{FoundNone, JobRun, Played, Run, Turned, played}
use Rattle.twin_script.specs.declared.turns.Side.{Side}
use Rattle.twin_script.specs.declared.turns.Side.TheVariants.{First, Second}

-- Nothing changed.
pub self_stays : (r : Run) → TwinsStay r r
self_stays r = record { first = refl; second = refl; sides = refl; count = refl }

-- ---- an event was played

more_played : (r s : Run) (side : Side) → Played r s side → played s ≡ played r + 1
more_played r s First p =
    let ends : length s.first.ends ≡ length r.first.ends + 1 = ap length p.ends ∙ length-append r.first.ends (p.end ∷ []) in
    let others : length s.second.ends ≡ length r.second.ends = ap (λ (j : JobRun). length j.ends) p.other in
    let more : length s.first.ends + length s.second.ends ≡ length r.first.ends + length r.second.ends + 1 = omega arith in
    more
more_played r s Second p =
    let ends : length s.second.ends ≡ length r.second.ends + 1 = ap length p.ends ∙ length-append r.second.ends (p.end ∷ []) in
    let others : length s.first.ends ≡ length r.first.ends = ap (λ (j : JobRun). length j.ends) p.other in
    let more : length s.first.ends + length s.second.ends ≡ length r.first.ends + length r.second.ends + 1 = omega arith in
    more

first_script : (r s : Run) (side : Side) → Played r s side → s.first.script ≡ r.first.script
first_script r s First p = p.script
first_script r s Second p = ap (λ (j : JobRun). j.script) p.other

second_script : (r s : Run) (side : Side) → Played r s side → s.second.script ≡ r.second.script
second_script r s First p = ap (λ (j : JobRun). j.script) p.other
second_script r s Second p = p.script

-- One more event has its end, and one less is left.
less_by_one : (all all_then ended ended_then : ℕ) → ended_then ≡ ended + 1 → all_then ≡ all → ended < all
    → all - ended ≡ (all_then - ended_then) + 1
less_by_one all all_then ended ended_then more same few = omega arith

same_sum : (ended ended_then left left_then : ℕ) → ended_then ≡ ended + 1 → left ≡ left_then + 1 → ended_then + left_then ≡ ended + left
same_sum ended ended_then left left_then more less = omega arith

module _ (r s : Run) (side : Side) (p : Played r s side) where
  one_less : turns_left r ≡ turns_left s + 1
  one_less = less_by_one (length r.sides) (length s.sides) (played r) (played s) (more_played r s side p) (ap length p.sides)
      (slice_get_within r.sides (played r) side p.next)

  played_stays : TwinsStay r s
  played_stays = record {
    first = first_script r s side p;
    second = second_script r s side p;
    sides = p.sides;
    count = same_sum (played r) (played s) (turns_left r) (turns_left s) (more_played r s side p) one_less;
  }

-- ---- a turn

none_left : (ended all : ℕ) → ended ≡ all → all - ended ≡ 0
none_left ended all same = omega arith

pub turn_opening : (r s : Run) (turned : Option Side) → Turned r s turned → s.opening ≡ r.opening
turn_opening r s (Some side) p = p.opening
turn_opening r s None h = ap (λ (x : Run). x.opening) h.0

pub turn_stays : (r s : Run) (turned : Option Side) → Turned r s turned → TwinsStay r s
turn_stays r s (Some side) p = played_stays r s side p
turn_stays r s None h = subst (TwinsStay r) (sym h.0) (self_stays r)

stepped_so : (r s : Run) (turned : Option Side) → Turned r s turned → Stepped {M = Run} (λ x. x.journal) turns_left r s (is_some turned)
stepped_so r s (Some side) p = (p.more.0, record { journal = p.more.1; number = played r + 1; event = p.more.2 }, one_less r s side p)
stepped_so r s None h = (none_left (played r) (length r.sides) h.1, h.0)

pub turn_steps : (r s : Run) (turned : Option Side) (more : Bool) → more ≡ is_some turned → Turned r s turned
    → Stepped {M = Run} (λ x. x.journal) turns_left r s more
turn_steps r s turned more is h = subst (Stepped {M = Run} (λ x. x.journal) turns_left r s) (sym is) (stepped_so r s turned h)

-- No turn is next.
pub none_next : (r : Run) → slice_get r.sides (played r) ≡ None → turns_left r ≡ 0
none_next r none =
    let cases = slice_get_cases r.sides (played r) in
    elim cases.1 [
      | inl h ↦ let bad : Some h.0 ≡ None = sym h.2 ∙ none in absurd (cc)
      | inr h ↦ let past : turns_left r ≡ 0 = omega (arith, h.0) in past
    ]

-- ---- memory ran out before the turn

module _ (r s : Run) (none : FoundNone r s) where
  pub none_opening : s.opening ≡ r.opening
  none_opening = ap (λ (x : Run). x.opening) none.is

  pub none_sent : s.journal ≡ r.journal
  none_sent = ap (λ (x : Run). x.journal) none.is

  pub none_stays : TwinsStay r s
  none_stays = subst (TwinsStay r) (sym none.is) (record { first = refl; second = refl; sides = refl; count = refl })

  -- Then a turn is left.
  pub none_short : (side : Side) → slice_get r.sides (played r) ≡ Some side → 0 < turns_left s
  none_short side next =
      let few : played r < length r.sides = slice_get_within r.sides (played r) side next in
      let some : 0 < turns_left r = omega arith in
      subst (λ (x : Run). 0 < turns_left x) (sym none.is) some
