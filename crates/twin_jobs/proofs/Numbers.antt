-- The numbers of the events of each side, and how many events each side has.
use Rattle.text_and_lists.proofs.Members.{nat_false, nat_true, none_some, some_is}
use Rattle.job_run.proofs.Firsts.{take_more}
use Rattle.job_run.proofs.Places.{there}
use Rattle.job_spec.specs.Eyes.{number_in}
use Rattle.std.proofs.Common.{Bool, List, Some, ap, arith, cond, false, length, nat_eq, not, refl, slice_get, subst, suc, sym, take, true}
use Rattle.std.proofs.Common.{zero, ℕ, [], ◌++◌, ◌+◌, ◌<◌, ◌∙◌, ◌∷◌, ◌≡◌, ◌≤◌}
use Rattle.std.proofs.lemmas.List.Sums.{sum_by-cons}
use Rattle.std.proofs.lemmas.Option.{slice_get_within}
use Rattle.std.specs.List.{list_any}
use Rattle.std.specs.Prelude.{replicate, sum_by}
use Rattle.twin_jobs.specs.Order.{is_same, other_of, others_in}
use Rattle.twin_jobs.specs.inner.Order.{events_of}
use Rattle.twin_jobs.specs.Worlds.{mine}
use Rattle.twin_script.specs.TwinScripts.{first_count, second_count, sides_in}
use Rattle.twin_script.specs.declared.turns.Side.{Side}
use Rattle.twin_script.specs.declared.turns.Side.TheVariants.{First, Second}
use Rattle.twin_script.specs.declared.turns.TwinTurn.{TwinTurn}

-- ---- the side of an event

-- The numbers that are not a side's, from one event on.
abbrev from : Bool → ℕ → List ℕ → List ℕ
from b m ns = cond b ns (m ∷ ns)

-- A lower number is none of them.
none_below : (side : Side) (m n : ℕ) (sides : List Side) → n < m → list_any (λ k. nat_eq k n) (others_in side m sides) ≡ false
none_below side m n [] below = refl
none_below side m n (s ∷ sides) below =
    let rest = none_below side (m + 1) n sides (omega (arith, below)) in
    elim (is_same side s) as (λ b. list_any (λ k. nat_eq k n) (from b m (others_in side (m + 1) sides)) ≡ false) [
      | true ↦ rest
      | false ↦ rw (nat_false m n (λ e. omega (arith, e, below))) rest
    ]

-- The event at a place is one of them exactly if it is not the side's.
is_among : (side s : Side) (m i : ℕ) (sides : List Side) → slice_get sides i ≡ Some s
    → list_any (λ k. nat_eq k (m + i)) (others_in side m sides) ≡ not (is_same side s)
is_among side s m i [] e = absurd (none_some refl e)
is_among side s m zero (x ∷ sides) e =
    rw (sym (some_is e))
    (elim (is_same side x) as (λ b. list_any (λ k. nat_eq k (m + 0)) (from b m (others_in side (m + 1) sides)) ≡ not b)
    [ true ↦ none_below side (m + 1) (m + 0) sides (omega arith) | false ↦ rw (nat_true m (m + 0) (omega arith)) refl ])
is_among side s m (suc i) (x ∷ sides) e =
    let over : m + 1 + i ≡ m + suc i = omega arith in
    let rest = subst (λ n. list_any (λ k. nat_eq k n) (others_in side (m + 1) sides) ≡ not (is_same side s)) over
    (is_among side s (m + 1) i sides e) in
    elim (is_same side x) as (λ b. list_any (λ k. nat_eq k (m + suc i)) (from b m (others_in side (m + 1) sides)) ≡ not (is_same side s))
    [ true ↦ rest | false ↦ rw (nat_false m (m + suc i) (λ q. omega (arith, q))) rest ]

-- The event is the side's exactly if the order says so.
pub mine_at : (side s : Side) (i : ℕ) (sides : List Side) → slice_get sides i ≡ Some s → mine sides side (i + 1) ≡ is_same side s
mine_at side s i sides e =
    let over : 1 + i ≡ i + 1 = omega arith in
    subst (λ n. mine sides side n ≡ is_same side s) over (ap not (is_among side s 1 i sides e) ∙ elim (is_same side s) as
    (λ b. not (not b) ≡ b) [ true ↦ refl | false ↦ refl ])

same_other : (side s : Side) → is_same (other_of side) s ≡ not (is_same side s)
same_other First First = refl
same_other First Second = refl
same_other Second First = refl
same_other Second Second = refl

pub same_self : (side : Side) → is_same side side ≡ true
same_self First = refl
same_self Second = refl

-- Each event is one side's or the other's.
pub opposite : (side : Side) (n : ℕ) (sides : List Side) → 1 ≤ n → n ≤ length sides → mine sides (other_of side) n ≡ not (mine sides side n)
opposite side zero sides some few = absurd (omega (arith, some))
opposite side (suc i) sides some few =
    let h = there sides i (omega (arith, few)) in
    let over : i + 1 ≡ suc i = omega arith in
    subst (λ n. mine sides (other_of side) n ≡ not (mine sides side n)) over
    (mine_at (other_of side) h.0 i sides h.1 ∙ same_other side h.0 ∙ ap not (sym (mine_at side h.0 i sides h.1)))

-- ---- how many events

-- One more event, if the flag says so.
abbrev more : Bool → ℕ → ℕ
more b n = cond b (n + 1) n

events_more : (side s : Side) (sides : List Side) → events_of side (sides ++ s ∷ []) ≡ cond (is_same side s) (events_of side sides + 1)
    (events_of side sides)
events_more side s [] = refl
events_more side s (x ∷ sides) = ap (more (is_same side x)) (events_more side s sides) ∙ by (is_same side x) (is_same side s)
  where
    by : (b c : Bool) → more b (more c (events_of side sides)) ≡ more c (more b (events_of side sides))
    by true true = refl
    by false true = refl
    by _ false = refl

-- The number of a side's events up to n is that of the first n events of the order.
pub number_front : (side : Side) (n : ℕ) (sides : List Side) → n ≤ length sides
    → number_in (mine sides side) n ≡ events_of side (take n sides)
number_front side zero sides few = refl
number_front side (suc n) sides few =
    let h = there sides n (omega (arith, few)) in
    let over : n + 1 ≡ suc n = omega arith in
    let before : n ≤ length sides = omega (arith, few) in
    ap (λ b. more b (number_in (mine sides side) n)) (ap (mine sides side) (sym over) ∙ mine_at side h.0 n sides h.1) ∙ ap
    (more (is_same side h.0))
    (number_front side n sides before)
    ∙ sym (events_more side h.0 (take n sides)) ∙ ap (events_of side) (sym (take_more sides n h.0 h.1))

front_few : (side : Side) (n : ℕ) (sides : List Side) → events_of side (take n sides) ≤ events_of side sides
front_few side zero sides = omega arith
front_few side (suc n) [] = omega arith
front_few side (suc n) (s ∷ sides) =
    let h = front_few side n sides in
    elim (is_same side s) as (λ b. more b (events_of side (take n sides)) ≤ more b (events_of side sides))
    [ true ↦ omega (arith, h) | false ↦ h ]

-- If the next event is the side's, the side has more events than were played.
pub more_left : (side : Side) (n : ℕ) (sides : List Side) → slice_get sides n ≡ Some side
    → number_in (mine sides side) n < events_of side sides
more_left side n sides e =
    let inside = slice_get_within sides n side e in
    let next : events_of side (take (suc n) sides) ≡ events_of side (take n sides) + 1 =
    ap (events_of side) (take_more sides n side e) ∙ events_more side side (take n sides) ∙ ap (λ b. more b (events_of side (take n sides)))
    (same_self side) in
    omega (arith, next, front_few side (suc n) sides, number_front side n sides (omega (arith, inside)))

-- The first n events are those of the one side and of the other together.
pub all_numbers : (n : ℕ) (sides : List Side) → n ≤ length sides → number_in (mine sides First) n + number_in (mine sides Second) n ≡ n
all_numbers zero sides few = refl
all_numbers (suc n) sides few = by (mine sides First (suc n)) (mine sides Second (suc n)) (opposite First (suc n) sides (omega arith) few)
    (all_numbers n sides (omega (arith, few)))
  where
    by : (b c : Bool) → c ≡ not b → number_in (mine sides First) n + number_in (mine sides Second) n ≡ n
        → more b (number_in (mine sides First) n) + more c (number_in (mine sides Second) n) ≡ suc n
    by true false e h = omega (arith, h)
    by false true e h = omega (arith, h)
    by true true e h = cc
    by false false e h = cc

-- ---- an order

events_append : (side : Side) (a b : List Side) → events_of side (a ++ b) ≡ events_of side a + events_of side b
events_append side [] b = let none : events_of side b ≡ 0 + events_of side b = omega arith in none
events_append side (s ∷ a) b =
    let h = events_append side a b in
    elim (is_same side s) as (λ c. more c (events_of side (a ++ b)) ≡ more c (events_of side a) + events_of side b)
    [ true ↦ omega (arith, h) | false ↦ h ]

events_replicate : (side s : Side) (n : ℕ) → events_of side (replicate n s) ≡ cond (is_same side s) n 0
events_replicate side s zero = elim (is_same side s) as (λ b. ◌≡◌ {A = ℕ} 0 (cond b 0 0)) [ true ↦ refl | false ↦ refl ]
events_replicate side s (suc n) =
    ap (more (is_same side s)) (events_replicate side s n) ∙ elim (is_same side s) as (λ b. more b (cond b n 0) ≡ cond b (suc n) 0)
    [ true ↦ omega arith | false ↦ refl ]

-- How many events of a side one line of the order asks for.
abbrev pub count_of : Side → TwinTurn → ℕ
count_of First = first_count
count_of Second = second_count

counts : (side s : Side) (n : ℕ) → cond (is_same side s) n 0 ≡ count_of side (record { side = s; count = n })
counts First First n = refl
counts First Second n = refl
counts Second First n = refl
counts Second Second n = refl

pub events_asked : (side : Side) (order : List TwinTurn) → events_of side (sides_in order) ≡ sum_by (count_of side) order
events_asked side [] = refl
events_asked side (t ∷ order) =
    events_append side (replicate t.count t.side) (sides_in order)
    ∙ ap (λ n. n + events_of side (sides_in order)) (events_replicate side t.side t.count ∙ counts side t.side t.count)
    ∙ ap (λ n. count_of side t + n) (events_asked side order) ∙ sym (sum_by-cons (count_of side) t order)

pub all_sides : (sides : List Side) → length sides ≡ events_of First sides + events_of Second sides
all_sides [] = refl
all_sides (First ∷ sides) = let h = all_sides sides in omega (arith, h)
all_sides (Second ∷ sides) = let h = all_sides sides in omega (arith, h)
