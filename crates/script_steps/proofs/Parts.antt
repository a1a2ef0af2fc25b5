-- Parts of a journal to which one entry is added.
use Rattle.text_and_lists.proofs.Members.{false_true, nat_false, none_some, some_is, true_or_false}
use Rattle.text_and_lists.proofs.Naturals.{above_so, at_most_so, below_so, not_below}
use Rattle.job_invariant.specs.Told.{strange_entry}
use Rattle.job_spec.specs.States.{same_actor}
use Rattle.job_spec.specs.Turns.{AllFrom, AllUpTo, IsRising, before, by_actor, is_own, of_event, own, since, until}
use Rattle.s3_types.specs.Answer.{answer}
use Rattle.s3_types.specs.Moment.{AreHonest, IsHonestOutcome, after_all, effect}
use Rattle.s3_types.specs.Store.{Scene}
use Rattle.s3_types.specs.declared.journal.Entry.{Entry}
use Rattle.s3_types.specs.declared.journal.Outcome.{Outcome}
use Rattle.s3_types.specs.declared.request.Actor.{Actor}
use Rattle.s3_types.specs.declared.request.Actor.TheVariants.{Shell}
use Rattle.s3_types.specs.declared.request.Request.{Request}
use Rattle.std.proofs.Common.{Bool, List, Some, ap, append-nil, arith, cond, false, inl, inr, length, nat_eq, nat_le, nat_lt, refl}
use Rattle.std.proofs.Common.{slice_get, suc, take, true, zero, ℕ, [], ◌&&◌, ◌++◌, ◌+◌, ◌<◌, ◌∙◌, ◌∷◌, ◌≡◌, ◌≤◌, ◌⊎◌}
use Rattle.std.proofs.Math.Bool.{and-false}
use Rattle.std.proofs.lemmas.List.{take_all}
use Rattle.std.proofs.lemmas.List.Elements.{filter-append}
use Rattle.std.specs.List.{filter}

-- ---- any lists

pub get_last : {X : Type 0} (xs : List X) (x : X) (i : ℕ) (y : X) → slice_get (xs ++ x ∷ []) i ≡ Some y → (slice_get xs i ≡ Some y)
    ⊎ ((i ≡ length xs) × (x ≡ y))
get_last [] x zero y h = inr (refl, some_is h)
get_last [] x (suc i) y h = absurd (none_some refl h)
get_last (z ∷ xs) x zero y h = inl h
get_last (z ∷ xs) x (suc i) y h = elim (get_last xs x i y h) [ inl g ↦ inl g | inr g ↦ inr (ap (λ (n : ℕ). suc n) g.0, g.1) ]

pub take_whole : {X : Type 0} (xs : List X) → take (length xs) xs ≡ xs
take_whole xs = let l : length xs ≤ length xs = omega arith in take_all (length xs) xs l

kept : (p : Entry → Bool) (es : List Entry) (e : Entry) → p e ≡ true → filter p (es ++ e ∷ []) ≡ filter p es ++ e ∷ []
kept p es e h = filter-append p es (e ∷ []) ∙ ap (λ b. filter p es ++ cond b (e ∷ []) []) h

left_out : (p : Entry → Bool) (es : List Entry) (e : Entry) → p e ≡ false → filter p (es ++ e ∷ []) ≡ filter p es
left_out p es e h = filter-append p es (e ∷ []) ∙ ap (λ b. filter p es ++ cond b (e ∷ []) []) h ∙ append-nil (filter p es)

-- ---- numbers of events

pub up_to_more : (n m : ℕ) (es : List Entry) → n ≤ m → AllUpTo n es → AllUpTo m es
up_to_more n m [] h all = tt
up_to_more n m (e ∷ es) h all = let one : e.event ≤ n = all.0 in (omega arith, up_to_more n m es h all.1)

pub up_to_last : (n : ℕ) (es : List Entry) (e : Entry) → AllUpTo n es → e.event ≤ n → AllUpTo n (es ++ e ∷ [])
up_to_last n [] e all one = (one, tt)
up_to_last n (x ∷ es) e all one = (all.0, up_to_last n es e all.1 one)

pub up_to_part : (n : ℕ) (p : Entry → Bool) (es : List Entry) → AllUpTo n es → AllUpTo n (filter p es)
up_to_part n p [] all = tt
up_to_part n p (e ∷ es) all = elim (p e) as (λ b. AllUpTo n (cond b (e ∷ filter p es) (filter p es)))
    [ true ↦ (all.0, up_to_part n p es all.1) | false ↦ up_to_part n p es all.1 ]

pub from_last : (n : ℕ) (es : List Entry) (e : Entry) → AllFrom n es → n ≤ e.event → AllFrom n (es ++ e ∷ [])
from_last n [] e h one = (one, tt)
from_last n (x ∷ es) e h one = (h.0, from_last n es e h.1 one)

pub from_part : (n : ℕ) (p : Entry → Bool) (es : List Entry) → AllFrom n es → AllFrom n (filter p es)
from_part n p [] all = tt
from_part n p (e ∷ es) all = elim (p e) as (λ b. AllFrom n (cond b (e ∷ filter p es) (filter p es)))
    [ true ↦ (all.0, from_part n p es all.1) | false ↦ from_part n p es all.1 ]

-- One more entry of the job's own.
pub from_own : (n : ℕ) (es : List Entry) (e : Entry) → AllFrom n (own es) → n ≤ e.event → AllFrom n (own (es ++ e ∷ []))
from_own n es e h g = grind (arith, kept, from_last, left_out)

pub rising_last : (n : ℕ) (es : List Entry) (e : Entry) → AllUpTo n es → n ≤ e.event → IsRising es → IsRising (es ++ e ∷ [])
rising_last n [] e all late h = (tt, tt)
rising_last n (x ∷ es) e all late h = let one : x.event ≤ n = all.0 in (
  from_last x.event es e h.0 (omega arith),
  rising_last n es e all.1
      late h.1,
)

-- ---- parts by events

-- A test that every entry passes, and one that none passes.
all_taken : (p : Entry → Bool) (n : ℕ) (es : List Entry) → ((e : Entry) → e.event ≤ n → p e ≡ true) → AllUpTo n es → filter p es ≡ es
all_taken p n [] h all = refl
all_taken p n (e ∷ es) h all = ap (λ b. cond b (e ∷ filter p es) (filter p es)) (h e all.0) ∙ ap (λ z. e ∷ z) (all_taken p n es h all.1)

none_taken : (p : Entry → Bool) (n : ℕ) (es : List Entry) → ((e : Entry) → e.event ≤ n → p e ≡ false) → AllUpTo n es → filter p es ≡ []
none_taken p n [] h all = refl
none_taken p n (e ∷ es) h all = ap (λ b. cond b (e ∷ filter p es) (filter p es)) (h e all.0) ∙ none_taken p n es h all.1

next_more : (m n : ℕ) → m ≤ n → m < n + 1
next_more m n l = omega arith

pub until_all : (n : ℕ) (es : List Entry) → AllUpTo n es → until n es ≡ es
until_all n es = all_taken (λ e. nat_le e.event n) n es (λ e l. at_most_so e.event n l)

pub before_all : (n : ℕ) (es : List Entry) → AllUpTo n es → before (n + 1) es ≡ es
before_all n es = all_taken (λ e. nat_lt e.event (n + 1)) n es (λ e l. below_so e.event (n + 1) (next_more e.event n l))

pub since_none : (n : ℕ) (es : List Entry) → AllUpTo n es → since (n + 1) es ≡ []
since_none n es = none_taken (λ e. nat_le (n + 1) e.event) n es (λ e l. above_so (n + 1) e.event (next_more e.event n l))

pub event_none : (n : ℕ) (es : List Entry) → AllUpTo n es → of_event (n + 1) es ≡ []
event_none n es =
    none_taken (λ e. is_own e.actor && nat_eq e.event (n + 1)) n es (λ e l. ap (λ b. is_own e.actor && b)
    (nat_false e.event (n + 1) (λ is. absurd (omega (arith, is, l)))) ∙ and-false (is_own e.actor))

pub before_late : (k : ℕ) (es : List Entry) (e : Entry) → k ≤ e.event → before k (es ++ e ∷ []) ≡ before k es
before_late k es e h = left_out (λ x. nat_lt x.event k) es e (not_below e.event k h)

pub since_late : (k : ℕ) (es : List Entry) (e : Entry) → k ≤ e.event → since k (es ++ e ∷ []) ≡ since k es ++ e ∷ []
since_late k es e h = kept (λ x. nat_le k x.event) es e (at_most_so k e.event h)

pub until_late : (k : ℕ) (es : List Entry) (e : Entry) → k < e.event → until k (es ++ e ∷ []) ≡ until k es
until_late k es e h = left_out (λ x. nat_le x.event k) es e (above_so e.event k h)

-- One more entry is among them or is not.
pub until_either : (k : ℕ) (es : List Entry) (e : Entry) → (until k (es ++ e ∷ []) ≡ until k es)
    ⊎ (until k (es ++ e ∷ []) ≡ until k es ++ e ∷ [])
until_either k es e = elim (true_or_false (nat_le e.event k)) [
  | inl is ↦ inr (kept (λ x. nat_le x.event k) es e is)
  | inr is ↦ inl
      (left_out (λ x. nat_le x.event k) es e is)
]

-- ---- parts by actors

pub by_itself : (a : Actor) (es : List Entry) (e : Entry) → same_actor e.actor a ≡ true
    → by_actor a (es ++ e ∷ []) ≡ by_actor a es ++ e ∷ []
by_itself a es e h = kept (λ x. same_actor x.actor a) es e h

pub by_another : (a : Actor) (es : List Entry) (e : Entry) → same_actor e.actor a ≡ false → by_actor a (es ++ e ∷ []) ≡ by_actor a es
by_another a es e h = left_out (λ x. same_actor x.actor a) es e h

-- An actor of the job, and a stranger's entry.
pub by_own : (a : Actor) → is_own a ≡ true → (es : List Entry) (n : ℕ) (r : Request) (o : Outcome)
    → by_actor a (es ++ strange_entry n r o ∷ []) ≡ by_actor a es
by_own Shell own es n r o = absurd (false_true refl own)
by_own a own es n r o = by_another a es (strange_entry n r o) refl

pub event_own : (k : ℕ) (es : List Entry) (n : ℕ) (r : Request) (o : Outcome) → of_event k (es ++ strange_entry n r o ∷ []) ≡ of_event k es
event_own k es n r o = left_out (λ e. is_own e.actor && nat_eq e.event k) es (strange_entry n r o) refl

pub own_own : (es : List Entry) (n : ℕ) (r : Request) (o : Outcome) → own (es ++ strange_entry n r o ∷ []) ≡ own es
own_own es n r o = left_out (λ e. is_own e.actor) es (strange_entry n r o) refl

-- ---- answers

pub honest_last : (s : Scene) (es : List Entry) (e : Entry) → AreHonest s es → IsHonestOutcome e.outcome (answer (after_all s es) e.request)
    → AreHonest s (es ++ e ∷ [])
honest_last s [] e h one = (one, tt)
honest_last s (x ∷ es) e h one = (h.0, honest_last (effect s x.request x.outcome) es e h.1 one)
