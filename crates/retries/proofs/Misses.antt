-- The count of the last misses, and whether there is a row of them somewhere.
use Rattle.text_and_lists.proofs.Lists.{get_before, get_left}
use Rattle.text_and_lists.proofs.Members.{true_or_false}
use Rattle.retries.specs.Same.{same_request}
use Rattle.retries.specs.Worn.{IsWorn, answers, streak, trail, was_answered}
use Rattle.s3_types.specs.declared.journal.Entry.{Entry}
use Rattle.s3_types.specs.declared.request.Request.{Request}
use Rattle.std.proofs.Common.{Bool, List, Some, ap, append-nil, arith, cond, false, inl, inr, length, length-append, refl, slice_get, subst}
use Rattle.std.proofs.Common.{suc, sym, true, zero, ℕ, [], ◌++◌, ◌+◌, ◌-◌, ◌<◌, ◌∙◌, ◌∷◌, ◌≡◌, ◌≤◌, ◌⊎◌}
use Rattle.std.proofs.lemmas.Bool.{cases_lt}
use Rattle.std.proofs.lemmas.Option.{slice_get_within}

-- ---- lists of answers

abbrev pub Row : ℕ → List Bool → Type 0
Row r bs = (k : ℕ) × ((i : ℕ) → i ≤ r → slice_get bs (k + i) ≡ Some false)

row_later : (r : ℕ) (b : Bool) (bs : List Bool) → Row r bs → Row r (b ∷ bs)
row_later r b bs h = (h.0 + 1, λ i le. let e : h.0 + 1 + i ≡ suc (h.0 + i) = omega arith in ap (slice_get (b ∷ bs)) e ∙ h.1 i le)

trail_row : (r n : ℕ) (bs : List Bool) → r < trail n bs → Row r bs ⊎ ((i : ℕ) → i + n ≤ r → slice_get bs i ≡ Some false)
trail_row r n [] h = inr (λ i le. absurd (omega arith))
trail_row r n (true ∷ bs) h = elim (trail_row r 0 bs h) [
  | inl w ↦ inl (row_later r true bs w)
  | inr w ↦ let x : Row r bs = (0, λ i le. let e : 0 + i ≡ i = omega arith in ap (slice_get bs) e ∙ w i (omega arith)) in inl
      (row_later r true bs x)
]
trail_row r n (false ∷ bs) h = elim (trail_row r (n + 1) bs h) [
  | inl w ↦ inl (row_later r false bs w)
  | inr w ↦ inr (starts w)
]
  where
    starts : ((i : ℕ) → i + (n + 1) ≤ r → slice_get bs i ≡ Some false) → (i : ℕ) → i + n ≤ r → slice_get (false ∷ bs) i ≡ Some false
    starts h i g = grind arith

pub row_of_trail : (r : ℕ) (bs : List Bool) → r < trail 0 bs → Row r bs
row_of_trail r bs h = elim (trail_row r 0 bs h) [
  | inl w ↦ w
  | inr w ↦ (0, λ i le. let e : 0 + i ≡ i = omega arith in ap (slice_get bs) e ∙ w i (omega arith))
]

all_missed : (n : ℕ) (bs : List Bool) → ((i : ℕ) → i < length bs → slice_get bs i ≡ Some false) → trail n bs ≡ n + length bs
all_missed n [] h = omega arith
all_missed n (b ∷ bs) h =
    let e : b ≡ false = let s : Some b ≡ Some false = h 0 (omega arith) in cc in
    let i : trail (n + 1) bs ≡ (n + 1) + length bs = all_missed (n + 1) bs (λ i le. h (suc i) (omega arith)) in
    let s : trail (cond b 0 (n + 1)) bs ≡ trail (n + 1) bs = ap (λ v. trail (cond v 0 (n + 1)) bs) e in omega arith

missed_from : (n k : ℕ) (bs : List Bool) → ((i : ℕ) → k ≤ i → i < length bs → slice_get bs i ≡ Some false) → length bs ≤ trail n bs + k
missed_from n zero bs h = let e : trail n bs ≡ n + length bs = all_missed n bs (λ i le. h i (omega arith) le) in omega arith
missed_from n (suc k) [] h = omega arith
missed_from n (suc k) (b ∷ bs) h =
    let e : length bs ≤ trail (cond b 0 (n + 1)) bs + k = missed_from (cond b 0 (n + 1)) k bs
    (λ i low le. h (suc i) (omega arith) (omega arith)) in omega arith

pub row_grows : (r : ℕ) (bs : List Bool) (b : Bool) → Row r (bs ++ b ∷ []) → Row r bs ⊎ (r < trail 0 (bs ++ b ∷ []))
row_grows r bs b w =
    let l : length (bs ++ b ∷ []) ≡ length bs + 1 = length-append bs (b ∷ []) in
    let top : w.0 + r < length (bs ++ b ∷ []) = slice_get_within _ _ _ (w.1 r (omega arith)) in
    elim (cases_lt (w.0 + r) (length bs)) [
      | inl low ↦ inl (w.0, λ i le. get_before bs (b ∷ []) (w.0 + i) false (omega arith) (w.1 i le))
      | inr high ↦ let m : length (bs ++ b ∷ []) ≤ trail 0 (bs ++ b ∷ []) + w.0 = missed_from 0 w.0 (bs ++ b ∷ [])
          (λ i low le. spot i low le l top high) in inr (omega arith)
    ]
  where
    spot : (i : ℕ) → w.0 ≤ i → i < length (bs ++ b ∷ []) → length (bs ++ b ∷ []) ≡ length bs + 1 → w.0 + r < length (bs ++ b ∷ [])
        → length bs ≤ w.0 + r → slice_get (bs ++ b ∷ []) i ≡ Some false
    spot i low le l top high = let e : w.0 + (i - w.0) ≡ i = omega arith in ap (slice_get (bs ++ b ∷ [])) (sym e) ∙ w.1 (i - w.0)
        (omega arith)

trail_append : (n : ℕ) (bs cs : List Bool) → trail n (bs ++ cs) ≡ trail (trail n bs) cs
trail_append n [] cs = refl
trail_append n (b ∷ bs) cs = trail_append (cond b 0 (n + 1)) bs cs

-- ---- lists of entries

answers_append : (q : Request) (xs ys : List Entry) → answers q (xs ++ ys) ≡ answers q xs ++ answers q ys
answers_append q [] ys = refl
answers_append q (x ∷ xs) ys = elim (true_or_false (same_request q x.request)) [
  | inl h ↦ rw (h, answers_append q xs ys) refl
  | inr h ↦ rw (h, answers_append q xs ys) refl
]

answers_same : (q : Request) (es : List Entry) (e : Entry) → same_request q e.request ≡ true
    → answers q (es ++ e ∷ []) ≡ answers q es ++ was_answered e.outcome ∷ []
answers_same q es e h = answers_append q es (e ∷ []) ∙ ap (λ b. answers q es ++ cond b (was_answered e.outcome ∷ []) []) h

answers_other : (q : Request) (es : List Entry) (e : Entry) → same_request q e.request ≡ false → answers q (es ++ e ∷ []) ≡ answers q es
answers_other q es e h = answers_append q es (e ∷ []) ∙ ap (λ b. answers q es ++ cond b (was_answered e.outcome ∷ []) []) h ∙ append-nil
    (answers q es)

pub streak_same : (q : Request) (es : List Entry) (e : Entry) → same_request q e.request ≡ true
    → streak q (es ++ e ∷ []) ≡ cond (was_answered e.outcome) 0 (streak q es + 1)
streak_same q es e h = ap (trail 0) (answers_same q es e h) ∙ trail_append 0 (answers q es) (was_answered e.outcome ∷ [])

pub streak_other : (q : Request) (es : List Entry) (e : Entry) → same_request q e.request ≡ false → streak q (es ++ e ∷ []) ≡ streak q es
streak_other q es e h = ap (trail 0) (answers_other q es e h)

pub worn_now : (r : ℕ) (q : Request) (es : List Entry) → r < streak q es → IsWorn r q es
worn_now r q es h = row_of_trail r (answers q es) h

pub worn_more : (r : ℕ) (q : Request) (es fs : List Entry) → IsWorn r q es → IsWorn r q (es ++ fs)
worn_more r q es fs w = (
  w.0,
  λ i le. ap (λ v. slice_get v (w.0 + i)) (answers_append q es fs) ∙ get_left (answers q es) (answers q fs)
      (w.0 + i) false (w.1 i le),
)

-- A send can wear out only its own request.
pub worn_grows : (r : ℕ) (q : Request) (es : List Entry) (e : Entry) → IsWorn r q (es ++ e ∷ []) → IsWorn r q es
    ⊎ ((same_request q e.request ≡ true) × (r < streak q (es ++ e ∷ [])))
worn_grows r q es e w = elim (true_or_false (same_request q e.request)) [
  | inl h ↦ let R : List Bool → Type 0 = λ v. Row r v in
      elim (row_grows r (answers q es) (was_answered e.outcome) (subst R (answers_same q es e h) w)) [
        | inl i ↦ inl i
        | inr i ↦ let t : trail 0 (answers q es ++ was_answered e.outcome ∷ []) ≡ streak q (es ++ e ∷ []) = ap (trail 0)
            (sym (answers_same q es e h)) in inr (h, omega arith)
      ]
  | inr h ↦ let R : List Bool → Type 0 = λ v. Row r v in inl (subst R (answers_other q es e h) w)
]
