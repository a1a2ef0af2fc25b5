-- The tests at one path return what they should.
use Rattle.audit_claims.specs.Claims.{Tags}
use Rattle.audit_claims.specs.Etags.{tags_eq}
use Rattle.text_and_lists.proofs.Members.{text_is, text_true}
use Rattle.judging.proofs.Owned.{either}
use Rattle.soundness.specs.Claims.{Claim, is_kept, is_replaced}
use Rattle.soundness.specs.Moments.{Fits, Shown, Whole}
use Rattle.std.proofs.Common.{Bool, List, None, Option, Some, ap, false, inl, inr, refl, sym, true, ℕ, ◌||◌, ◌∙◌, ◌≡◌, ◌≢◌, ◌⊎◌}
use Rattle.std.proofs.lemmas.Bool.{false≢true, true≢false}
use Rattle.std.specs.Cmp.Lexicographic.{pointwise_decides}
use Rattle.std.specs.Prelude.{is_some, not, ◌&&◌}
use Rattle.audit_judge.specs.inner.Tests.{differs, fits_by, same_tags, suits_part, suits_whole, whole_by}

-- ---- tests

pub and_parts : (a b : Bool) → (a && b) ≡ true → (a ≡ true) × (b ≡ true)
and_parts true b h = (refl, h)
and_parts false b h = absurd (false≢true h)

pub and_both : (a b : Bool) → a ≡ true → b ≡ true → (a && b) ≡ true
and_both a b h g = rw h g

pub or_cases : (a b : Bool) → (a || b) ≡ true → (a ≡ true) ⊎ (b ≡ true)
or_cases true b h = inl refl
or_cases false b h = inr h

pub or_left : (a b : Bool) → a ≡ true → (a || b) ≡ true
or_left a b h = rw h refl

pub or_right : (a b : Bool) → b ≡ true → (a || b) ≡ true
or_right true b h = refl
or_right false b h = h

pub neither_first : (a b : Bool) → (a || b) ≡ false → a ≡ false
neither_first true b h = absurd (true≢false h)
neither_first false b h = refl

pub neither_second : (a b : Bool) → (a || b) ≡ false → b ≡ false
neither_second true b h = absurd (true≢false h)
neither_second false b h = h

pub not_is : (a : Bool) → not a ≡ true → a ≡ false
not_is true h = absurd (false≢true h)
not_is false h = refl

pub is_not : (a : Bool) → a ≡ false → not a ≡ true
is_not a h = rw h refl

pub is_none : {X : Type 0} (o : Option X) → is_some o ≡ false → o ≡ None
is_none None h = refl
is_none (Some x) h = absurd (true≢false h)

pub some_of : {X : Type 0} (o : Option X) → is_some o ≡ true → (x : X) × (o ≡ Some x)
some_of None h = absurd (false≢true h)
some_of (Some x) h = (x, refl)

-- ---- the same tags

pub tags_is : (x y : Tags) → tags_eq x y ≡ true → x ≡ y
tags_is x y = (pointwise_decides (λ a b. (text_is a b, text_true a b)) x y).0

pub is_tags : (x y : Tags) → x ≡ y → tags_eq x y ≡ true
is_tags x y = (pointwise_decides (λ a b. (text_is a b, text_true a b)) x y).1

pub same_is : (a b : Option Tags) → same_tags a b ≡ true → a ≡ b
same_is None None h = refl
same_is None (Some y) h = absurd (false≢true h)
same_is (Some x) None h = absurd (false≢true h)
same_is (Some x) (Some y) h = ap (λ (z : Tags). Some z) (tags_is x y h)

pub is_same : (a b : Option Tags) → a ≡ b → same_tags a b ≡ true
is_same None None e = refl
is_same None (Some y) e = absurd (cc e)
is_same (Some x) None e = absurd (cc e)
is_same (Some x) (Some y) e = is_tags x y (cc e)

pub same_or_not : (a b : Option Tags) → (a ≡ b) ⊎ (a ≢ b)
same_or_not a b = elim (either (same_tags a b)) [
  | inl h ↦ inl (same_is a b h)
  | inr h ↦ inr (λ e. true≢false (sym (is_same a b e) ∙ h))
]

pub differs_is : (opening shown : Shown Tags) (p : List ℕ) → differs opening shown p ≡ true → shown p ≢ opening p
differs_is opening shown p h e = true≢false (sym (is_same (shown p) (opening p) e) ∙ not_is (same_tags (shown p) (opening p)) h)

pub differs_not : (opening shown : Shown Tags) (p : List ℕ) → differs opening shown p ≡ false → shown p ≡ opening p
differs_not opening shown p h = elim (either (same_tags (shown p) (opening p))) [
  | inl e ↦ same_is (shown p) (opening p) e
  | inr n ↦ absurd (true≢false (sym (is_not (same_tags (shown p) (opening p)) n) ∙ h))
]

-- ---- fits, and whole

pub fits_is : (kept : Bool) (o f v : Option Tags) → fits_by kept o f v ≡ true → Fits kept o f v
fits_is kept o None v h = by (or_cases (same_tags v o) (not (is_some v) && not (kept && is_some o)) h)
  where
    by : (same_tags v o ≡ true) ⊎ ((not (is_some v) && not (kept && is_some o)) ≡ true) → Fits kept o None v
    by (inl s) = let e = same_is v o s in record { only = λ x i. inl (sym e ∙ i); stays = λ x i k n. e ∙ i }
    by (inr g) =
        let both = and_parts (not (is_some v)) (not (kept && is_some o)) g in
        let none = is_none v (not_is (is_some v) both.0) in
        record {
          only = λ x i. absurd (cc (sym none, i));
          stays = λ x i k n. absurd (true≢false (sym (and_both kept (is_some o) k (ap is_some i)) ∙ not_is (kept && is_some o) both.1));
        }
fits_is kept o (Some y) v h = by (or_cases (same_tags v o) (not (is_some v) || same_tags v (Some y)) h)
  where
    inner : (not (is_some v) ≡ true) ⊎ (same_tags v (Some y) ≡ true) → (x : Tags) → v ≡ Some x → Some y ≡ Some x
    inner (inl n) x i = absurd (cc (sym (is_none v (not_is (is_some v) n)), i))
    inner (inr s) x i = sym (same_is v (Some y) s) ∙ i

    by : (same_tags v o ≡ true) ⊎ ((not (is_some v) || same_tags v (Some y)) ≡ true) → Fits kept o (Some y) v
    by (inl s) = let e = same_is v o s in record { only = λ x i. inl (sym e ∙ i); stays = λ x i k n. e ∙ i }
    by (inr g) = record {
      only = λ x i. inr (inner (or_cases (not (is_some v)) (same_tags v (Some y)) g) x i);
      stays = λ x i k n. absurd (cc n);
    }

pub is_fits : (kept : Bool) (o f v : Option Tags) → Fits kept o f v → fits_by kept o f v ≡ true
is_fits kept o None None h = by o h
  where
    by : (o : Option Tags) → Fits kept o None None → fits_by kept o None None ≡ true
    by None h = refl
    by (Some x) h = elim (either kept) [
      | inl k ↦ absurd (cc (h.stays x refl k refl))
      | inr k ↦ rw k refl
    ]
is_fits kept o None (Some x) h = or_left (same_tags (Some x) o) (not (is_some (Some x)) && not (kept && is_some o))
    (is_same (Some x) o (sym (by (h.only x refl))))
  where
    by : (o ≡ Some x) ⊎ (None ≡ Some x) → o ≡ Some x
    by (inl e) = e
    by (inr e) = absurd (cc e)
is_fits kept o (Some y) None h = or_right (same_tags None o) true refl
is_fits kept o (Some y) (Some x) h = by (h.only x refl)
  where
    by : (o ≡ Some x) ⊎ (Some y ≡ Some x) → fits_by kept o (Some y) (Some x) ≡ true
    by (inl e) = or_left (same_tags (Some x) o) (not (is_some (Some x)) || same_tags (Some x) (Some y)) (is_same (Some x) o (sym e))
    by (inr e) = or_right (same_tags (Some x) o) (not (is_some (Some x)) || same_tags (Some x) (Some y))
        (or_right (not (is_some (Some x))) (same_tags (Some x) (Some y)) (is_same (Some x) (Some y) (sym e)))

pub whole_is : (kept replaced : Bool) (o f v : Option Tags) → whole_by kept replaced o f v ≡ true → Whole kept replaced o f v
whole_is kept replaced o (Some y) v h = record {
  written = λ x i. same_is v (Some y) h ∙ i;
  only = λ n. absurd (cc n);
  stays = λ n. absurd (cc n);
  goes = λ n. absurd (cc n);
}
whole_is kept replaced None None v h = record {
  written = λ x i. absurd (cc i);
  only = λ n x i. absurd (cc (sym (is_none v (not_is (is_some v) h)), i));
  stays = λ n x i. absurd (cc i);
  goes = λ n x i. absurd (cc i);
}
whole_is kept replaced (Some x) None None h = record {
  written = λ z i. absurd (cc i);
  only = λ n z i. absurd (cc i);
  stays = λ n z i k. absurd (true≢false (sym k ∙ not_is kept h));
  goes = λ n z i r. refl;
}
whole_is kept replaced (Some x) None (Some y) h =
    let both = and_parts (tags_eq y x) (not replaced) h in
    let e : y ≡ x = tags_is y x both.0 in
    record {
      written = λ z i. absurd (cc i);
      only = λ n z i. ap (λ (w : Tags). Some w) (sym e) ∙ i;
      stays = λ n z i k. ap (λ (w : Tags). Some w) e ∙ i;
      goes = λ n z i r. absurd (true≢false (sym r ∙ not_is replaced both.1));
    }

pub is_whole : (kept replaced : Bool) (o f v : Option Tags) → Whole kept replaced o f v → whole_by kept replaced o f v ≡ true
is_whole kept replaced o (Some y) v h = is_same v (Some y) (h.written y refl)
is_whole kept replaced None None None h = refl
is_whole kept replaced None None (Some y) h = absurd (cc (h.only refl y refl))
is_whole kept replaced (Some x) None None h = elim (either kept) [
  | inl k ↦ absurd (cc (h.stays refl x refl k))
  | inr k ↦ is_not kept k
]
is_whole kept replaced (Some x) None (Some y) h = elim (either replaced) [
  | inl r ↦ absurd (cc (h.goes refl x refl r))
  | inr r ↦ and_both (tags_eq y x) (not replaced) (is_tags y x (cc (h.only refl y refl))) (is_not replaced r)
]

-- ---- the tests of candidates

module _ (w : Claim Tags) (opening shown : Shown Tags) (p : List ℕ) (f : Option Tags) where
  pub part_is : suits_part w opening shown p f ≡ true → Fits (is_kept w p) (opening p) f (shown p)
  part_is = fits_is (is_kept w p) (opening p) f (shown p)

  pub part_not : suits_part w opening shown p f ≡ false → Fits (is_kept w p) (opening p) f (shown p) → ⊥
  part_not h fits = true≢false (sym (is_fits (is_kept w p) (opening p) f (shown p) fits) ∙ h)

  pub whole_is_at : suits_whole w opening shown p f ≡ true → Whole (is_kept w p) (is_replaced w p) (opening p) f (shown p)
  whole_is_at = whole_is (is_kept w p) (is_replaced w p) (opening p) f (shown p)

  pub whole_not_at : suits_whole w opening shown p f ≡ false → Whole (is_kept w p) (is_replaced w p) (opening p) f (shown p) → ⊥
  whole_not_at h whole = true≢false (sym (is_whole (is_kept w p) (is_replaced w p) (opening p) f (shown p) whole) ∙ h)
