-- Which texts there are decides their ordered list.
use Rattle.text_and_lists.proofs.Members.{text_exact}
use Rattle.text_and_lists.specs.Members.{IsIn}
use Rattle.text_and_lists.specs.Order.{text_cmp, text_total}
use Rattle.job_protocol.specs.Outputs.{ordered}
use Rattle.std.proofs.Common.{List, ap, inl, inr, refl, subst, sym, ℕ, [], ◌∙◌, ◌∷◌, ◌≡◌, ◌⊎◌}
use Rattle.std.specs.BTreeSet.{insert_key}
use Rattle.std.specs.Ordering.{match_ordering, ordering_reverse}
use Rattle.std.specs.declared.cmp.Ordering.{Ordering}
use Rattle.std.specs.declared.cmp.Ordering.TheVariants.{Equal, Greater, Less}

abbrev Rises : List (List ℕ) → Type 0
Rises [] = Unit {0}
Rises (x ∷ xs) = ((y : List ℕ) → IsIn y xs → text_cmp x y ≡ Less) × Rises xs

turned : (x y : List ℕ) → text_cmp x y ≡ Greater → text_cmp y x ≡ Less
turned x y e = text_total.antisymm y x ∙ ap ordering_reverse e

not_self : (x : List ℕ) → text_cmp x x ≡ Less → ⊥
not_self x e = (elim (text_cmp x x) as (λ o. o ≡ Less → o ≡ ordering_reverse o → ⊥) [ Less ↦ λ e g. cc | _ ↦ λ e g. cc ]) e
    (text_total.antisymm x x)

-- ---- one more in its place

inserted : (p : List ℕ) (xs : List (List ℕ)) (k : List ℕ) → (p ≡ k) ⊎ IsIn p xs → IsIn p (insert_key text_cmp xs k)
inserted p [] k (inl e) = inl e
inserted p [] k (inr i) = absurd i
inserted p (x ∷ xs) k h = by (text_cmp k x) refl h (inserted p xs k)
  where
    by : (o : Ordering) → text_cmp k x ≡ o → (p ≡ k) ⊎ ((p ≡ x) ⊎ IsIn p xs) → ((p ≡ k) ⊎ IsIn p xs → IsIn p (insert_key text_cmp xs k))
        → IsIn p (match_ordering o (k ∷ x ∷ xs) (x ∷ xs) (x ∷ insert_key text_cmp xs k))
    by Less e h later = h
    by Equal e (inl is) later = inl (is ∙ text_exact k x e)
    by Equal e (inr i) later = i
    by Greater e (inl is) later = inr (later (inl is))
    by Greater e (inr (inl is)) later = inl is
    by Greater e (inr (inr i)) later = inr (later (inr i))

from_insert : (p : List ℕ) (xs : List (List ℕ)) (k : List ℕ) → IsIn p (insert_key text_cmp xs k) → (p ≡ k) ⊎ IsIn p xs
from_insert p [] k h = h
from_insert p (x ∷ xs) k h = by (text_cmp k x) h (from_insert p xs k)
  where
    by : (o : Ordering) → IsIn p (match_ordering o (k ∷ x ∷ xs) (x ∷ xs) (x ∷ insert_key text_cmp xs k))
        → (IsIn p (insert_key text_cmp xs k) → (p ≡ k) ⊎ IsIn p xs) → (p ≡ k) ⊎ ((p ≡ x) ⊎ IsIn p xs)
    by Less h later = h
    by Equal h later = inr h
    by Greater (inl e) later = inr (inl e)
    by Greater (inr i) later = elim (later i) [ inl e ↦ inl e | inr m ↦ inr (inr m) ]

insert_rises : (xs : List (List ℕ)) (k : List ℕ) → Rises xs → Rises (insert_key text_cmp xs k)
insert_rises [] k r = (λ y h. absurd h, tt)
insert_rises (x ∷ xs) k r = by (text_cmp k x) refl r (insert_rises xs k)
  where
    by : (o : Ordering) → text_cmp k x ≡ o → Rises (x ∷ xs) → (Rises xs → Rises (insert_key text_cmp xs k))
        → Rises (match_ordering o (k ∷ x ∷ xs) (x ∷ xs) (x ∷ insert_key text_cmp xs k))
    by Less e r later = (
      λ y h. elim h [ inl i ↦ subst (λ z. text_cmp k z ≡ Less) (sym i) e | inr i ↦ text_total.trans k x y e (r.0 y i) ],
      r,
    )
    by Equal e r later = r
    by Greater e r later = (
      λ y h. elim (from_insert y xs k h) [
        | inl i ↦ subst (λ z. text_cmp x z ≡ Less) (sym i) (turned k x e)
        | inr i ↦
            r.0 y i
      ],
      later r.1,
    )

-- ---- all in their places

pub in_ordered : (p : List ℕ) (xs : List (List ℕ)) → IsIn p xs → IsIn p (ordered xs)
in_ordered p [] i = absurd i
in_ordered p (x ∷ xs) (inl e) = inserted p (ordered xs) x (inl e)
in_ordered p (x ∷ xs) (inr i) = inserted p (ordered xs) x (inr (in_ordered p xs i))

pub from_ordered : (p : List ℕ) (xs : List (List ℕ)) → IsIn p (ordered xs) → IsIn p xs
from_ordered p [] i = absurd i
from_ordered p (x ∷ xs) i = elim (from_insert p (ordered xs) x i) [ inl e ↦ inl e | inr m ↦ inr (from_ordered p xs m) ]

ordered_rises : (xs : List (List ℕ)) → Rises (ordered xs)
ordered_rises [] = tt
ordered_rises (x ∷ xs) = insert_rises (ordered xs) x (ordered_rises xs)

-- ---- the same texts in order are the same list

first_same : (x y : List ℕ) (xs ys : List (List ℕ)) → Rises (x ∷ xs) → Rises (y ∷ ys) → IsIn x (y ∷ ys) → IsIn y (x ∷ xs) → x ≡ y
first_same x y xs ys r q (inl e) k = e
first_same x y xs ys r q (inr i) (inl e) = sym e
first_same x y xs ys r q (inr i) (inr k) = absurd (not_self x (text_total.trans x y x (r.0 y k) (q.0 x i)))

abbrev Within : List (List ℕ) → List (List ℕ) → Type 0
Within xs ys = (p : List ℕ) → IsIn p xs → IsIn p ys

-- The items after the first of one list are among those after the first of the other.
rest_within : (x y : List ℕ) (xs ys : List (List ℕ)) → x ≡ y → Rises (x ∷ xs) → Within (x ∷ xs) (y ∷ ys) → Within xs ys
rest_within x y xs ys e r h p i = elim (h p (inr i)) [
  | inr m ↦ m
  | inl is ↦ absurd
      (not_self x (subst (λ z. text_cmp x z ≡ Less) (is ∙ sym e) (r.0 p i)))
]

same_rising : (xs ys : List (List ℕ)) → Rises xs → Rises ys → Within xs ys → Within ys xs → xs ≡ ys
same_rising [] [] r q h g = refl
same_rising [] (y ∷ ys) r q h g = absurd (g y (inl refl))
same_rising (x ∷ xs) [] r q h g = absurd (h x (inl refl))
same_rising (x ∷ xs) (y ∷ ys) r q h g =
    let e : x ≡ y = first_same x y xs ys r q (h x (inl refl)) (g y (inl refl)) in
    ap (λ z. z ∷ xs) e ∙ ap (λ l. y ∷ l) (same_rising xs ys r.1 q.1 (rest_within x y xs ys e r h) (rest_within y x ys xs (sym e) q g))

pub ordered_same : (xs ys : List (List ℕ)) → ((p : List ℕ) → IsIn p xs → IsIn p ys) → ((p : List ℕ) → IsIn p ys → IsIn p xs)
    → ordered xs ≡ ordered ys
ordered_same xs ys h g =
    same_rising (ordered xs) (ordered ys) (ordered_rises xs) (ordered_rises ys)
    (λ p i. in_ordered p ys (h p (from_ordered p xs i)))
    (λ p i. in_ordered p xs (g p (from_ordered p ys i)))
