-- The first path of a list at which a test holds.
use Rattle.text_and_lists.specs.Order.{text_cmp, text_total}
use Rattle.std.proofs.Common.{Bool, List, None, Some, [], ap, cond, false, inl, inr, refl, subst, sym, true, ℕ, ◌∙◌, ◌∷◌, ◌≡◌, ◌⊎◌}
use Rattle.std.proofs.lemmas.Bool.{false≢true}
use Rattle.std.proofs.lemmas.Slice.Eq.{bytes_eq-Decides}
use Rattle.std.specs.List.{AllByRecursion, find, list_any}
use Rattle.audit_judge.proofs.Tests.{or_cases, or_left, or_right}
use Rattle.std.specs.Str.{bytes_eq}
use Rattle.std.specs.List.Sorted.{IsStrictlySortedBy}
use Rattle.std.specs.declared.cmp.Ordering.TheVariants.{Less}
use Rattle.std.specs.Ordering.{ordering_reverse}
use Rattle.std.proofs.lemmas.Map.Keys.{sorted_head, sorted_tail}

-- The path is one of these.
abbrev pub is_in : List ℕ → List (List ℕ) → Bool
is_in q ps = list_any (bytes_eq q) ps

pub at_of : (P : List ℕ → Type 0) (ps : List (List ℕ)) → AllByRecursion P ps → (q : List ℕ) → is_in q ps ≡ true → P q
at_of P [] h q i = absurd (false≢true i)
at_of P (p ∷ ps) h q i = by (or_cases (bytes_eq q p) (is_in q ps) i) (at_of P ps h.1 q)
  where
    by : (bytes_eq q p ≡ true) ⊎ (is_in q ps ≡ true) → (is_in q ps ≡ true → P q) → P q
    by (inl e) later = subst P (sym ((bytes_eq-Decides q p).0 e)) h.0
    by (inr e) later = later e

pub of_at : (P : List ℕ → Type 0) (ps : List (List ℕ)) → ((q : List ℕ) → is_in q ps ≡ true → P q) → AllByRecursion P ps
of_at P [] h = tt
of_at P (p ∷ ps) h = (
  h p (or_left (bytes_eq p p) (is_in p ps) ((bytes_eq-Decides p p).1 refl)),
  of_at P ps (λ q i. h q (or_right (bytes_eq q p) (is_in q ps) i)),
)

-- No path is both before and after another.
less_less : (p q : List ℕ) → text_cmp p q ≡ Less → text_cmp q p ≡ Less → ⊥
less_less p q a b = cc (a, text_total.antisymm p q ∙ ap ordering_reverse b)

less_self : (p : List ℕ) → text_cmp p p ≡ Less → ⊥
less_self p a = less_less p p a a

module _ (test : List ℕ → Bool) where
  pub none_of : (ps : List (List ℕ)) → find test ps ≡ None → AllByRecursion (λ p. test p ≡ false) ps
  none_of [] h = tt
  none_of (p ∷ ps) h = by (test p) refl h (none_of ps)
    where
      by : (b : Bool) → test p ≡ b → cond b (Some p) (find test ps) ≡ None
          → (find test ps ≡ None → AllByRecursion (λ p. test p ≡ false) ps) → (test p ≡ false) × AllByRecursion (λ p. test p ≡ false) ps
      by true e h later = absurd (cc h)
      by false e h later = (e, later h)

  pub none_at : (ps : List (List ℕ)) → find test ps ≡ None → (q : List ℕ) → is_in q ps ≡ true → test q ≡ false
  none_at ps h = at_of (λ p. test p ≡ false) ps (none_of ps h)

  -- The test holds at the first path.
  pub passes : (ps : List (List ℕ)) (p : List ℕ) → find test ps ≡ Some p → test p ≡ true
  passes [] p h = absurd (cc h)
  passes (x ∷ ps) p h = by (test x) refl h (passes ps p)
    where
      by : (b : Bool) → test x ≡ b → cond b (Some x) (find test ps) ≡ Some p → (find test ps ≡ Some p → test p ≡ true) → test p ≡ true
      by true e h later = subst (λ q. test q ≡ true) (cc h) e
      by false e h later = later h

  -- The first path is one of the list.
  pub stands : (ps : List (List ℕ)) (p : List ℕ) → find test ps ≡ Some p → is_in p ps ≡ true
  stands [] p h = absurd (cc h)
  stands (x ∷ ps) p h = by (test x) h (stands ps p)
    where
      by : (b : Bool) → cond b (Some x) (find test ps) ≡ Some p → (find test ps ≡ Some p → is_in p ps ≡ true) → is_in p (x ∷ ps) ≡ true
      by true h later = or_left (bytes_eq p x) (is_in p ps) ((bytes_eq-Decides p x).1 (cc h))
      by false h later = or_right (bytes_eq p x) (is_in p ps) (later h)

  -- The test fails at each lesser path.
  pub least : (ps : List (List ℕ)) (p : List ℕ) → IsStrictlySortedBy text_cmp ps → find test ps ≡ Some p → (q : List ℕ)
      → text_cmp q p ≡ Less → is_in q ps ≡ true → test q ≡ false
  least [] p s h q l i = absurd (cc h)
  least (x ∷ ps) p s h q l i = by (test x) refl h (or_cases (bytes_eq q x) (is_in q ps) i)
      (λ g j. least ps p (sorted_tail text_cmp x ps s) g q l j)
    where
      by : (b : Bool) → test x ≡ b → cond b (Some x) (find test ps) ≡ Some p → (bytes_eq q x ≡ true) ⊎ (is_in q ps ≡ true)
          → (find test ps ≡ Some p → is_in q ps ≡ true → test q ≡ false) → test q ≡ false
      by true e h (inl i) later =
          let same : q ≡ x = (bytes_eq-Decides q x).0 i in
          let here : x ≡ p = cc h in
          absurd (less_self p (subst (λ z. text_cmp z p ≡ Less) (same ∙ here) l))
      by true e h (inr i) later =
          let here : x ≡ p = cc h in
          let below = at_of (λ y. text_cmp x y ≡ Less) ps (sorted_head text_cmp x ps s) q i in
          absurd (less_less p q (subst (λ z. text_cmp z q ≡ Less) here below) l)
      by false e h (inl i) later = subst (λ z. test z ≡ false) (sym ((bytes_eq-Decides q x).0 i)) e
      by false e h (inr i) later = later h i
