-- The entries whose keys are greater than one of them.
use Rattle.text_and_lists.proofs.Less.{irrefl, lt, lt_trans}
use Rattle.std.proofs.Common.{Bool, List, ap, cond, false, refl, subst, sym, true, [], ◌∙◌, ◌∷◌, ◌≡◌}
use Rattle.std.proofs.lemmas.Bool.{false≢true}
use Rattle.std.proofs.lemmas.Map.Keys.{sorted_head, sorted_tail}
use Rattle.std.specs.Cmp.{IsTotalOrder}
use Rattle.std.specs.List.{AllByRecursion, filter}
use Rattle.std.specs.List.Sorted.{IsStrictlySortedBy}
use Rattle.std.specs.Map.{keys_of}
use Rattle.std.specs.Ordering.{is_lt}
use Rattle.std.specs.declared.cmp.Ordering.{Ordering}
use Rattle.std.specs.declared.cmp.Ordering.TheVariants.{Less}

by_bool : (b : Bool) {G : Type 0} → (b ≡ true → G) → (b ≡ false → G) → G
by_bool true f g = f refl
by_bool false f g = g refl

module _ {K X : Type 0} {R : K → K → Ordering} (o : IsTotalOrder R) where
  -- The entries after a key.
  abbrev pub above : K → List (K × X) → List (K × X)
  above k es = filter (λ e. lt R k e.0) es

  -- If all keys are greater than k, these are all entries.
  pub all_above : (k : K) (es : List (K × X)) → AllByRecursion (λ q. R k q ≡ Less) (keys_of es) → above k es ≡ es
  all_above k [] h = refl
  all_above k (e ∷ es) h =
      ap (λ b. cond b (e ∷ above k es) (above k es)) (ap is_lt h.0) ∙ ap (λ l. e ∷ l) (all_above k es h.1)

  passed : (a k : K) (es : List (K × X)) → lt R a k ≡ true → AllByRecursion (λ q. R k q ≡ Less) (keys_of es) → above a es ≡ es
  passed a k [] l h = refl
  passed a k (e ∷ es) l h =
      ap (λ b. cond b (e ∷ above a es) (above a es)) (lt_trans o a k e.0 l (ap is_lt h.0)) ∙ ap (λ l. e ∷ l) (passed a k es l h.1)

  -- The first of the entries is followed by those after it.
  pub after_first : (e : K × X) (es : List (K × X)) → IsStrictlySortedBy R (keys_of (e ∷ es)) → es ≡ above e.0 (e ∷ es)
  after_first e es s =
      sym (ap (λ b. cond b (e ∷ above e.0 es) (above e.0 es)) (irrefl o e.0) ∙ all_above e.0 es (sorted_head R e.0 (keys_of es) s))

  record Found (a : K) (e : K × X) (es fs : List (K × X)) : Type 0 where
    pub passes : lt R a e.0 ≡ true
    pub rest : fs ≡ above e.0 es

  found : (a : K) (es : List (K × X)) → IsStrictlySortedBy R (keys_of es) → (e : K × X) (fs : List (K × X)) → above a es ≡ e ∷ fs
      → Found a e es fs
  found a [] s e fs h = absurd (cc)
  found a (x ∷ es) s e fs h = by (lt R a x.0) refl (found a es (sorted_tail R x.0 (keys_of es) s) e fs)
    where
      head : AllByRecursion (λ q. R x.0 q ≡ Less) (keys_of es)
      head = sorted_head R x.0 (keys_of es) s

      by : (b : Bool) → lt R a x.0 ≡ b → (above a es ≡ e ∷ fs → Found a e es fs) → Found a e (x ∷ es) fs
      by true t ih =
          let g : x ∷ above a es ≡ e ∷ fs = ap (λ b. cond b (x ∷ above a es) (above a es)) (sym t) ∙ h in
          let ex : x ≡ e = cc in
          let er : above a es ≡ fs = cc in
          record {
            passes = subst (λ (e : K × X). lt R a e.0 ≡ true) ex t;
            rest = sym er ∙ passed a x.0 es t head ∙ after_first x es s ∙ ap (λ (e : K × X). above e.0 (x ∷ es)) ex;
          }
      by false t ih =
          let w = ih (ap (λ b. cond b (x ∷ above a es) (above a es)) (sym t) ∙ h) in
          let n : lt R e.0 x.0 ≡ false = by_bool (lt R e.0 x.0) (λ l. absurd (false≢true (sym t ∙ lt_trans o a e.0 x.0 w.passes l)))
          (λ l. l) in
          record {
            passes = w.passes;
            rest = w.rest ∙ sym (ap (λ b. cond b (x ∷ above e.0 es) (above e.0 es)) n);
          }

  -- The first of the entries after a key is followed by those after it.
  pub after_found : (a : K) (es : List (K × X)) → IsStrictlySortedBy R (keys_of es) → (e : K × X) (fs : List (K × X)) → above a es ≡ e ∷ fs
      → fs ≡ above e.0 es
  after_found a es s e fs h = (found a es s e fs h).rest
