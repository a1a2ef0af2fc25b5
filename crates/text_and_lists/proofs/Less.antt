-- A total order, by the test whether one value is less than another.
use Rattle.text_and_lists.proofs.Bools.{contrary}
use Rattle.std.proofs.Common.{Bool, ap, arith, false, not, refl, sym, true, ◌∙◌, ◌≡◌}
use Rattle.std.proofs.lemmas.Bool.{false≢true}
use Rattle.std.specs.Cmp.{IsTotalOrder}
use Rattle.std.specs.Ordering.{is_gt, is_le, is_lt, ordering_reverse}
use Rattle.std.specs.declared.cmp.Ordering.{Ordering}
use Rattle.std.specs.declared.cmp.Ordering.TheVariants.{Equal, Greater, Less}

pub equal_self : (o : Ordering) → o ≡ ordering_reverse o → o ≡ Equal
equal_self o h = grind arith

turned : (r : Ordering) → is_lt (ordering_reverse r) ≡ is_gt r
turned Less = refl
turned _ = refl

le_is : (r : Ordering) → is_le r ≡ not (is_gt r)
le_is Less = refl
le_is _ = refl

pub less_of : (r : Ordering) → is_lt r ≡ true → r ≡ Less
less_of Less h = refl
less_of _ h = absurd (false≢true h)

flipped : (r : Ordering) → r ≡ ordering_reverse r → is_lt r ≡ false
flipped Less e = ap is_lt e
flipped _ e = refl

not_false : (b : Bool) → (b ≡ false → false ≡ true) → b ≡ true
not_false true f = refl
not_false false f = absurd (false≢true (f refl))

module _ {K : Type 0} (R : K → K → Ordering) where
  -- True if a is less than b.
  abbrev pub lt : K → K → Bool
  lt a b = is_lt (R a b)

module _ {K : Type 0} {R : K → K → Ordering} (o : IsTotalOrder R) where
  pub lt_back : (a b : K) → lt R b a ≡ is_gt (R a b)
  lt_back a b = ap is_lt (o.antisymm b a) ∙ turned (R a b)

  pub le_not : (a b : K) → is_le (R a b) ≡ not (lt R b a)
  le_not a b = le_is (R a b) ∙ ap not (sym (lt_back a b))

  pub irrefl : (a : K) → lt R a a ≡ false
  irrefl a = flipped (R a a) (o.antisymm a a)

  pub lt_trans : (a b c : K) → lt R a b ≡ true → lt R b c ≡ true → lt R a c ≡ true
  lt_trans a b c h g = ap is_lt (o.trans a b c (less_of _ h) (less_of _ g))

  pub lt_not : (a b : K) → lt R a b ≡ true → lt R b a ≡ false
  lt_not a b h = contrary (lt R b a) (λ e. sym (irrefl a) ∙ lt_trans a b a h e)

  -- If a is at most b, and b is less than c, then a is less than c.
  pub le_lt : (a b c : K) → lt R b a ≡ false → lt R b c ≡ true → lt R a c ≡ true
  le_lt a b c h g = by (R a b) refl
    where
      by : (r : Ordering) → R a b ≡ r → lt R a c ≡ true
      by Less e = lt_trans a b c (ap is_lt e) g
      by Equal e = ap is_lt (o.congr a b c e) ∙ g
      by Greater e = absurd (false≢true (sym h ∙ lt_back a b ∙ ap is_gt e))

  -- If a is less than b, and b is at most c, then a is less than c.
  pub lt_le : (a b c : K) → lt R a b ≡ true → lt R c b ≡ false → lt R a c ≡ true
  lt_le a b c h g = not_false (lt R a c) (λ e. sym g ∙ le_lt c a b e h)

  -- If a is at most b, and b is at most c, then a is at most c.
  pub le_le : (a b c : K) → lt R b a ≡ false → lt R c b ≡ false → lt R c a ≡ false
  le_le a b c h g = contrary (lt R c a) (λ e. sym g ∙ lt_le c a b e h)
