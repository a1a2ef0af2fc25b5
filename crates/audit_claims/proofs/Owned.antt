-- The listed attempts with one more attempt or one more file, and the task that owns a path.
use Rattle.std.proofs.Common.{◌≡◌, ℕ, suc, ◌<◌, ◌||◌, Bool, true, false, cond, List, [], ◌∷◌, ◌++◌, length, length-append, Option, Some}
use Rattle.std.proofs.Common.{None, is_some, nat_eq, refl, sym, ap, subst, ◌∙◌, arith}
use Rattle.std.specs.Map.{lookup, set_value}
use Rattle.std.specs.Option.{unwrap_or}
use Rattle.text_and_lists.specs.Order.{text_eq}
use Rattle.text_and_lists.proofs.Members.{some_is, none_some, false_true, eq_nat, nat_true, text_is}
use Rattle.soundness.specs.Claims.{Files, file_at}
use Rattle.judging.specs.Listed.{Listed, Numbered, numbered, with_attempt, with_last, with_file, writes_among, owner}
use Rattle.audit_claims.specs.Claims.{Claimed, Tags, last_has}
use Rattle.audit_claims.specs.inner.Claims.{IsIndexed}
use Rattle.audit_claims.specs.Fits.{fit_by, fit_of}
use Rattle.audit_claims.specs.declared.claims.FileFit.TheVariants.{Added, Repeated, SamePath}

or_true : (b : Bool) → (b || true) ≡ true
or_true true = refl
or_true false = refl

or_first : (b c d : Bool) → ((b || c) || d) ≡ (b || (c || d))
or_first true c d = refl
or_first false c d = refl

or_second : (b c d : Bool) → (c || (b || d)) ≡ (b || (c || d))
or_second true c d = or_true c
or_second false c d = refl

owner_same : (t n : ℕ) (b w : Bool) (o : Option ℕ) → t ≡ n → cond (b || w) (Some n) o ≡ cond b (Some t) (cond w (Some n) o)
owner_same t n true w o e = ap (λ (k : ℕ). Some k) (sym e)
owner_same t n false w o e = refl

owner_other : (t n : ℕ) (b w : Bool) (o : Option ℕ) → (b ≡ true → w ≡ false)
    → cond w (Some n) (cond b (Some t) o) ≡ cond b (Some t) (cond w (Some n) o)
owner_other t n true w o e = ap (λ c. cond c (Some n) (Some t)) (e refl)
owner_other t n false w o e = refl

no_owner : (t n : ℕ) (w : Bool) (o : Option ℕ) → nat_eq t n ≡ false → ((u : ℕ) → cond w (Some n) o ≡ Some u → t ≡ u) → w ≡ false
no_owner t n true o e h = absurd (false_true e (nat_true t n (h n refl)))
no_owner t n false o e h = refl

module _ {I : Type 0} where
  pub attempt_set : (t a : ℕ) (es : Listed I) (ns : Numbered I) → lookup (nat_eq t) es ≡ Some ns
      → set_value (nat_eq t) es (ns ++ (a, []) ∷ []) ≡ with_attempt t a es
  attempt_set t a [] ns h = absurd (none_some refl h)
  attempt_set t a (x ∷ xs) ns h = by (nat_eq t x.0) h (attempt_set t a xs ns)
    where
      by : (b : Bool) → cond b (Some x.1) (lookup (nat_eq t) xs) ≡ Some ns
          → (lookup (nat_eq t) xs ≡ Some ns → set_value (nat_eq t) xs (ns ++ (a, []) ∷ []) ≡ with_attempt t a xs)
          → cond b ((x.0, ns ++ (a, []) ∷ []) ∷ xs) (x ∷ set_value (nat_eq t) xs (ns ++ (a, []) ∷ []))
          ≡ cond b ((x.0, x.1 ++ (a, []) ∷ []) ∷ xs) (x ∷ with_attempt t a xs)
      by true g ih = ap (λ (l : Numbered I). (x.0, l ++ (a, []) ∷ []) ∷ xs) (sym (some_is g))
      by false g ih = ap (λ (l : Listed I). x ∷ l) (ih g)

  pub attempt_new : (t a : ℕ) (es : Listed I) → lookup (nat_eq t) es ≡ None → es ++ (t, (a, []) ∷ []) ∷ [] ≡ with_attempt t a es
  attempt_new t a [] h = refl
  attempt_new t a (x ∷ xs) h = by (nat_eq t x.0) h (attempt_new t a xs)
    where
      by : (b : Bool) → cond b (Some x.1) (lookup (nat_eq t) xs) ≡ None
          → (lookup (nat_eq t) xs ≡ None → xs ++ (t, (a, []) ∷ []) ∷ [] ≡ with_attempt t a xs)
          → x ∷ (xs ++ (t, (a, []) ∷ []) ∷ []) ≡ cond b ((x.0, x.1 ++ (a, []) ∷ []) ∷ xs) (x ∷ with_attempt t a xs)
      by true g ih = absurd (none_some g refl)
      by false g ih = ap (λ (l : Listed I). x ∷ l) (ih g)

  pub file_set : (t : ℕ) (p : List ℕ) (v : I) (es : Listed I) (ns : Numbered I) → lookup (nat_eq t) es ≡ Some ns
      → set_value (nat_eq t) es (with_last p v ns) ≡ with_file t p v es
  file_set t p v [] ns h = absurd (none_some refl h)
  file_set t p v (x ∷ xs) ns h = by (nat_eq t x.0) h (file_set t p v xs ns)
    where
      by : (b : Bool) → cond b (Some x.1) (lookup (nat_eq t) xs) ≡ Some ns
          → (lookup (nat_eq t) xs ≡ Some ns → set_value (nat_eq t) xs (with_last p v ns) ≡ with_file t p v xs)
          → cond b ((x.0, with_last p v ns) ∷ xs) (x ∷ set_value (nat_eq t) xs (with_last p v ns))
          ≡ cond b ((x.0, with_last p v x.1) ∷ xs) (x ∷ with_file t p v xs)
      by true g ih = ap (λ (l : Numbered I). (x.0, with_last p v l) ∷ xs) (sym (some_is g))
      by false g ih = ap (λ (l : Listed I). x ∷ l) (ih g)

  -- Setting a task's attempts to what they were changes nothing.
  pub value_set : (t : ℕ) (es : Listed I) (ns : Numbered I) → lookup (nat_eq t) es ≡ Some ns → set_value (nat_eq t) es ns ≡ es
  value_set t [] ns h = refl
  value_set t (x ∷ xs) ns h = by (nat_eq t x.0) h (value_set t xs ns)
    where
      by : (b : Bool) → cond b (Some x.1) (lookup (nat_eq t) xs) ≡ Some ns
          → (lookup (nat_eq t) xs ≡ Some ns → set_value (nat_eq t) xs ns ≡ xs)
          → cond b ((x.0, ns) ∷ xs) (x ∷ set_value (nat_eq t) xs ns) ≡ x ∷ xs
      by true g ih = ap (λ (l : Numbered I). (x.0, l) ∷ xs) (sym (some_is g))
      by false g ih = ap (λ (l : Listed I). x ∷ l) (ih g)

  -- ---- an attempt without a file owns nothing

  writes_attempt : (p : List ℕ) (a : ℕ) (ns : Numbered I) → writes_among p (ns ++ (a, []) ∷ []) ≡ writes_among p ns
  writes_attempt p a [] = refl
  writes_attempt p a (x ∷ xs) = ap (λ b. is_some (file_at x.1 p) || b) (writes_attempt p a xs)

  pub owner_attempt : (p : List ℕ) (t a : ℕ) (es : Listed I) → owner p (with_attempt t a es) ≡ owner p es
  owner_attempt p t a [] = refl
  owner_attempt p t a (x ∷ xs) = by (nat_eq t x.0) (owner_attempt p t a xs)
    where
      by : (b : Bool) → owner p (with_attempt t a xs) ≡ owner p xs
          → owner p (cond b ((x.0, x.1 ++ (a, []) ∷ []) ∷ xs) (x ∷ with_attempt t a xs)) ≡ owner p (x ∷ xs)
      by true ih = ap (λ w. cond w (Some x.0) (owner p xs)) (writes_attempt p a x.1)
      by false ih = ap (cond (writes_among p x.1) (Some x.0)) ih

  pub some_attempt : (t a : ℕ) (es : Listed I) → 0 < length (numbered t (with_attempt t a es))
  some_attempt t a [] = rw (nat_true t t refl) (omega arith)
  some_attempt t a (x ∷ xs) = by (nat_eq t x.0) refl (some_attempt t a xs)
    where
      by : (b : Bool) → nat_eq t x.0 ≡ b → 0 < length (numbered t (with_attempt t a xs))
          → 0 < length (numbered t (cond b ((x.0, x.1 ++ (a, []) ∷ []) ∷ xs) (x ∷ with_attempt t a xs)))
      by true e ih = rw e (omega (arith, length-append x.1 ((a, []) ∷ [])))
      by false e ih = rw e ih

  -- ---- one more file

  file_added : (q p : List ℕ) (v : I) (files : Files I)
      → is_some (file_at (files ++ (p, v) ∷ []) q) ≡ (text_eq q p || is_some (file_at files q))
  file_added q p v [] = by (text_eq q p)
    where
      by : (b : Bool) → is_some (cond b (Some v) None) ≡ (b || false)
      by true = refl
      by false = refl
  file_added q p v (x ∷ xs) = by (text_eq q x.0) (file_added q p v xs)
    where
      by : (b : Bool) → is_some (file_at (xs ++ (p, v) ∷ []) q) ≡ (text_eq q p || is_some (file_at xs q))
          → is_some (cond b (Some x.1) (file_at (xs ++ (p, v) ∷ []) q)) ≡ (text_eq q p || is_some (cond b (Some x.1) (file_at xs q)))
      by true ih = sym (or_true (text_eq q p))
      by false ih = ih

  last_written : (q p : List ℕ) (v : I) (ns : Numbered I) → 0 < length ns
      → writes_among q (with_last p v ns) ≡ (text_eq q p || writes_among q ns)
  last_written q p v [] h = absurd (omega arith)
  last_written q p v (a ∷ []) h =
      ap (λ b. b || false) (file_added q p v a.1) ∙ or_first (text_eq q p) (is_some (file_at a.1 q)) false
  last_written q p v (a ∷ b ∷ bs) h =
      ap (λ w. is_some (file_at a.1 q) || w) (last_written q p v (b ∷ bs) (omega arith))
      ∙ or_second (text_eq q p) (is_some (file_at a.1 q)) (writes_among q (b ∷ bs))

  -- A file at a path that no other task owns makes its task the owner.
  pub owner_file : (q p : List ℕ) (t : ℕ) (v : I) (es : Listed I) → 0 < length (numbered t es) → ((u : ℕ) → owner p es ≡ Some u → t ≡ u)
      → owner q (with_file t p v es) ≡ cond (text_eq q p) (Some t) (owner q es)
  owner_file q p t v [] h g = absurd (omega arith)
  owner_file q p t v (x ∷ xs) h g = by (nat_eq t x.0) refl h (owner_file q p t v xs)
    where
      by : (b : Bool) → nat_eq t x.0 ≡ b → 0 < length (unwrap_or (cond b (Some x.1) (lookup (nat_eq t) xs)) [])
          → (0 < length (numbered t xs) → ((u : ℕ) → owner p xs ≡ Some u → t ≡ u)
          → owner q (with_file t p v xs) ≡ cond (text_eq q p) (Some t) (owner q xs))
          → owner q (cond b ((x.0, with_last p v x.1) ∷ xs) (x ∷ with_file t p v xs)) ≡ cond (text_eq q p) (Some t) (owner q (x ∷ xs))
      by true e k ih =
          ap (λ w. cond w (Some x.0) (owner q xs)) (last_written q p v x.1 k)
          ∙ owner_same t x.0 (text_eq q p) (writes_among q x.1) (owner q xs) (eq_nat t x.0 e)
      by false e k ih =
          let none : writes_among p x.1 ≡ false = no_owner t x.0 (writes_among p x.1) (owner p xs) e g in
          let rest : owner p (x ∷ xs) ≡ owner p xs = ap (λ w. cond w (Some x.0) (owner p xs)) none in
          ap (cond (writes_among q x.1) (Some x.0)) (ih k (λ u s. g u (rest ∙ s)))
          ∙ owner_other t x.0 (text_eq q p) (writes_among q x.1) (owner q xs)
          (λ s. ap (λ (r : List ℕ). writes_among r x.1) (text_is q p s) ∙ none)

  length_last : (p : List ℕ) (v : I) (ns : Numbered I) → length (with_last p v ns) ≡ length ns
  length_last p v [] = refl
  length_last p v (a ∷ []) = refl
  length_last p v (a ∷ b ∷ bs) = ap suc (length_last p v (b ∷ bs))

  pub some_file : (t : ℕ) (p : List ℕ) (v : I) (es : Listed I) → 0 < length (numbered t es) → 0 < length (numbered t (with_file t p v es))
  some_file t p v [] h = h
  some_file t p v (x ∷ xs) h = by (nat_eq t x.0) refl h (some_file t p v xs)
    where
      by : (b : Bool) → nat_eq t x.0 ≡ b → 0 < length (unwrap_or (cond b (Some x.1) (lookup (nat_eq t) xs)) [])
          → (0 < length (numbered t xs) → 0 < length (numbered t (with_file t p v xs)))
          → 0 < length (numbered t (cond b ((x.0, with_last p v x.1) ∷ xs) (x ∷ with_file t p v xs)))
      by true e k ih = rw e (omega (arith, length_last p v x.1))
      by false e k ih = rw e (ih k)

  -- ---- the attempts of a task that is looked up

  pub numbered_some : (t : ℕ) (es now : Listed I) (ns : Numbered I) → es ≡ now → Some ns ≡ lookup (nat_eq t) es → ns ≡ numbered t now
  numbered_some t es now ns e h = ap (λ (o : Option (Numbered I)). unwrap_or o []) h ∙ ap (numbered t) e

  pub numbered_none : (t : ℕ) (es now : Listed I) → es ≡ now → None ≡ lookup (nat_eq t) es → [] ≡ numbered t now
  numbered_none t es now e h = ap (λ (o : Option (Numbered I)). unwrap_or o []) h ∙ ap (numbered t) e

-- The attempts of the task of the last one.
pub current_some : (c now : Claimed) (ns : Numbered Tags) → c ≡ now → Some ns ≡ lookup (nat_eq c.current) c.listed
    → ns ≡ numbered now.current now.listed
current_some c now ns e h = numbered_some c.current c.listed c.listed ns refl h ∙ ap (λ (x : Claimed). numbered x.current x.listed) e

pub current_none : (c now : Claimed) → c ≡ now → None ≡ lookup (nat_eq c.current) c.listed → [] ≡ numbered now.current now.listed
current_none c now e h = numbered_none c.current c.listed c.listed refl h ∙ ap (λ (x : Claimed). numbered x.current x.listed) e

-- ---- the index

-- The index stays true with one more attempt.
pub indexed_attempt : (t a current : ℕ) (es new : Listed Tags) (index : List (List ℕ × ℕ)) → IsIndexed es index current
    → new ≡ with_attempt t a es → IsIndexed new index t
indexed_attempt t a current es new index h e = record {
  owners = λ p. h.owners p ∙ sym (owner_attempt p t a es) ∙ ap (owner p) (sym e);
  some = λ n. subst (λ (l : Listed Tags). 0 < length (numbered t l)) (sym e) (some_attempt t a es);
}

-- It stays true with one more file whose path is noted in it.
pub indexed_file : (t : ℕ) (p : List ℕ) (v : Tags) (es new : Listed Tags) (index next : List (List ℕ × ℕ)) → IsIndexed es index t
    → 0 < length es → ((u : ℕ) → owner p es ≡ Some u → t ≡ u) → new ≡ with_file t p v es
    → ((q : List ℕ) → lookup (text_eq q) next ≡ cond (text_eq q p) (Some t) (lookup (text_eq q) index)) → IsIndexed new next t
indexed_file t p v es new index next h some fits e noted = record {
  owners = λ q.
      noted q ∙ ap (cond (text_eq q p) (Some t)) (h.owners q) ∙ sym (owner_file q p t v es (h.some some) fits) ∙ ap (owner q) (sym e);
  some = λ n. subst (λ (l : Listed Tags). 0 < length (numbered t l)) (sym e) (some_file t p v es (h.some some));
}

-- A file that is added is none of the last attempt's and none of another task's.
pub record MayAdd (c : Claimed) (p : List ℕ) : Type 0 where
  pub other : last_has c p ≡ false
  pub fits : (u : ℕ) → owner p c.listed ≡ Some u → c.current ≡ u

fitting : (t : ℕ) (o : Option ℕ) → Added ≡ fit_by t o → (u : ℕ) → o ≡ Some u → t ≡ u
fitting t None h u e = absurd (none_some refl e)
fitting t (Some k) h u e = by (nat_eq t k) refl h
  where
    by : (b : Bool) → nat_eq t k ≡ b → Added ≡ cond b Added SamePath → t ≡ u
    by true s g = eq_nat t k s ∙ some_is e
    by false s g = absurd cc

pub may_add : (c : Claimed) (p : List ℕ) → Added ≡ fit_of c p → MayAdd c p
may_add c p h = by (last_has c p) refl h
  where
    by : (b : Bool) → last_has c p ≡ b → Added ≡ cond b Repeated (fit_by c.current (owner p c.listed)) → MayAdd c p
    by true s g = absurd cc
    by false s g = record { other = s; fits = fitting c.current (owner p c.listed) g }
