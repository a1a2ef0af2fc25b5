-- Steps of loops over attempts, changes and paths, and the known directories.
use Rattle.audit_claims.specs.Claims.{Tags}
use Rattle.judging.specs.Listed.{Listed, ListedOnce, Numbered, by_task, owner, writes_among}
use Rattle.soundness.specs.Claims.{Files, always_reaches, file_at, reaches}
use Rattle.std.proofs.Common.{Bool, List, None, Option, Some, [], ap, arith, cond, false, get_or, length, refl, subst, suc, sym, true}
use Rattle.std.proofs.Common.{zero, ℕ, ◌++◌, ◌+◌, ◌<◌, ◌∙◌, ◌∷◌, ◌≡◌}
use Rattle.std.proofs.lemmas.Bool.{eq-eqb, eqb-true, true≢false}
use Rattle.std.specs.List.{list_any}
use Rattle.std.specs.Map.{lookup, lookup_key}
use Rattle.std.specs.Prelude.{nat_eq, slice_get, ◌&&◌}
use Rattle.std.proofs.Common.{drop, set, take}
use Rattle.audit_claims.specs.Directories.{AreOf, Reached, some_always_reaches, some_reaches}
use Rattle.audit_judge.specs.Following.{GoodList}
use Rattle.audit_judge.specs.Narrowed.{has_flag}
use Rattle.audit_judge.specs.inner.Narrowed.{Fitting, empty_at, least_from, lesser, lowered, narrow, narrow_all, narrow_task}
use Rattle.audit_judge.specs.inner.Scene.{AreKnown}
use Rattle.judging.proofs.Listed.{listed_claims}

-- ---- directories

module _ (tasks : ℕ) (listed inside : Listed Tags) (known : Option Reached) (reached : Reached) (r : Bool) (p : List ℕ)
    (good : GoodList tasks listed) (same : inside ≡ listed) (found : known ≡ Some reached) (are : AreKnown inside known) where
  are_of : AreOf listed reached
  are_of = subst (λ l. AreOf l reached) same (subst (AreKnown inside) found are)

  pub reached_is : ((l : Listed Tags) → AreOf l reached → r ≡ some_reaches p l)
      → r ≡ list_any (list_any (reaches p)) (by_task 0 tasks listed)
  reached_is h = h listed are_of ∙ sym ((listed_claims Tags).reached tasks listed good.below good.once p)

  pub always_is : ((l : Listed Tags) → AreOf l reached → r ≡ some_always_reaches p l)
      → r ≡ list_any (always_reaches p) (by_task 0 tasks listed)
  always_is h = h listed are_of ∙ sym ((listed_claims Tags).replaced tasks listed good.below good.once p)

-- ---- flags of one task

and_true : (f : Bool) → (f && true) ≡ f
and_true true = refl
and_true false = refl

and_false : (f : Bool) → (f && false) ≡ false
and_false true = refl
and_false false = refl

lowered_later : (b : Bool) (k : ℕ) (f : Bool) (flags : List Bool) → lowered b (suc k) (f ∷ flags) ≡ f ∷ lowered b k flags
lowered_later true k f flags = refl
lowered_later false k f flags = refl

pub length-lowered : (b : Bool) (k : ℕ) (flags : List Bool) → length (lowered b k flags) ≡ length flags
length-lowered true k flags = refl
length-lowered false k [] = refl
length-lowered false zero (f ∷ flags) = refl
length-lowered false (suc k) (f ∷ flags) = ap suc (length-lowered false k flags)

step_suc : (suits : Option Tags → Bool) (p : List ℕ) (a : ℕ × Files Tags) (rest : Numbered Tags) (k : ℕ) (flags : List Bool)
    → k < length flags
    → take (suc k) (lowered (suits (file_at a.1 p)) k flags) ++ narrow_task suits p rest
    (drop (suc k) (lowered (suits (file_at a.1 p)) k flags))
    ≡ take k flags ++ narrow_task suits p (a ∷ rest) (drop k flags)
step_suc suits p a rest k [] l = absurd (omega (arith, l))
step_suc suits p a rest zero (f ∷ flags) l = by (suits (file_at a.1 p))
  where
    by : (b : Bool) → take 1 (lowered b 0 (f ∷ flags)) ++ narrow_task suits p rest (drop 1 (lowered b 0 (f ∷ flags)))
        ≡ (f && b) ∷ narrow_task suits p rest flags
    by true = ap (λ g. g ∷ narrow_task suits p rest flags) (sym (and_true f))
    by false = ap (λ g. g ∷ narrow_task suits p rest flags) (sym (and_false f))
step_suc suits p a rest (suc k) (f ∷ flags) l =
    let b = suits (file_at a.1 p) in
    ap (λ z. take (suc (suc k)) z ++ narrow_task suits p rest (drop (suc (suc k)) z)) (lowered_later b k f flags)
    ∙ ap (λ z. f ∷ z) (step_suc suits p a rest k flags (omega (arith, l)))

pub narrow_step : (suits : Option Tags → Bool) (p : List ℕ) (a : ℕ × Files Tags) (rest : Numbered Tags) (k : ℕ) (flags : List Bool)
    → k < length flags
    → take (k + 1) (lowered (suits (file_at a.1 p)) k flags) ++ narrow_task suits p rest
    (drop (k + 1) (lowered (suits (file_at a.1 p)) k flags))
    ≡ take k flags ++ narrow_task suits p (a ∷ rest) (drop k flags)
narrow_step suits p a rest k flags l =
    let e : suc k ≡ k + 1 = omega arith in
    subst (λ n. take n (lowered (suits (file_at a.1 p)) k flags) ++ narrow_task suits p rest
    (drop n (lowered (suits (file_at a.1 p)) k flags))
    ≡ take k flags ++ narrow_task suits p (a ∷ rest) (drop k flags)) e (step_suc suits p a rest k flags l)

-- One more attempt of a loop.
pub rest_more : (suits : Option Tags → Bool) (p : List ℕ) (flags next end : List Bool) (k : ℕ) (left rest : Numbered Tags)
    (a : ℕ × Files Tags) (met : Bool) → k + length left ≡ length flags
    → take k flags ++ narrow_task suits p left (drop k flags) ≡ end → left ≡ a ∷ rest → met ≡ suits (file_at a.1 p)
    → next ≡ lowered met k flags
    → take (k + 1) next ++ narrow_task suits p rest (drop (k + 1) next) ≡ end
rest_more suits p flags next end k left rest a met places so_far steps is low =
    let n = ap length steps in
    let l : k < length flags = omega (arith, n, places) in
    ap (λ z. take (k + 1) z ++ narrow_task suits p rest (drop (k + 1) z)) (low ∙ ap (λ b. lowered b k flags) is)
    ∙ narrow_step suits p a rest k flags l ∙ ap (λ z. take k flags ++ narrow_task suits p z (drop k flags)) (sym steps) ∙ so_far

pub count_more : (k n : ℕ) (left rest : Numbered Tags) (a : ℕ × Files Tags) → k + length left ≡ n → left ≡ a ∷ rest
    → k + 1 + length rest ≡ n
count_more k n left rest a places steps = let e = ap length steps in omega (arith, e, places)

pub places_more : (k : ℕ) (left rest : Numbered Tags) (a : ℕ × Files Tags) (met : Bool) (flags next : List Bool)
    → k + length left ≡ length flags
    → left ≡ a ∷ rest → next ≡ lowered met k flags → k + 1 + length rest ≡ length next
places_more k left rest a met flags next places steps low =
    count_more k (length flags) left rest a places steps ∙ sym (ap length low ∙ length-lowered met k flags)

-- ---- paths of lists that are joined

module _ (suits : List ℕ → Option Tags → Bool) (listed : Listed Tags) where
  pub narrow_all-append : (ps qs : List (List ℕ)) (rows : List (List Bool))
      → narrow_all suits listed (ps ++ qs) rows ≡ narrow_all suits listed qs (narrow_all suits listed ps rows)
  narrow_all-append [] qs rows = refl
  narrow_all-append (p ∷ ps) qs rows = narrow_all-append ps qs (narrow suits listed p rows)

  pub least_from-append : (ps qs : List (List ℕ)) (rows : List (List Bool)) (o : Option ℕ)
      → least_from suits listed (ps ++ qs) rows o
      ≡ least_from suits listed qs (narrow_all suits listed ps rows) (least_from suits listed ps rows o)
  least_from-append [] qs rows o = refl
  least_from-append (p ∷ ps) qs rows o = least_from-append ps qs (narrow suits listed p rows)
      (lesser o (empty_at listed p (narrow suits listed p rows)))

  -- One more part of the paths.
  pub narrowed_more : (ps qs left : List (List ℕ)) (rows next end : List (List Bool)) → left ≡ ps ++ qs
      → next ≡ narrow_all suits listed ps rows
      → narrow_all suits listed left rows ≡ end → narrow_all suits listed qs next ≡ end
  narrowed_more ps qs left rows next end parts step so_far =
      ap (narrow_all suits listed qs) step ∙ sym (narrow_all-append ps qs rows) ∙ ap (λ l. narrow_all suits listed l rows) (sym parts)
      ∙ so_far

  pub least_more : (ps qs left : List (List ℕ)) (rows next : List (List Bool)) (o p end : Option ℕ) → left ≡ ps ++ qs
      → next ≡ narrow_all suits listed ps rows → p ≡ least_from suits listed ps rows o → least_from suits listed left rows o ≡ end
      → least_from suits listed qs next p ≡ end
  least_more ps qs left rows next o p end parts step least so_far =
      ap (λ r. least_from suits listed qs r p) step ∙ ap (least_from suits listed qs (narrow_all suits listed ps rows)) least
      ∙ sym (least_from-append ps qs rows o) ∙ ap (λ l. least_from suits listed l rows o) (sym parts) ∙ so_far

-- ---- the flags of a path's task

length-narrow_task : (suits : Option Tags → Bool) (p : List ℕ) (attempts : Numbered Tags) (flags : List Bool)
    → length flags ≡ length attempts
    → length (narrow_task suits p attempts flags) ≡ length attempts
length-narrow_task suits p [] flags h = h
length-narrow_task suits p (a ∷ attempts) [] h = h
length-narrow_task suits p (a ∷ attempts) (f ∷ flags) h = ap suc (length-narrow_task suits p attempts flags (omega (arith, h)))

pub still_fitting : (suits : List ℕ → Option Tags → Bool) (listed : Listed Tags) (p : List ℕ) (rows : List (List Bool))
    → Fitting listed rows
    → Fitting listed (narrow suits listed p rows)
still_fitting suits [] p rows h = h
still_fitting suits (x ∷ xs) p [] h = absurd h
still_fitting suits (x ∷ xs) p (row ∷ rows) h = by (writes_among p x.1) (still_fitting suits xs p rows h.1)
  where
    by : (b : Bool) → Fitting xs (narrow suits xs p rows)
        → Fitting (x ∷ xs) (cond b (narrow_task (suits p) p x.1 row ∷ rows) (row ∷ narrow suits xs p rows))
    by true later = (length-narrow_task (suits p) p x.1 row h.0, h.1)
    by false later = (h.0, later)

pub key_is : (t k : ℕ) (es : Listed Tags) → lookup_key (nat_eq t) es ≡ Some k → k ≡ t
key_is t k [] h = absurd (cc h)
key_is t k (x ∷ xs) h = by (nat_eq t x.0) refl h (key_is t k xs)
  where
    by : (b : Bool) → nat_eq t x.0 ≡ b → cond b (Some x.0) (lookup_key (nat_eq t) xs) ≡ Some k
        → (lookup_key (nat_eq t) xs ≡ Some k → k ≡ t) → k ≡ t
    by true e h later = let here : x.0 ≡ k = cc h in sym here ∙ sym (eqb-true t x.0 e)
    by false e h later = later h

-- A path without an owner.
pub free_narrow : (suits : List ℕ → Option Tags → Bool) (p : List ℕ) (listed : Listed Tags) (rows : List (List Bool))
    → owner p listed ≡ None
    → narrow suits listed p rows ≡ rows
free_narrow suits p [] rows h = refl
free_narrow suits p (x ∷ xs) [] h = refl
free_narrow suits p (x ∷ xs) (row ∷ rows) h = by (writes_among p x.1) h (free_narrow suits p xs rows)
  where
    by : (b : Bool) → cond b (Some x.0) (owner p xs) ≡ None → (owner p xs ≡ None → narrow suits xs p rows ≡ rows)
        → cond b (narrow_task (suits p) p x.1 row ∷ rows) (row ∷ narrow suits xs p rows) ≡ row ∷ rows
    by true h later = absurd (cc h)
    by false h later = ap (λ r. row ∷ r) (later h)

pub free_empty : (p : List ℕ) (listed : Listed Tags) (rows : List (List Bool)) → owner p listed ≡ None → empty_at listed p rows ≡ None
free_empty p [] rows h = refl
free_empty p (x ∷ xs) [] h = refl
free_empty p (x ∷ xs) (row ∷ rows) h = by (writes_among p x.1) h (free_empty p xs rows)
  where
    by : (b : Bool) → cond b (Some x.0) (owner p xs) ≡ None → (owner p xs ≡ None → empty_at xs p rows ≡ None)
        → cond b (cond (has_flag row) None (Some x.0)) (empty_at xs p rows) ≡ None
    by true h later = absurd (cc h)
    by false h later = later h

-- The owner is listed.
pub owner_listed : (p : List ℕ) (t : ℕ) (listed : Listed Tags) → owner p listed ≡ Some t → lookup (nat_eq t) listed ≡ None → ⊥
owner_listed p t [] h none = cc h
owner_listed p t (x ∷ xs) h none = by (writes_among p x.1) h (nat_eq t x.0) refl (owner_listed p t xs)
  where
    by : (b : Bool) → cond b (Some x.0) (owner p xs) ≡ Some t → (s : Bool) → nat_eq t x.0 ≡ s
        → (owner p xs ≡ Some t → lookup (nat_eq t) xs ≡ None → ⊥) → ⊥
    by b h true e later = cc (none, ap (λ s. cond s (Some x.1) (lookup (nat_eq t) xs)) e)
    by true h false e later = let here : x.0 ≡ t = cc h in true≢false (sym (eq-eqb t x.0 (sym here)) ∙ e)
    by false h false e later = later h (sym (ap (λ s. cond s (Some x.1) (lookup (nat_eq t) xs)) e) ∙ none)

some_same : {X : Type 0} {x y : X} → Some x ≡ Some y → x ≡ y
some_same e = cc

found_there : (t : ℕ) (attempts : Numbered Tags) (xs : Listed Tags) (i : ℕ) → slice_get xs i ≡ Some (t, attempts)
    → lookup (nat_eq t) xs ≡ None → ⊥
found_there t attempts [] i there none = cc there
found_there t attempts (x ∷ xs) i there none = by i there (nat_eq t x.0) refl (found_there t attempts xs)
  where
    by : (i : ℕ) → slice_get (x ∷ xs) i ≡ Some (t, attempts) → (s : Bool) → nat_eq t x.0 ≡ s
        → ((i : ℕ) → slice_get xs i ≡ Some (t, attempts) → lookup (nat_eq t) xs ≡ None → ⊥) → ⊥
    by i there true e later = cc (none, ap (λ s. cond s (Some x.1) (lookup (nat_eq t) xs)) e)
    by zero there false e later =
        let number : x.0 ≡ t = ap (λ (z : ℕ × Numbered Tags). z.0) (some_same there) in
        true≢false (sym (eq-eqb t x.0 (sym number)) ∙ e)
    by (suc i) there false e later = later i there (sym (ap (λ s. cond s (Some x.1) (lookup (nat_eq t) xs)) e) ∙ none)

-- None of the tasks in front of the owner writes the path.
module _ (suits : List ℕ → Option Tags → Bool) (p : List ℕ) (t : ℕ) (attempts : Numbered Tags) where
  first_writes : (x : ℕ × Numbered Tags) (xs : Listed Tags) → ListedOnce (x ∷ xs) → x.0 ≡ t → owner p (x ∷ xs) ≡ Some t
      → writes_among p x.1 ≡ true
  first_writes x xs once same h = by (writes_among p x.1) h
    where
      by : (b : Bool) → cond b (Some x.0) (owner p xs) ≡ Some t → b ≡ true
      by true h = refl
      by false h = absurd (owner_listed p t xs h (subst (λ k. lookup (nat_eq k) xs ≡ None) same once.0))

  later_writes : (x : ℕ × Numbered Tags) (xs : Listed Tags) (i : ℕ) → ListedOnce (x ∷ xs) → slice_get xs i ≡ Some (t, attempts)
      → owner p (x ∷ xs) ≡ Some t → (writes_among p x.1 ≡ false) × (owner p xs ≡ Some t)
  later_writes x xs i once there h = by (writes_among p x.1) refl h
    where
      by : (b : Bool) → writes_among p x.1 ≡ b → cond b (Some x.0) (owner p xs) ≡ Some t
          → (writes_among p x.1 ≡ false) × (owner p xs ≡ Some t)
      by true e h =
          let same : x.0 ≡ t = cc h in
          absurd (found_there t attempts xs i there (subst (λ k. lookup (nat_eq k) xs ≡ None) same once.0))
      by false e h = (e, h)

  pub within : (listed : Listed Tags) (rows : List (List Bool)) (i : ℕ) → slice_get listed i ≡ Some (t, attempts) → Fitting listed rows
      → i < length rows
  within [] rows i there h = absurd (cc there)
  within (x ∷ xs) [] i there h = absurd h
  within (x ∷ xs) (row ∷ rows) zero there h = omega arith
  within (x ∷ xs) (row ∷ rows) (suc i) there h = let l = within xs rows i there h.1 in omega (arith, l)

  pub as_many : (listed : Listed Tags) (rows : List (List Bool)) (i : ℕ) (row : List Bool) → slice_get listed i ≡ Some (t, attempts)
      → Fitting listed rows → row ≡ get_or rows i row → length row ≡ length attempts
  as_many [] rows i row there h e = absurd (cc there)
  as_many (x ∷ xs) [] i row there h e = absurd h
  as_many (x ∷ xs) (r ∷ rows) zero row there h e =
      let same : x.1 ≡ attempts = ap (λ (z : ℕ × Numbered Tags). z.1) (some_same there) in
      ap length e ∙ h.0 ∙ ap length same
  as_many (x ∷ xs) (r ∷ rows) (suc i) row there h e = as_many xs rows i row there h.1 e

  pub narrow_here : (listed : Listed Tags) (rows : List (List Bool)) (i : ℕ) (row : List Bool) → ListedOnce listed
      → slice_get listed i ≡ Some (t, attempts) → owner p listed ≡ Some t → Fitting listed rows → row ≡ get_or rows i row
      → set rows i (narrow_task (suits p) p attempts row) ≡ narrow suits listed p rows
  narrow_here [] rows i row once there own h e = absurd (cc there)
  narrow_here (x ∷ xs) [] i row once there own h e = absurd h
  narrow_here (x ∷ xs) (r ∷ rows) zero row once there own h e =
      let same = some_same there in
      let wr = first_writes x xs once (ap (λ (z : ℕ × Numbered Tags). z.0) same) own in
      ap (λ z. narrow_task (suits p) p attempts z ∷ rows) e
      ∙ ap (λ (z : ℕ × Numbered Tags). narrow_task (suits p) p z.1 r ∷ rows) (sym same)
      ∙ sym (ap (λ b. cond b (narrow_task (suits p) p x.1 r ∷ rows) (r ∷ narrow suits xs p rows)) wr)
  narrow_here (x ∷ xs) (r ∷ rows) (suc i) row once there own h e =
      let out = later_writes x xs i once there own in
      ap (λ z. r ∷ z) (narrow_here xs rows i row once.1 there out.1 h.1 e)
      ∙ sym (ap (λ b. cond b (narrow_task (suits p) p x.1 r ∷ rows) (r ∷ narrow suits xs p rows)) out.0)

  pub empty_here : (listed : Listed Tags) (rows : List (List Bool)) (i : ℕ) (flags : List Bool) → ListedOnce listed
      → slice_get listed i ≡ Some (t, attempts) → owner p listed ≡ Some t → Fitting listed rows
      → empty_at listed p (set rows i flags) ≡ cond (has_flag flags) None (Some t)
  empty_here [] rows i flags once there own h = absurd (cc there)
  empty_here (x ∷ xs) [] i flags once there own h = absurd h
  empty_here (x ∷ xs) (r ∷ rows) zero flags once there own h =
      let same = some_same there in
      let number = ap (λ (z : ℕ × Numbered Tags). z.0) same in
      let wr = first_writes x xs once number own in
      ap (λ b. cond b (cond (has_flag flags) None (Some x.0)) (empty_at xs p rows)) wr
      ∙ ap (λ n. cond (has_flag flags) None (Some n)) number
  empty_here (x ∷ xs) (r ∷ rows) (suc i) flags once there own h =
      let out = later_writes x xs i once there own in
      ap (λ b. cond b (cond (has_flag r) None (Some x.0)) (empty_at xs p (set rows i flags))) out.0
      ∙ empty_here xs rows i flags once.1 there out.1 h.1

-- ---- the place of a path's task

pub found_place : (t k i : ℕ) (attempts : Numbered Tags) (entries inside listed : Listed Tags) → Some k ≡ lookup_key (nat_eq t) entries
    → slice_get entries i ≡ Some (k, attempts) → entries ≡ inside → inside ≡ listed → slice_get listed i ≡ Some (t, attempts)
found_place t k i attempts entries inside listed key entry e same =
    subst (λ l. slice_get l i ≡ Some (t, attempts)) (e ∙ same)
    (subst (λ n. slice_get entries i ≡ Some (n, attempts)) (key_is t k entries (sym key)) entry)

pub owned_by : (p : List ℕ) (t : ℕ) (inside listed : Listed Tags) → Some t ≡ owner p inside → inside ≡ listed → owner p listed ≡ Some t
owned_by p t inside listed own same = subst (λ l. owner p l ≡ Some t) same (sym own)

pub no_place : (p : List ℕ) (t : ℕ) (entries inside : Listed Tags) → Some t ≡ owner p inside → entries ≡ inside
    → None ≡ lookup (nat_eq t) entries → ⊥
no_place p t entries inside own e none = owner_listed p t inside (sym own) (subst (λ l. lookup (nat_eq t) l ≡ None) e (sym none))

module _
    (suits : List ℕ → Option Tags → Bool) (p : List ℕ) (t : ℕ) (attempts : Numbered Tags) (listed : Listed Tags) (rows : List (List Bool))
    (i : ℕ)
    (row flags : List Bool) (once : ListedOnce listed) (there : slice_get listed i ≡ Some (t, attempts)) (own : owner p listed ≡ Some t)
    (fitting : Fitting listed rows) (read : row ≡ get_or rows i row) (is : flags ≡ narrow_task (suits p) p attempts row)
  where
    pub after_is : set rows i flags ≡ narrow suits listed p rows
    after_is = ap (set rows i) is ∙ narrow_here suits p t attempts listed rows i row once there own fitting read

    pub places_are : Fitting listed (set rows i flags)
    places_are = subst (Fitting listed) (sym after_is) (still_fitting suits listed p rows fitting)
