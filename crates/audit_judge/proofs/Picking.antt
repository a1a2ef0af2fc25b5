-- The attempt that a judge picks is the least that explains all moments.
use Rattle.audit_claims.specs.Claims.{Tags}
use Rattle.judging.specs.Judging.{StillExplains}
use Rattle.judging.specs.Listed.{Listed, Numbered, files_of, numbered}
use Rattle.soundness.specs.Claims.{Attempts, Files}
use Rattle.soundness.specs.Moments.{Moment}
use Rattle.std.proofs.Common.{Bool, List, None, Option, Some, [], ap, arith, false, get_or, inl, inr, length, refl, subst, suc, sym, true}
use Rattle.std.proofs.Common.{zero, ℕ, ◌+◌, ◌<◌, ◌∙◌, ◌∷◌, ◌≡◌, ◌≤◌, ◌⊎◌}
use Rattle.std.proofs.lemmas.List.Elements.{All-from_recursion}
use Rattle.std.proofs.lemmas.Option.{get_or_from_slice_get, slice_get_within}
use Rattle.std.specs.List.{All, AllByRecursion, AllZip, Any}
use Rattle.std.specs.Map.{lookup}
use Rattle.std.specs.Option.{unwrap_or}
use Rattle.std.specs.Prelude.{IfNone, IfSome, nat_eq, slice_get}
use Rattle.audit_judge.proofs.Narrowed.{AtLeast, lesser_is, lesser_new, lesser_old}
use Rattle.audit_judge.specs.Bench.{Bench, claim, opened}
use Rattle.audit_judge.specs.Following.{Follows}
use Rattle.audit_judge.specs.Narrowed.{Tells, TellsOfAll, TellsOfTask}
use Rattle.audit_judge.specs.inner.Narrowed.{lesser}
use Rattle.audit_judge.specs.Picking.{IsPick, NoPick}
use Rattle.audit_judge.specs.inner.Picking.{least_up, with_number}
use Rattle.audit_judge.proofs.Deciding.{fitting_of}
use Rattle.audit_judge.proofs.Loops.{as_many, within}
use Rattle.audit_judge.specs.Deciding.{bench_of}
use Rattle.audit_judge.specs.inner.Narrowed.{Fitting}
use Rattle.audit_judge.specs.Scene.{Scene}
use Rattle.soundness.specs.declared.marker.Marker.{Marker}
use Rattle.judging.proofs.Listed.{listed_claims}
use Rattle.std.proofs.Common.{drop}

-- ---- the loop

drop_more : (k : ℕ) (flags : List Bool) → k < length flags → drop k flags ≡ get_or flags k false ∷ drop (suc k) flags
drop_more k [] l = absurd (omega (arith, l))
drop_more zero (f ∷ flags) l = refl
drop_more (suc k) (f ∷ flags) l = drop_more k flags (omega (arith, l))

pub pick_more : (k : ℕ) (flags : List Bool) (left rest : Numbered Tags) (a : ℕ × Files Tags) (o p end : Option ℕ) (up : Bool)
    → k + length left ≡ length flags → left ≡ a ∷ rest → up ≡ get_or flags k false → p ≡ with_number up a.0 o
    → least_up left (drop k flags) o ≡ end → least_up rest (drop (k + 1) flags) p ≡ end
pick_more k flags left rest a o p end up places steps is next so_far =
    let n = ap length steps in
    let l : k < length flags = omega (arith, n, places) in
    let e : k + 1 ≡ suc k = omega arith in
    ap (λ j. least_up rest (drop j flags) p) e ∙ ap (least_up rest (drop (suc k) flags)) (next ∙ ap (λ u. with_number u a.0 o) is)
    ∙ ap (λ z. least_up (a ∷ rest) z o) (sym (drop_more k flags l)) ∙ ap (λ z. least_up z (drop k flags) o) (sym steps) ∙ so_far

-- ---- the result

module _ (E : Files Tags → Type 0) where
  old_least : (attempts : Numbered Tags) (flags : List Bool) (o : Option ℕ) (u : ℕ) → AtLeast o u → AtLeast (least_up attempts flags o) u
  old_least [] flags o u h = h
  old_least (a ∷ attempts) [] o u h = h
  old_least (a ∷ attempts) (true ∷ flags) o u h = old_least attempts flags (lesser o (Some a.0)) u (lesser_old o (Some a.0) u h)
  old_least (a ∷ attempts) (false ∷ flags) o u h = old_least attempts flags o u h

  each_least : (attempts : Numbered Tags) (flags : List Bool) (o : Option ℕ) → AllZip (λ a flag. Tells (E a.1) flag) attempts flags
      → AllByRecursion (λ x. E x.1 → AtLeast (least_up attempts flags o) x.0) attempts
  each_least [] flags o h = tt
  each_least (a ∷ attempts) [] o h = absurd h
  each_least (a ∷ attempts) (true ∷ flags) o h = (
    λ e. old_least attempts flags (lesser o (Some a.0)) a.0 (lesser_new o a.0),
    each_least attempts flags (lesser o (Some a.0)) h.1,
  )
  each_least (a ∷ attempts) (false ∷ flags) o h = (λ e. absurd (h.0 e), each_least attempts flags o h.1)

  some_least : (attempts : Numbered Tags) (flags : List Bool) (o : Option ℕ) → AllZip (λ a flag. Tells (E a.1) flag) attempts flags
      → (r : ℕ) → least_up attempts flags o ≡ Some r → (o ≡ Some r) ⊎ Any (λ x. (x.0 ≡ r) × E x.1) attempts
  some_least [] flags o h r e = inl e
  some_least (a ∷ attempts) [] o h r e = absurd h
  some_least (a ∷ attempts) (true ∷ flags) o h r e = by (some_least attempts flags (lesser o (Some a.0)) h.1 r e)
    where
      first : (o ≡ Some r) ⊎ (Some a.0 ≡ Some r) → (o ≡ Some r) ⊎ Any (λ x. (x.0 ≡ r) × E x.1) (a ∷ attempts)
      first (inl e) = inl e
      first (inr e) = inr (0, a, omega arith, refl, (cc e, h.0))

      by : (lesser o (Some a.0) ≡ Some r) ⊎ Any (λ x. (x.0 ≡ r) × E x.1) attempts
          → (o ≡ Some r) ⊎ Any (λ x. (x.0 ≡ r) × E x.1) (a ∷ attempts)
      by (inl e) = first (lesser_is o (Some a.0) r e)
      by (inr i) = inr (suc i.0, i.1, omega (arith, i.2), i.3, i.4)
  some_least (a ∷ attempts) (false ∷ flags) o h r e = by (some_least attempts flags o h.1 r e)
    where
      by : (o ≡ Some r) ⊎ Any (λ x. (x.0 ≡ r) × E x.1) attempts → (o ≡ Some r) ⊎ Any (λ x. (x.0 ≡ r) × E x.1) (a ∷ attempts)
      by (inl e) = inl e
      by (inr i) = inr (suc i.0, i.1, omega (arith, i.2), i.3, i.4)

-- ---- the task's attempts and flags

told_at : (D : Attempts Tags → Files Tags → Type 0) (listed : Listed Tags) (rows : List (List Bool)) (i t : ℕ) (attempts : Numbered Tags)
    (row : List Bool) → TellsOfAll D listed rows → slice_get listed i ≡ Some (t, attempts) → row ≡ get_or rows i row
    → TellsOfTask D attempts row
told_at D [] rows i t attempts row h there e = absurd (cc there)
told_at D (x ∷ xs) [] i t attempts row h there e = absurd h
told_at D (x ∷ xs) (r ∷ rows) zero t attempts row h there e =
    let same : x.1 ≡ attempts = ap (λ (z : Option (ℕ × Numbered Tags)). numbers z attempts) there in
    subst (λ z. TellsOfTask D z row) same (subst (TellsOfTask D x.1) (sym e) h.0)
  where
    numbers : Option (ℕ × Numbered Tags) → Numbered Tags → Numbered Tags
    numbers None d = d
    numbers (Some z) d = z.1
told_at D (x ∷ xs) (r ∷ rows) (suc i) t attempts row h there e = told_at D xs rows i t attempts row h.1 there e

module _ (b : Bench) (moments : List (Moment Tags)) (f : Follows b moments) (t i : ℕ) (attempts : Numbered Tags) (row : List Bool)
    (there : slice_get b.claimed.listed i ≡ Some (t, attempts)) (read : row ≡ get_or b.candidates i row) where
  own : numbered t b.claimed.listed ≡ attempts
  own = subst (λ (z : ℕ × Numbered Tags). numbered z.0 b.claimed.listed ≡ z.1)
      (get_or_from_slice_get b.claimed.listed i (t, attempts) (t, attempts) there)
      ((listed_claims Tags).at b.claimed.listed f.good.once i (t, attempts) (slice_get_within b.claimed.listed i (t, attempts) there))

  abbrev E : Files Tags → Type 0
  E files = StillExplains (claim b) (opened b) moments (files_of attempts) files

  told : AllZip (λ a flag. Tells (E a.1) flag) attempts row
  told = told_at (StillExplains (claim b) (opened b) moments) b.claimed.listed b.candidates i t attempts row f.candidates there read

  pub picked : (r : ℕ) → least_up attempts row None ≡ Some r → IsPick b moments t r
  picked r e = record {
    explains = subst (λ (z : Numbered Tags). Any (λ x. (x.0 ≡ r) × StillExplains (claim b) (opened b) moments (files_of z) x.1) z) (sym own)
        (by (some_least E attempts row None told r e));
    least = subst (λ (z : Numbered Tags). All (λ x. StillExplains (claim b) (opened b) moments (files_of z) x.1 → r ≤ x.0) z) (sym own)
        (All-from_recursion (λ x. E x.1 → r ≤ x.0) attempts
        (subst (λ o. AllByRecursion (λ x. E x.1 → AtLeast o x.0) attempts) e (each_least E attempts row None told)));
  }
    where
      by : (None ≡ Some r) ⊎ Any (λ x. (x.0 ≡ r) × E x.1) attempts → Any (λ x. (x.0 ≡ r) × E x.1) attempts
      by (inl n) = absurd (cc n)
      by (inr a) = a

  pub none_picked : least_up attempts row None ≡ None → NoPick b moments t
  none_picked e = subst (λ (z : Numbered Tags). All (λ x. StillExplains (claim b) (opened b) moments (files_of z) x.1 → ⊥) z) (sym own)
      (All-from_recursion (λ x. E x.1 → ⊥) attempts
      (subst (λ o. AllByRecursion (λ x. E x.1 → AtLeast o x.0) attempts) e (each_least E attempts row None told)))

pub none_listed : (b : Bench) (moments : List (Moment Tags)) (t : ℕ) → lookup (nat_eq t) b.claimed.listed ≡ None → NoPick b moments t
none_listed b moments t e =
    subst (λ (o : Option (Numbered Tags)). All (λ x. StillExplains (claim b) (opened b) moments (files_of (unwrap_or o [])) x.1 → ⊥)
    (unwrap_or o [])) (sym e) (λ k d l. absurd (omega (arith, l)))

-- ---- the same for the parts of a judge

module _
    (b : Bench) (k : Scene) (begun : Bool) (marker : Marker) (needed : Bool) (rows : List (List Bool)) (moments : List (Moment Tags))
    (view : bench_of k begun marker needed rows k.shown ≡ b) (f : Follows b moments) (t : ℕ)
  where
    follows_parts : Follows (bench_of k begun marker needed rows k.shown) moments
    follows_parts = subst (λ (z : Bench). Follows z moments) (sym view) f

    pub fitting_rows : Fitting k.claimed.listed rows
    fitting_rows = fitting_of (StillExplains (claim (bench_of k begun marker needed rows k.shown))
        (opened (bench_of k begun marker needed rows
        k.shown)) moments) k.claimed.listed rows follows_parts.candidates

    pub nothing_listed : lookup (nat_eq t) k.claimed.listed ≡ None → NoPick b moments t
    nothing_listed e = subst (λ (z : Bench). NoPick z moments t) view (none_listed (bench_of k begun marker needed rows k.shown) moments t
        e)

    module _ (i : ℕ) (attempts : Numbered Tags) (row : List Bool) (there : slice_get k.claimed.listed i ≡ Some (t, attempts))
        (read : row ≡ get_or rows i row) where
      pub as_long : length row ≡ length attempts
      as_long = as_many (λ p f. true) [] t attempts k.claimed.listed rows i row there fitting_rows read

      pub some_pick : (o : Option ℕ) → o ≡ least_up attempts row None → IfSome o (IsPick b moments t)
      some_pick None e = tt
      some_pick (Some r) e = subst (λ (z : Bench). IsPick z moments t r) view
          (picked (bench_of k begun marker needed rows k.shown) moments follows_parts t i attempts row there read r (sym e))

      pub no_pick : (o : Option ℕ) → o ≡ least_up attempts row None → IfNone o (NoPick b moments t)
      no_pick None e = subst (λ (z : Bench). NoPick z moments t) view
          (none_picked (bench_of k begun marker needed rows k.shown) moments follows_parts t i attempts row there read (sym e))
      no_pick (Some r) e = tt

    pub place_within : (i : ℕ) (attempts : Numbered Tags) → slice_get k.claimed.listed i ≡ Some (t, attempts) → i < length rows
    place_within i attempts there = within (λ p f. true) [] t attempts k.claimed.listed rows i there fitting_rows
