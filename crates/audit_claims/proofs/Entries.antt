-- New entries of an IndexMap, and the last one.
use Rattle.std.proofs.Common.{◌≡◌, ℕ, zero, suc, ◌+◌, ◌-◌, ◌<◌, Bool, false, List, [], ◌∷◌, ◌++◌, length, slice_get, Some, is_some, refl}
use Rattle.std.proofs.Common.{sym, ap, subst, ◌∙◌, arith, Result, Ok, Err}
use Rattle.std.specs.Prelude.{OnOk, OnErr, ⊤}
use Rattle.std.specs.declared.alloc.AllocError.{AllocError}
use Rattle.std.specs.Map.{lookup, values_of}
use Rattle.std.proofs.lemmas.Option.{same_Some}
use Rattle.text_and_lists.proofs.Options.{none_is}
use Rattle.indexmap.specs.IndexMap.{IndexMap, insert_entry, set_value_at}
use Rattle.indexmap.proofs.CallerLemmas.{insert_entry-new}
use Rattle.soundness.specs.Claims.{Files}
use Rattle.judging.specs.Listed.{Numbered, last_files, with_last}

pub insert_new : {K X S : Type 0} (eq : K → K → Bool) (m : IndexMap K X S) (k : K) (v : X) (es : List (K × X)) → m.entries ≡ es
    → is_some (lookup (eq k) es) ≡ false → insert_entry eq m.entries k v ≡ es ++ (k, v) ∷ []
insert_new {K} {X} eq m k v es e h =
    insert_entry-new eq m k v (ap (lookup (eq k)) e ∙ none_is _ h) ∙ ap (λ (l : List (K × X)). l ++ (k, v) ∷ []) e

module _ {I : Type 0} where
  last_at : (es : Numbered I) (i : ℕ) (fs : Files I) → i + 1 ≡ length es → slice_get (values_of es) i ≡ Some fs → last_files es ≡ fs
  last_at [] i fs n h = absurd (omega arith)
  last_at (a ∷ []) zero fs n h = same_Some _ _ h
  last_at (a ∷ []) (suc i) fs n h = absurd (omega arith)
  last_at (a ∷ b ∷ bs) zero fs n h = absurd (omega arith)
  last_at (a ∷ b ∷ bs) (suc i) fs n h = last_at (b ∷ bs) i fs (omega arith) h

  added_at : (es : Numbered I) (i : ℕ) (fs : Files I) (p : List ℕ) (t : I) → i + 1 ≡ length es → slice_get (values_of es) i ≡ Some fs
      → set_value_at es i (fs ++ (p, t) ∷ []) ≡ with_last p t es
  added_at [] i fs p t n h = absurd (omega arith)
  added_at (a ∷ []) zero fs p t n h = ap (λ (l : Files I). (a.0, l ++ (p, t) ∷ []) ∷ []) (sym (same_Some _ _ h))
  added_at (a ∷ []) (suc i) fs p t n h = absurd (omega arith)
  added_at (a ∷ c ∷ cs) zero fs p t n h = absurd (omega arith)
  added_at (a ∷ c ∷ cs) (suc i) fs p t n h = ap (λ (l : Numbered I). a ∷ l) (added_at (c ∷ cs) i fs p t (omega arith) h)

  some_entry : (es : Numbered I) (i : ℕ) (fs : Files I) → slice_get (values_of es) i ≡ Some fs → 0 < length es
  some_entry [] i fs h = absurd cc
  some_entry (e ∷ es) i fs h = omega arith

  pub last_is : (es : Numbered I) (fs : Files I) → slice_get (values_of es) (length es - 1) ≡ Some fs → last_files es ≡ fs
  last_is es fs h = let some = some_entry es (length es - 1) fs h in last_at es (length es - 1) fs (omega arith) h

  pub added_is : (es : Numbered I) (fs : Files I) (p : List ℕ) (t : I) → slice_get (values_of es) (length es - 1) ≡ Some fs
      → set_value_at es (length es - 1) (fs ++ (p, t) ∷ []) ≡ with_last p t es
  added_is es fs p t h = let some = some_entry es (length es - 1) fs h in added_at es (length es - 1) fs p t (omega arith) h

  pub last_known : (es now : Numbered I) (fs : Files I) → es ≡ now → Some fs ≡ slice_get (values_of es) (length es - 1)
      → last_files now ≡ fs
  last_known es now fs e h = subst (λ (l : Numbered I). last_files l ≡ fs) e (last_is es fs (sym h))

  pub added_known : (es now : Numbered I) (fs more : Files I) (p : List ℕ) (t : I) → es ≡ now
      → Some fs ≡ slice_get (values_of es) (length es - 1) → more ≡ fs ++ (p, t) ∷ []
      → set_value_at es (length es - 1) more ≡ with_last p t now
  added_known es now fs more p t e h m =
      ap (set_value_at es (length es - 1)) m
      ∙ subst (λ (l : Numbered I). set_value_at es (length es - 1) (fs ++ (p, t) ∷ []) ≡ with_last p t l) e (added_is es fs p t (sym h))

  value_at : (es : Numbered I) (i : ℕ) (n : ℕ) (fs : Files I) → Some (n, fs) ≡ slice_get es i → Some fs ≡ slice_get (values_of es) i
  value_at [] i n fs h = absurd cc
  value_at (e ∷ es) zero n fs h = ap (λ (d : ℕ × Files I). Some d.1) (same_Some _ _ h)
  value_at (e ∷ es) (suc i) n fs h = value_at es i n fs h

  pub last_entry : (es now : Numbered I) (n : ℕ) (fs : Files I) → es ≡ now → Some (n, fs) ≡ slice_get es (length es - 1)
      → last_files now ≡ fs
  last_entry es now n fs e h = last_known es now fs e (value_at es (length es - 1) n fs h)

  same_at : (es : Numbered I) (i : ℕ) (fs : Files I) → slice_get (values_of es) i ≡ Some fs → set_value_at es i fs ≡ es
  same_at [] i fs h = refl
  same_at (a ∷ rest) zero fs h = ap (λ (l : Files I). (a.0, l) ∷ rest) (sym (same_Some _ _ h))
  same_at (a ∷ rest) (suc i) fs h = ap (λ (l : Numbered I). a ∷ l) (same_at rest i fs h)

  -- Setting the last files to what they were does not change the attempts.
  pub kept_known : (es now : Numbered I) (fs more : Files I) → es ≡ now → Some fs ≡ slice_get (values_of es) (length es - 1) → more ≡ fs
      → set_value_at es (length es - 1) more ≡ now
  kept_known es now fs more e h m = ap (set_value_at es (length es - 1)) m ∙ same_at es (length es - 1) fs (sym h) ∙ e

pub on_ok : (r : Result ⊤ AllocError) (A B : Type 0) → OnOk r A → (A → B) → OnOk r B
on_ok (Ok t) A B h f = f h
on_ok (Err e) A B h f = tt

pub on_err : (r : Result ⊤ AllocError) (A B : Type 0) → OnErr r A → (A → B) → OnErr r B
on_err (Ok t) A B h f = tt
on_err (Err e) A B h f = f h
