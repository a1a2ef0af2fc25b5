-- New entries of an IndexMap, and its last entry.
use Rattle.text_and_lists.proofs.Options.{none_is}
use Rattle.indexmap.proofs.CallerLemmas.{insert_entry-new}
use Rattle.indexmap.specs.IndexMap.{IndexMap, insert_entry, set_value_at}
use Rattle.job_model.specs.Attempts.{Declared, last_files, with_file}
use Rattle.job_model.specs.Files.{File}
use Rattle.job_model.specs.declared.attempts.AttemptName.{AttemptName}
use Rattle.std.proofs.Common.{Bool, Err, List, Ok, Result, Some, ap, arith, false, is_some, length, refl, slice_get, subst, suc, sym, zero}
use Rattle.std.proofs.Common.{ℕ, [], ◌++◌, ◌+◌, ◌-◌, ◌<◌, ◌∙◌, ◌∷◌, ◌≡◌}
use Rattle.std.proofs.lemmas.Option.{same_Some}
use Rattle.std.specs.Map.{lookup, values_of}
use Rattle.std.specs.Prelude.{OnErr, OnOk, ⊤}
use Rattle.std.specs.declared.alloc.AllocError.{AllocError}

pub insert_new : {K X S : Type 0} (eq : K → K → Bool) (m : IndexMap K X S) (k : K) (v : X) (es : List (K × X)) → m.entries ≡ es
    → is_some (lookup (eq k) es) ≡ false → insert_entry eq m.entries k v ≡ es ++ (k, v) ∷ []
insert_new {K} {X} eq m k v es e h =
    insert_entry-new eq m k v (ap (lookup (eq k)) e ∙ none_is _ h) ∙ ap (λ (l : List (K × X)). l ++ (k, v) ∷ []) e

last_at : (es : List Declared) (i : ℕ) (fs : List File) → i + 1 ≡ length es → slice_get (values_of es) i ≡ Some fs → last_files es ≡ fs
last_at [] i fs n h = absurd (omega arith)
last_at (a ∷ []) zero fs n h = same_Some _ _ h
last_at (a ∷ []) (suc i) fs n h = absurd (omega arith)
last_at (a ∷ b ∷ bs) zero fs n h = absurd (omega arith)
last_at (a ∷ b ∷ bs) (suc i) fs n h = last_at (b ∷ bs) i fs (omega arith) h

added_at : (es : List Declared) (i : ℕ) (fs : List File) (p b : List ℕ) → i + 1 ≡ length es → slice_get (values_of es) i ≡ Some fs
    → set_value_at es i (fs ++ (p, b) ∷ []) ≡ with_file es p b
added_at [] i fs p b n h = absurd (omega arith)
added_at (a ∷ []) zero fs p b n h = ap (λ (l : List File). (a.0, l ++ (p, b) ∷ []) ∷ []) (sym (same_Some _ _ h))
added_at (a ∷ []) (suc i) fs p b n h = absurd (omega arith)
added_at (a ∷ c ∷ cs) zero fs p b n h = absurd (omega arith)
added_at (a ∷ c ∷ cs) (suc i) fs p b n h = ap (λ (l : List Declared). a ∷ l) (added_at (c ∷ cs) i fs p b (omega arith) h)

some_entry : (es : List Declared) (i : ℕ) (fs : List File) → slice_get (values_of es) i ≡ Some fs → 0 < length es
some_entry [] i fs h = absurd cc
some_entry (e ∷ es) i fs h = omega arith

pub last_is : (es : List Declared) (fs : List File) → slice_get (values_of es) (length es - 1) ≡ Some fs → last_files es ≡ fs
last_is es fs h = let some = some_entry es (length es - 1) fs h in last_at es (length es - 1) fs (omega arith) h

pub added_is : (es : List Declared) (fs : List File) (p b : List ℕ) → slice_get (values_of es) (length es - 1) ≡ Some fs
    → set_value_at es (length es - 1) (fs ++ (p, b) ∷ []) ≡ with_file es p b
added_is es fs p b h = let some = some_entry es (length es - 1) fs h in added_at es (length es - 1) fs p b (omega arith) h

pub last_known : (es now : List Declared) (fs : List File) → es ≡ now → Some fs ≡ slice_get (values_of es) (length es - 1)
    → last_files now ≡ fs
last_known es now fs e h = subst (λ (l : List Declared). last_files l ≡ fs) e (last_is es fs (sym h))

pub added_known : (es now : List Declared) (fs more : List File) (p b : List ℕ) → es ≡ now
    → Some fs ≡ slice_get (values_of es) (length es - 1) → more ≡ fs ++ (p, b) ∷ []
    → set_value_at es (length es - 1) more ≡ with_file now p b
added_known es now fs more p b e h m =
    ap (set_value_at es (length es - 1)) m ∙ subst (λ (l : List Declared). set_value_at es (length es - 1) (fs ++ (p, b) ∷ []) ≡ with_file l
    p b) e (added_is es fs p b (sym h))

value_at : (es : List Declared) (i : ℕ) (name : AttemptName) (fs : List File) → Some (name, fs) ≡ slice_get es i
    → Some fs ≡ slice_get (values_of es) i
value_at [] i name fs h = absurd cc
value_at (e ∷ es) zero name fs h = ap (λ (d : Declared). Some d.1) (same_Some _ _ h)
value_at (e ∷ es) (suc i) name fs h = value_at es i name fs h

pub last_entry : (es now : List Declared) (name : AttemptName) (fs : List File) → es ≡ now → Some (name, fs) ≡ slice_get es (length es - 1)
    → last_files now ≡ fs
last_entry es now name fs e h = last_known es now fs e (value_at es (length es - 1) name fs h)

pub added_ok : (r : Result ⊤ AllocError) (x y : List Declared) (A : Type 0) → OnOk r A → (A → x ≡ y) → OnOk r (x ≡ y)
added_ok (Ok t) x y A h f = f h
added_ok (Err e) x y A h f = tt

same_at : (es : List Declared) (i : ℕ) (fs : List File) → slice_get (values_of es) i ≡ Some fs → set_value_at es i fs ≡ es
same_at [] i fs h = refl
same_at (a ∷ rest) zero fs h = ap (λ (l : List File). (a.0, l) ∷ rest) (sym (same_Some _ _ h))
same_at (a ∷ rest) (suc i) fs h = ap (λ (l : List Declared). a ∷ l) (same_at rest i fs h)

-- If the files of the last attempt are unchanged, so are the attempts.
pub kept_known : (es now : List Declared) (fs more : List File) → es ≡ now → Some fs ≡ slice_get (values_of es) (length es - 1) → more ≡ fs
    → set_value_at es (length es - 1) more ≡ now
kept_known es now fs more e h m = ap (set_value_at es (length es - 1)) m ∙ same_at es (length es - 1) fs (sym h) ∙ e

pub kept_err : (r : Result ⊤ AllocError) (x y : List Declared) (A : Type 0) → OnErr r A → (A → x ≡ y) → OnErr r (x ≡ y)
kept_err (Ok t) x y A h f = tt
kept_err (Err e) x y A h f = f h
