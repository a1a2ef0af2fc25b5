-- The text that was written so far.
use Rattle.audit_top.specs.Audited.{WritesSome}
use Rattle.devices.specs.Devices.{Appends}
use Rattle.std.proofs.Common.{Err, List, None, Ok, OnErr, Option, Result, Some, ap, drop, length, refl, subst, sym, take, ℕ, [], ◌++◌, ◌∙◌}
use Rattle.std.proofs.Common.{◌≡◌}
use Rattle.std.proofs.lemmas.List.{append-nil, append_assoc, take-append-drop, take_at}

-- Some first bytes of a text were added to the output, and these are left.
abbrev pub IsWrittenSoFar : Option (List ℕ) → Option (List ℕ) → List ℕ → List ℕ → Type 0
IsWrittenSoFar before now text rest = (front : List ℕ) × (text ≡ front ++ rest) × Appends before now front

nothing_more : (before : Option (List ℕ)) → Appends before before []
nothing_more None = refl
nothing_more (Some bytes) = ap (λ (l : List ℕ). Some l) (sym (append-nil bytes))

pub none_written : (before : Option (List ℕ)) (text : List ℕ) → IsWrittenSoFar before before text text
none_written before text = ([], refl, nothing_more before)

both_written : (before now after : Option (List ℕ)) (first second : List ℕ) → Appends before now first → Appends now after second
    → Appends before after (first ++ second)
both_written None now after first second a b = subst (λ (o : Option (List ℕ)). Appends o after second) a b
both_written (Some bytes) now after first second a b =
    subst (λ (o : Option (List ℕ)). Appends o after second) a b ∙ ap (λ (l : List ℕ). Some l) (append_assoc bytes first second)

pub more_written : (before now after : Option (List ℕ)) (text rest : List ℕ) (n : ℕ) → IsWrittenSoFar before now text rest
    → Appends now after (take n rest) → IsWrittenSoFar before after text (drop n rest)
more_written before now after text rest n h a = (
  h.0 ++ take n rest,
  h.1 ∙ ap (λ (l : List ℕ). h.0 ++ l) (sym (take-append-drop n rest)) ∙ sym
      (append_assoc h.0 (take n rest) (drop n rest)),
  both_written before now after h.0 (take n rest) h.2 a,
)

pub all_written : (before now : Option (List ℕ)) (text rest : List ℕ) → rest ≡ [] → IsWrittenSoFar before now text rest
    → Appends before now text
all_written before now text rest end h =
    subst (Appends before now) (sym (h.1 ∙ ap (λ (l : List ℕ). h.0 ++ l) end ∙ append-nil h.0)) h.2

pub some_written : (before now : Option (List ℕ)) (text rest : List ℕ) → IsWrittenSoFar before now text rest → WritesSome before now text
some_written before now text rest h =
    (length h.0, subst (Appends before now) (sym (ap (take (length h.0)) h.1 ∙ take_at h.0 rest (length h.0) refl)) h.2)

-- A fact that holds after any outcome holds after an error.
pub on_error : {X Y P : Type 0} (r : Result X Y) → P → OnErr r P
on_error (Ok x) p = tt
on_error (Err y) p = p
