-- The list of picks, as one more set is read.
use Rattle.job_model.specs.declared.ends.Pick.{Pick}
use Rattle.job_protocol.specs.Outputs.{Picks}
use Rattle.job_spec.specs.Promise.{picked, picks_below}
use Rattle.std.proofs.Common.{List, None, Option, Some, ap, arith, inl, inr, length, length-append, refl, suc, sym, true, zero, ℕ, [], ◌++◌}
use Rattle.std.proofs.Common.{◌<◌, ◌∙◌, ◌∷◌, ◌≡◌, ◌≤◌, ◌⊎◌}
use Rattle.std.proofs.lemmas.List.{append-nil}
use Rattle.std.specs.Option.{is_some}

pub below_same : (p q : Picks) (n : ℕ) → ((t : ℕ) → t < n → p t ≡ q t) → picks_below p n ≡ picks_below q n
below_same p q zero h = refl
below_same p q (suc n) h = ap (λ l. l ++ picked n (p n)) (below_same p q n (λ t l. h t (omega arith))) ∙ ap
    (λ o. picks_below q n ++ picked n o) (h n (omega arith))

-- Tasks without a pick add nothing.
pub below_none : (p : Picks) (n high : ℕ) → n ≤ high → ((t : ℕ) → n ≤ t → t < high → p t ≡ None) → picks_below p high ≡ picks_below p n
below_none p n zero l h = let e : zero ≡ n = omega arith in ap (picks_below p) e
below_none p n (suc high) l h = elim (here n high l) [
  | inl k ↦
      ap (λ v. v ++ picked high (p high)) (below_none p n high k (λ t a b. h t a (omega arith)))
      ∙ ap (λ o. picks_below p n ++ picked high o) (h high k (omega arith)) ∙ append-nil (picks_below p n)
  | inr e ↦ ap (picks_below p) (sym e)
]
  where
    here : (a b : ℕ) → a ≤ suc b → (a ≤ b) ⊎ (a ≡ suc b)
    here zero b l = inl (omega arith)
    here (suc a) zero l = inr (omega arith)
    here (suc a) (suc b) l = elim (here a b (omega arith)) [ inl k ↦ inl (omega arith) | inr e ↦ inr (omega arith) ]

-- If each task has a pick, there are as many picks as tasks.
pub below_all : (p : Picks) (n : ℕ) → ((t : ℕ) → t < n → is_some (p t) ≡ true) → length (picks_below p n) ≡ n
below_all p zero h = refl
below_all p (suc n) h =
    let front = below_all p n (λ t l. h t (omega arith)) in
    let both = length-append (picks_below p n) (picked n (p n)) in
    let last = one (p n) (h n (omega arith)) in
    omega arith
  where
    one : (o : Option ℕ) → is_some o ≡ true → length (picked n o) ≡ 1
    one (Some a) e = refl
    one None e = absurd cc

-- One more pick is the last one.
pub below_more : (p q : Picks) (n high a : ℕ) → n < high → ((t : ℕ) → t < n → is_some (p t) ≡ true)
    → ((t : ℕ) → n ≤ t → t < high → p t ≡ None) → ((t : ℕ) → t < high → (t ≡ n → ⊥) → q t ≡ p t) → q n ≡ Some a
    → picks_below p high ++ record { task = length (picks_below p high); attempt = a } ∷ [] ≡ picks_below q high
below_more p q n high a low some none same here =
    let cut = below_none p n high (omega arith) none in
    let long = ap length cut ∙ below_all p n some in
    let rest = below_none q (suc n) high (omega arith) (λ t l k. same t k (omega arith) ∙ none t (omega arith) k) in
    let front = below_same q p n (λ t l. same t (omega arith) (omega arith)) in
    ap (λ (v : List Pick). v ++ record { task = length (picks_below p high); attempt = a } ∷ []) cut
    ∙ ap (λ (i : ℕ). picks_below p n ++ record { task = i; attempt = a } ∷ []) long
    ∙ sym (rest ∙ ap (λ v. v ++ picked n (q n)) front ∙ ap (λ o. picks_below p n ++ picked n o) here)
