-- Places in appended lists, and ways to divide a list.
use Rattle.std.proofs.Common.{◌≡◌, refl, ap, sym, ◌∙◌, ◌⊎◌, inl, inr, List, [], ◌∷◌, ◌++◌}

-- Of two ways to divide a list, either both are the same, or one divides it earlier.
pub parted : {X : Type 0} (fs : List X) (a : X) (bs : List X) (cs : List X) (c : X) (ds : List X) → fs ++ a ∷ bs ≡ cs ++ c ∷ ds
    → ((fs ≡ cs) × (a ≡ c)) ⊎ (((zs : List X) × (cs ≡ fs ++ a ∷ zs)) ⊎ ((zs : List X) × (fs ≡ cs ++ c ∷ zs)))
parted [] a bs [] c ds e = let h : a ≡ c = cc in inl (refl, h)
parted [] a bs (x ∷ cs) c ds e = let h : a ≡ x = cc in inr (inl (cs, ap (λ v. v ∷ cs) (sym h)))
parted (x ∷ fs) a bs [] c ds e = let h : x ≡ c = cc in inr (inr (fs, ap (λ v. v ∷ fs) h))
parted (x ∷ fs) a bs (y ∷ cs) c ds e =
    let h : x ≡ y = cc in
    let t : fs ++ a ∷ bs ≡ cs ++ c ∷ ds = cc in
    elim (parted fs a bs cs c ds t) [
      | inl r ↦ let i : x ∷ fs ≡ y ∷ cs = cc in inl (i, r.1)
      | inr (inl z) ↦ let i : y ∷ cs ≡ x ∷ (fs ++ a ∷ z.0) = ap (λ v. v ∷ cs) (sym h) ∙ ap (λ v. x ∷ v) z.1 in inr (inl (z.0, i))
      | inr (inr z) ↦ let i : x ∷ fs ≡ y ∷ (cs ++ c ∷ z.0) = ap (λ v. v ∷ fs) h ∙ ap (λ v. y ∷ v) z.1 in inr (inr (z.0, i))
    ]
