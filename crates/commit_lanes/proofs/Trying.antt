-- Items of a list by their indices.
use Rattle.job_protocol.specs.LaneTable.{In}
use Rattle.job_protocol.specs.Lanes.{Turn, is_tried}
use Rattle.std.proofs.Common.{List, ap, arith, get_or, inl, inr, length, nat_eq, nat_lt, refl, suc, sym, take, zero, ℕ, [], ◌&&◌, ◌++◌, ◌+◌}
use Rattle.std.proofs.Common.{◌<◌, ◌||◌, ◌∙◌, ◌∷◌, ◌≡◌}
use Rattle.std.proofs.lemmas.List.{take_more}
use Rattle.std.specs.List.{list_any}

pub tried_any : (xs : List Turn) (n : ℕ) → list_any (λ (x : Turn). nat_eq n x.number && nat_lt 0 x.missed) xs ≡ is_tried xs n
tried_any [] n = refl
tried_any (x ∷ xs) n = ap (λ b. (nat_eq n x.number && nat_lt 0 x.missed) || b) (tried_any xs n)

-- The number at an index of a list is an item of the list.
pub in_at : (xs : List ℕ) (i d : ℕ) → i < length xs → In (get_or xs i d) xs
in_at [] i d h = absurd (omega arith)
in_at (x ∷ xs) zero d h = inl refl
in_at (x ∷ xs) (suc i) d h = inr (in_at xs i d (omega arith))

pub take_next : {X : Type 0} (xs : List X) (i : ℕ) (c : X) → i < length xs → c ≡ get_or xs i c → take (suc i) xs ≡ take i xs ++ c ∷ []
take_next xs i c h e = let s : suc i ≡ i + 1 = omega arith in ap (λ n. take n xs) s ∙ take_more xs i c h ∙ ap (λ v. take i xs ++ v ∷ [])
    (sym e)
