-- A growing set of numbers.
use Rattle.job_protocol.specs.Lanes.{is_in}
use Rattle.std.proofs.Common.{Bool, List, ap, arith, cond, false, get_or, length, nat_eq, refl, reverse, subst, suc, sym, take, true, ℕ, []}
use Rattle.std.proofs.Common.{◌+◌, ◌<◌, ◌||◌, ◌∙◌, ◌∷◌, ◌≡◌, ◌⊎◌}
use Rattle.std.proofs.lemmas.List.{reverse-append, take_more}
use Rattle.std.specs.Ordering.{is_eq, nat_cmp}

pub three : (a b : ℕ) → (a < b) ⊎ ((a ≡ b) ⊎ (b < a))
three a b = grind arith

at_is : (x q : ℕ) → is_eq (nat_cmp x q) ≡ nat_eq q x
at_is x q = grind arith

pub number_more : (xs : List ℕ) (i j q : ℕ) (was now : Bool) → i < length xs → j ≡ suc i
    → now ≡ cond (is_eq (nat_cmp (get_or xs i 0) q)) true was → was ≡ is_in (reverse (take i xs)) q → now ≡ is_in (reverse (take j xs)) q
number_more xs i j q was now h s e f =
    let x = get_or xs i 0 in
    let n : suc i ≡ i + 1 = omega arith in
    let P : ℕ → Type 0 = λ n. now ≡ is_in (reverse (take n xs)) q in
    subst P (sym s) (
    e
    ∙ ap (λ b. cond b true was) (at_is x q)
    ∙ (elim (nat_eq q x) as (λ b. cond b true was ≡ (b || was)) [ true ↦ refl | false ↦ refl ])
    ∙ ap (λ b. nat_eq q x || b) f
    ∙ sym (ap (λ v. is_in v q) (ap reverse (ap (λ m. take m xs) n ∙ take_more xs i 0 h) ∙ reverse-append (take i xs) (x ∷ [])))
    )
