-- A deletion after a reply, by its prefixes and the place of the current one.
use Rattle.text_and_lists.proofs.Naturals.{at_most_is, at_most_not}
use Rattle.conflict.specs.Checks.{is_none}
use Rattle.conflict.specs.Deletions.{Deletion, FitsBelow, FitsDeletion, deletion_hears, hears_below, swept_on}
use Rattle.list_walk.specs.Fitting.{FitsSweep}
use Rattle.list_walk.specs.Kept.{kept}
use Rattle.list_walk.specs.Walks.{Sweep, sweep_hears, sweep_start}
use Rattle.s3_types.specs.Pages.{begins}
use Rattle.s3_types.specs.declared.reply.Reply.{Reply}
use Rattle.std.proofs.Common.{Bool, List, add-one, ap, arith, drop, false, length, nat_le, not, refl, subst, suc, sym, true, zero, ℕ, []}
use Rattle.std.proofs.Common.{◌+◌, ◌<◌, ◌∙◌, ◌∷◌, ◌≡◌, ◌≤◌}
use Rattle.std.proofs.lemmas.List.{drop_all}

pub first_of : {X : Type 0} (xs : List X) (at : ℕ) → at < length xs → (x : X) × (drop at xs ≡ x ∷ drop (at + 1) xs)
first_of [] at h = absurd (omega arith)
first_of (x ∷ xs) zero h = (x, refl)
first_of (x ∷ xs) (suc i) h = let y = first_of xs i (omega arith) in (y.0, y.1 ∙ rw (add-one, add-one) refl)

-- Nothing is left after the last prefix.
pub none_left : (ps : List (List ℕ)) (n at : ℕ) → n ≡ length ps → nat_le n at ≡ is_none (drop at ps)
none_left ps n at e = by (nat_le n at) refl
  where
    by : (b : Bool) → nat_le n at ≡ b → b ≡ is_none (drop at ps)
    by true t = let most : n ≤ at = at_most_is n at t in sym (ap is_none (drop_all at ps (omega arith)))
    by false t = let more : at < n = at_most_not n at t in let x = first_of ps at (omega arith) in sym (ap is_none x.1)

abbrev pub deletion : List (List ℕ) → ℕ → Sweep → List ℕ → Deletion
deletion ps at s spared = record { prefixes = drop at ps; sweep = s; spared = spared }

module _ (ps : List (List ℕ)) (at : ℕ) (s : Sweep) (spared : List ℕ) (r : Reply) (within : at < length ps) where
  pub fits_here : (d : Deletion) → deletion ps at s spared ≡ d → FitsDeletion d r → FitsSweep s r
  fits_here d e h =
      let x = first_of ps at within in
      let f : FitsDeletion (deletion ps at s spared) r = subst (λ y. FitsDeletion y r) (sym e) h in
      subst (λ l. FitsBelow s l r) x.1 f

  heard : (more : Bool) (next : Sweep) → sweep_hears (λ key. not (begins spared key)) s r ≡ kept more next
      → deletion_hears (deletion ps at s spared) r ≡ (let x = first_of ps at within in swept_on spared x.0 (drop (at + 1) ps)
      (kept more next))
  heard more next e =
      let x = first_of ps at within in
      ap (λ l. hears_below (deletion ps at s spared) l r) x.1 ∙ ap (swept_on spared x.0 (drop (at + 1) ps)) e

  pub goes_on : (d : Deletion) (more : Bool) (next : Sweep) → deletion ps at s spared ≡ d
      → sweep_hears (λ key. not (begins spared key)) s r ≡ kept more next → more ≡ true → deletion ps at next spared ≡ deletion_hears d r
  goes_on d more next v e b =
      let x = first_of ps at within in
      let all : deletion ps at next spared ≡ swept_on spared x.0 (drop (at + 1) ps) (kept true next) = ap
      (λ l. record { prefixes = l; sweep = next; spared = spared }) x.1 in
      all ∙ (ap (λ c. swept_on spared x.0 (drop (at + 1) ps) (kept c next)) (sym b) ∙
      (sym (heard more next e) ∙ ap (λ y. deletion_hears y r) v))

  pub goes_next : (d : Deletion) (more : Bool) (next z : Sweep) → deletion ps at s spared ≡ d
      → sweep_hears (λ key. not (begins spared key)) s r ≡ kept more next → more ≡ false → z ≡ sweep_start
      → deletion ps (at + 1) z spared ≡ deletion_hears d r
  goes_next d more next z v e b f =
      let x = first_of ps at within in
      ap (λ (y : Sweep). deletion ps (at + 1) y spared) f
      ∙ (ap (λ c. swept_on spared x.0 (drop (at + 1) ps) (kept c next)) (sym b) ∙
      (sym (heard more next e) ∙ ap (λ y. deletion_hears y r) v))
