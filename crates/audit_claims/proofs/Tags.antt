-- Whether contents have the same tags.
use Rattle.std.proofs.Common.{◌≡◌, Bool, refl}
use Rattle.std.specs.Prelude.{Decides}
use Rattle.std.proofs.lemmas.Bool.Decides.{Decides-eqb}
use Rattle.std.proofs.lemmas.Slice.Eq.{slice_eq-Decides}
use Rattle.text_and_lists.specs.Order.{text_eq}
use Rattle.audit_claims.specs.Claims.{Tags}
use Rattle.audit_claims.specs.Etags.{tags_eq}

-- The result of `==` of two contents decides whether they have the same tags.
pub tags_decide : (a b : Tags) (same : Bool) → same ≡ tags_eq a b → Decides same (a ≡ b)
tags_decide = slice_eq-Decides (λ x y. slice_eq-Decides Decides-eqb x y (text_eq x y) refl)
