-- A text that ends without a `/`.
use Rattle.text_and_lists.proofs.Lists.{last_is}
use Rattle.s3_types.specs.Names.{trimmed}
use Rattle.std.proofs.Common.{Bool, List, arith, false, length, nat_lt, refl, slice_index, take, true, ℕ, [], ◌&&◌, ◌++◌, ◌-◌, ◌<◌, ◌==◌}
use Rattle.std.proofs.Common.{◌∷◌, ◌≡◌, ◌≢◌}
use Rattle.std.proofs.lemmas.Bool.{and_parts, eqb-true}
use borrow.Author.Tests.{ltb-true}

pub no_end : (bs : List ℕ) → ((front : List ℕ) → bs ≢ front ++ 47 ∷ []) → bs ≡ trimmed bs
no_end bs h = by (nat_lt 0 (length bs) && (slice_index bs (length bs - 1) == 47)) refl
  where
    by : (b : Bool) → (nat_lt 0 (length bs) && (slice_index bs (length bs - 1) == 47)) ≡ b → bs ≡ trimmed bs
    by true e =
        let parts = and_parts (nat_lt 0 (length bs)) (slice_index bs (length bs - 1) == 47) e in
        let some : 0 < length bs = ltb-true 0 (length bs) parts.0 in
        absurd (h (take (length bs - 1) bs) (last_is 47 bs (length bs - 1) (omega arith) (eqb-true _ _ parts.1)))
    by false e = rw e refl
