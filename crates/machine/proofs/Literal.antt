-- If no send of the present request came before, the entries alone say whether a request of the run exhausted its retries.
use Rattle.retries.proofs.First.{counted_first, some_worn}
use Rattle.retries.specs.Operation.{Follows}
use Rattle.retries.specs.Retries.{Item, Retried, fresh, has_worn, step, wants_of, worn_in}
use Rattle.retries.specs.Worn.{WornFirst}
use Rattle.s3_types.specs.declared.journal.Entry.{Entry}
use Rattle.s3_types.specs.declared.request.Request.{Request}
use Rattle.std.proofs.Common.{Bool, List, None, Option, Some, ap, arith, false, is_some, subst, sym, true, ℕ, ◌∙◌, ◌≡◌}
use Rattle.std.proofs.lemmas.Bool.{false≢true}

first_worn : (retries : ℕ) (part : List Entry) (o : Option Request) (b : Bool) → WornFirst retries part o → b ≡ is_some o → b ≡ true
    → (r : Request) × WornFirst retries part (Some r)
first_worn retries part o b h g e = grind arith

none_worn : (retries : ℕ) (part : List Entry) (o : Option Request) (b : Bool) → WornFirst retries part o → b ≡ is_some o → b ≡ false
    → WornFirst retries part None
none_worn retries part (Some r) b f e h = absurd (false≢true (sym h ∙ e))
none_worn retries part None b f e h = f

module _ {M : Type 0} (retries : ℕ) (wants : M → Option Request) (after : M → Item → M) where
  pub literal_worn : (t : Retried M) (m : M) (part : List Entry) → Follows (wants_of wants) (step retries after) t part
      → has_worn retries after t part ≡ true → t ≡ fresh retries m → (r : Request) × WornFirst retries part (Some r)
  literal_worn t m part h g e = grind (arith, first_worn, counted_first, some_worn)

  pub literal_whole : (t : Retried M) (m : M) (part : List Entry) → Follows (wants_of wants) (step retries after) t part
      → has_worn retries after t part ≡ false → t ≡ fresh retries m → WornFirst retries part None
  literal_whole t m part f h e =
      none_worn retries part (worn_in retries after (fresh retries m) part) _
      (counted_first retries wants after m part (subst (λ v. Follows (wants_of wants) (step retries after) v part) e f))
      (some_worn retries wants after (fresh retries m) part) (ap (λ v. has_worn retries after v part) (sym e) ∙ h)
