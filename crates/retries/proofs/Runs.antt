-- Operations that go on by one send.
use Rattle.retries.specs.Operation.{Follows, run}
use Rattle.retries.specs.Retries.{Item, Retried, has_worn, step, wears}
use Rattle.s3_types.specs.declared.journal.Entry.{Entry}
use Rattle.s3_types.specs.declared.journal.Outcome.{Outcome}
use Rattle.s3_types.specs.declared.request.Request.{Request}
use Rattle.std.proofs.Common.{List, Option, Some, ap, refl, suc, sym, take, zero, ℕ, [], ◌++◌, ◌||◌, ◌∙◌, ◌∷◌, ◌≡◌}
use Rattle.std.proofs.Math.Bool.{or-false, or_assoc}

pub run_more : {M : Type 0} (tells : M → Outcome → M) (m : M) (part : List Entry) (e : Entry)
    → run tells m (part ++ e ∷ []) ≡ tells (run tells m part) e.outcome
run_more tells m [] e = refl
run_more tells m (x ∷ part) e = run_more tells (tells m x.outcome) part e

pub follows_more : {M : Type 0} (wants : M → Option Request) (tells : M → Outcome → M) (m : M) (part : List Entry) (e : Entry)
    → Follows wants tells m part → wants (run tells m part) ≡ Some e.request → Follows wants tells m (part ++ e ∷ [])
follows_more wants tells m [] e h k = (k, tt)
follows_more wants tells m (x ∷ part) e h k = (h.0, follows_more wants tells (tells m x.outcome) part e h.1 k)

pub follows_take : {M : Type 0} (wants : M → Option Request) (tells : M → Outcome → M) (n : ℕ) (m : M) (part : List Entry)
    → Follows wants tells m part → Follows wants tells m (take n part)
follows_take wants tells zero m part h = tt
follows_take wants tells (suc n) m [] h = tt
follows_take wants tells (suc n) m (e ∷ es) h = (h.0, follows_take wants tells n (tells m e.outcome) es h.1)

pub has_worn_more : {M : Type 0} (retries : ℕ) (after : M → Item → M) (t : Retried M) (part : List Entry) (e : Entry)
    → has_worn retries after t (part ++ e ∷ []) ≡ (has_worn retries after t part || wears (run (step retries after) t part) e.outcome)
has_worn_more retries after t [] e = or-false (wears t e.outcome)
has_worn_more retries after t (x ∷ part) e =
    ap (λ b. wears t x.outcome || b) (has_worn_more retries after (step retries after t x.outcome) part e) ∙ sym
    (or_assoc (wears t x.outcome) _ _)
