-- One more entry, as a job reads it.
use Rattle.job_spec.specs.Eyes.{entry_in, in_eyes, number_in}
use Rattle.s3_types.specs.Foretold.{AreForetold, IsForetold}
use Rattle.s3_types.specs.declared.fates.Fate.{Fate}
use Rattle.s3_types.specs.declared.journal.Entry.{Entry}
use Rattle.s3_types.specs.declared.journal.Outcome.{Outcome}
use Rattle.s3_types.specs.declared.request.Actor.{Actor}
use Rattle.s3_types.specs.declared.request.Actor.TheVariants.{Shell}
use Rattle.s3_types.specs.declared.request.Request.{Request}
use Rattle.std.proofs.Common.{Bool, List, Option, ap, arith, cond, length, subst, suc, sym, true, ℕ, [], ◌++◌, ◌+◌, ◌∙◌, ◌∷◌, ◌≡◌}
use Rattle.std.proofs.lemmas.List.{map-append}

module _ (mine : ℕ → Bool) where
  -- The next event has the next number of the job, if it is the job's own.
  pub next_number : (n : ℕ) → mine (n + 1) ≡ true → number_in mine (n + 1) ≡ number_in mine n + 1
  next_number n h =
      let e : n + 1 ≡ suc n = omega arith in
      ap (number_in mine) e ∙ ap (λ b. cond b (number_in mine n + 1) (number_in mine n)) (ap mine (sym e) ∙ h)

  pub eyes_more : (es fs : List Entry) (n : ℕ) (a : Actor) (r : Request) (o : Outcome) → mine (n + 1) ≡ true
      → fs ≡ es ++ record { event = n + 1; actor = a; request = r; outcome = o } ∷ []
      → in_eyes mine fs ≡ in_eyes mine es ++ record { event = number_in mine n + 1; actor = a; request = r; outcome = o } ∷ []
  eyes_more es fs n a r o h e =
      ap (in_eyes mine) e ∙ map-append (entry_in mine) es (record { event = n + 1; actor = a; request = r; outcome = o } ∷ [])
      ∙ ap (λ k. in_eyes mine es ++ record { event = k; actor = cond (mine (n + 1)) a Shell; request = r; outcome = o } ∷ [])
      (next_number n h)
      ∙ ap (λ b. in_eyes mine es ++ record { event = number_in mine n + 1; actor = cond b a Shell; request = r; outcome = o } ∷ []) h

pub foretold_last : (told : ℕ → Option Fate) (n : ℕ) (es : List Entry) (e : Entry) → AreForetold told n es
    → IsForetold (told (n + length es)) e.outcome → AreForetold told n (es ++ e ∷ [])
foretold_last told n [] e h one = let k : n + 0 ≡ n = omega arith in (subst (λ m. IsForetold (told m) e.outcome) k one, tt)
foretold_last told n (x ∷ es) e h one =
    let k : n + suc (length es) ≡ n + 1 + length es = omega arith in
    (h.0, foretold_last told (n + 1) es e h.1 (subst (λ m. IsForetold (told m) e.outcome) k one))

-- Entries that are foretold by some fates are foretold by equal ones.
pub foretold_as : (told new : ℕ → Option Fate) (n : ℕ) (es : List Entry) → ((m : ℕ) → new m ≡ told m) → AreForetold told n es
    → AreForetold new n es
foretold_as told new n [] same h = tt
foretold_as told new n (e ∷ es) same h = (subst (λ f. IsForetold f e.outcome) (sym (same n)) h.0, foretold_as told new (n + 1) es same h.1)
