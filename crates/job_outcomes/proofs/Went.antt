-- An operation of replies, by entries in a row: what holds when it begins holds at its end, or a request of it ran out of retries.
use Rattle.text_and_lists.proofs.Members.{none_some}
use Rattle.retries.specs.Operation.{Follows, run}
use Rattle.retries.specs.Retries.{Got, Item, Retried, WornOut, is_zero, step, unanswered_by, wants_of, wears, worn_in}
use Rattle.s3_types.specs.Answer.{answer, apply}
use Rattle.s3_types.specs.Moment.{AreHonest, IsHonestOutcome, after_all, effect}
use Rattle.s3_types.specs.Store.{Scene}
use Rattle.s3_types.specs.declared.journal.Entry.{Entry}
use Rattle.s3_types.specs.declared.journal.Outcome.{Outcome}
use Rattle.s3_types.specs.declared.journal.Outcome.TheVariants.{Answered, ReplyLost, RequestLost, Slow}
use Rattle.s3_types.specs.declared.reply.Reply.{Reply}
use Rattle.s3_types.specs.declared.request.Request.{Request}
use Rattle.std.proofs.Common.{Bool, List, None, Option, Some, ap, arith, cond, inl, refl, true, ℕ, [], ◌∙◌, ◌∷◌, ◌≡◌, ◌⊎◌}

module _ {M : Type 0} (retries : ℕ) (asks : M → Option Request) (after : M → Item → M) (holds : Scene → M → Type 0)
    (heard : (s : Scene) (m : M) → holds s m → (r : Request) → asks m ≡ Some r → (x : Reply) (repeated : Bool) → x ≡ answer s r
    → holds (apply s r) (after m (Got x repeated)))
    (still : (s : Scene) (m : M) → holds s m → (r : Request) → asks m ≡ Some r → holds (apply s r) m)
    (stops : (m : M) → asks (after m WornOut) ≡ None) where
  -- It holds at the end, or a request ran out of retries and nothing followed.
  abbrev pub Went : Retried M → Scene → List Entry → Type 0
  Went t s es = ((worn_in retries after t es ≡ None) × holds (after_all s es) (run (step retries after) t es).operation)
      ⊎ ((r : Request) × (m : M) × (worn_in retries after t es ≡ Some r) × ((run (step retries after) t es).operation ≡ after m WornOut))

  -- After a request that ran out of retries, nothing is asked.
  nothing_more : (t : Retried M) (m : M) → t.operation ≡ after m WornOut → (es : List Entry)
      → Follows (wants_of asks) (step retries after) t es → es ≡ []
  nothing_more t m e [] f = refl
  nothing_more t m e (x ∷ es) f = absurd (none_some (ap asks e ∙ stops m) f.0)

  abbrev On : Retried M → Scene → List Entry → Type 0
  On t s es = holds s t.operation → Follows (wants_of asks) (step retries after) t es → AreHonest s es → Went t s es

  -- A send without an answer.
  missed : (m : M) (spare : ℕ) (repeated : Bool) (s : Scene) (r : Request) (es : List Entry) → ((t : Retried M) → On t s es) → holds s m
      → Follows (wants_of asks) (step retries after) (unanswered_by retries after m repeated spare) es → AreHonest s es
      → ((cond (is_zero spare) (Some r) (worn_in retries after (unanswered_by retries after m repeated spare) es) ≡ None)
      × holds (after_all s es) (run (step retries after) (unanswered_by retries after m repeated spare) es).operation)
      ⊎ ((q : Request) × (n : M) × (cond (is_zero spare) (Some r) (worn_in retries after (unanswered_by retries after m repeated spare) es)
      ≡ Some q) × ((run (step retries after) (unanswered_by retries after m repeated spare) es).operation ≡ after n WornOut))
  missed m spare repeated s r es h g e f = grind (arith, nothing_more)

  one : (t : Retried M) (s : Scene) (r : Request) (o : Outcome) (es : List Entry) → ((u : Scene) (v : Retried M) → On v u es)
      → holds s t.operation → asks t.operation ≡ Some r → Follows (wants_of asks) (step retries after) (step retries after t o) es
      → IsHonestOutcome o (answer s r) → AreHonest (effect s r o) es
      → ((cond (wears t o) (Some r) (worn_in retries after (step retries after t o) es) ≡ None)
      × holds (after_all (effect s r o) es) (run (step retries after) (step retries after t o) es).operation)
      ⊎ ((q : Request) × (n : M) × (cond (wears t o) (Some r) (worn_in retries after (step retries after t o) es) ≡ Some q)
      × ((run (step retries after) (step retries after t o) es).operation ≡ after n WornOut))
  one t s r (Answered x) es later h asked f honest all = later (apply s r) (step retries after t (Answered x))
      (heard s t.operation h r asked x t.repeated honest) f all
  one t s r Slow es later h asked f honest all = missed t.operation t.spare t.repeated s r es (later s) h f all
  one t s r RequestLost es later h asked f honest all = missed t.operation t.spare true s r es (later s) h f all
  one t s r ReplyLost es later h asked f honest all = missed t.operation t.spare true (apply s r) r es (later (apply s r))
      (still s t.operation h r asked) f all

  pub went : (es : List Entry) (s : Scene) (t : Retried M) → On t s es
  went [] s t h f honest = inl (refl, h)
  went (e ∷ es) s t h f honest = one t s e.request e.outcome es (λ u v. went es u v) h f.0 f.1 honest.0 honest.1
