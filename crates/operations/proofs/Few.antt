-- How many requests an operation that is alone sends: one for each phase, each at most `retries + 1` times.
use Rattle.machine.proofs.Keeps.{kept_run}
use Rattle.machine.specs.Turns.{retried}
use Rattle.machine.specs.declared.retrying.Retrying.{Retrying}
use Rattle.operations.proofs.CourseLaws.{falls, keeps, no_rise, some_left}
use Rattle.operations.specs.Courses.{IsCourse}
use Rattle.operations.specs.Operations.{Kept, after, got, left, wanted}
use Rattle.operations.specs.declared.operation.OperationStage.{OperationStage}
use Rattle.operations.specs.declared.operation.OperationStage.TheVariants.{On}
use Rattle.operations.specs.declared.plan.Step.{Step}
use Rattle.retries.specs.Operation.{Follows}
use Rattle.retries.specs.Retries.{Retried, fresh, step, unanswered_by, wants_of}
use Rattle.s3_types.specs.Answer.{answer, apply}
use Rattle.s3_types.specs.Moment.{AreHonest, IsHonestOutcome, effect}
use Rattle.s3_types.specs.Store.{Scene}
use Rattle.s3_types.specs.declared.journal.Entry.{Entry}
use Rattle.s3_types.specs.declared.journal.Outcome.{Outcome}
use Rattle.s3_types.specs.declared.journal.Outcome.TheVariants.{Answered, ReplyLost, RequestLost, Slow}
use Rattle.s3_types.specs.declared.reply.Reply.{Reply}
use Rattle.s3_types.specs.declared.request.Request.{Request}
use Rattle.std.proofs.Common.{ap, arith, length-append, refl, subst, sym, ◌∙◌}
use Rattle.std.proofs.Math.Nat.{mul-le-mul_right}
use Rattle.std.proofs.lemmas.List.{append_cancel_left}
use Rattle.std.specs.Prelude.{Bool, List, Some, false, length, suc, true, zero, ℕ, [], ◌*◌, ◌++◌, ◌+◌, ◌-◌, ◌<◌, ◌∷◌, ◌≡◌, ◌≤◌}

module _ {P A : Type 0} {starts : P → Type 0} {asks : P → Request} {goes : P → Reply → Bool → Step P A}
    {holds : P → Scene → P → Scene → Bool → Type 0} {gives : P → Scene → A → Scene → Type 0} {always : P → Scene → Scene → Type 0}
    {more : P → Scene → ℕ} (course : IsCourse starts asks goes holds gives always more) (o : P) (z : Scene) (retries : ℕ) where
  abbrev K : OperationStage P A → Scene → Bool → Type 0
  K m s b = Kept (holds o z) (gives o z) (always o z) m s b

  -- The most sends that are to come.
  abbrev most : Retried (OperationStage P A) → Scene → ℕ
  most t s = left more t.operation s * (retries + 1) - (retries - t.spare)

  room : (a b : ℕ) → a ≤ b → a * (retries + 1) ≤ b * (retries + 1)
  room a b h = mul-le-mul_right (retries + 1) h

  -- A send without an answer.
  unanswered_most : (m : OperationStage P A) (spare : ℕ) (s u : Scene) (b : Bool) (n : ℕ) → 0 < left more m s
      → left more m u ≤ left more m s
      → spare ≤ retries
      → n ≤ most (unanswered_by retries (after goes) m b spare) u → suc n ≤ left more m s * (retries + 1) - (retries - spare)
  unanswered_most m zero s u b n some same few h = omega (arith, room 1 (left more m s) some)
  unanswered_most m (suc k) s u b n some same few h = omega (arith, room 1 (left more m s) some, room (left more m u) (left more m s) same)

  one_most : (t : Retried (OperationStage P A)) (s : Scene) (r : Request) (x : Outcome) (n : ℕ) → wanted asks t.operation ≡ Some r
      → K t.operation s t.repeated → IsHonestOutcome x (answer s r) → t.spare ≤ retries
      → n ≤ most (step retries (after goes) t x) (effect s r x) → suc n ≤ most t s
  one_most t s r (Answered a) n w k honest few h =
      let f : left more (got goes t.operation a t.repeated) (apply s r) < left more t.operation s =
      subst (λ v. left more (got goes t.operation v t.repeated) (apply s r) < left more t.operation s) (sym honest)
      (falls course o z t.operation s r t.repeated w k) in
      omega (arith, room (suc (left more (got goes t.operation a t.repeated) (apply s r))) (left more t.operation s) f)
  one_most t s r Slow n w k honest few h = unanswered_most t.operation t.spare s s t.repeated n (some_left course t.operation s r w)
      (omega arith) few h
  one_most t s r RequestLost n w k honest few h = unanswered_most t.operation t.spare s s true n (some_left course t.operation s r w)
      (omega arith) few h
  one_most t s r ReplyLost n w k honest few h = unanswered_most t.operation t.spare s (apply s r) true n
      (some_left course t.operation s r w) (no_rise course o z t.operation s r t.repeated w k) few h

  spare_by : (m : OperationStage P A) (spare : ℕ) (b : Bool) → spare ≤ retries
      → (unanswered_by retries (after goes) m b spare).spare ≤ retries
  spare_by m zero b h = omega arith
  spare_by m (suc k) b h = omega (arith, h)

  spare_still : (t : Retried (OperationStage P A)) (x : Outcome) → t.spare ≤ retries → (step retries (after goes) t x).spare ≤ retries
  spare_still t (Answered a) h = omega arith
  spare_still t Slow h = spare_by t.operation t.spare t.repeated h
  spare_still t RequestLost h = spare_by t.operation t.spare true h
  spare_still t ReplyLost h = spare_by t.operation t.spare true h

  few_sent : (t : Retried (OperationStage P A)) (s : Scene) (part : List Entry)
      → Follows (wants_of (wanted asks)) (step retries (after goes)) t part
      → AreHonest s part → K t.operation s t.repeated → t.spare ≤ retries → length part ≤ most t s
  few_sent t s [] f h k few = omega arith
  few_sent t s (e ∷ es) f h k few =
      one_most t s e.request e.outcome (length es) f.0 k h.0 few
      (few_sent (step retries (after goes) t e.outcome) (effect s e.request e.outcome) es f.1 h.1
      (kept_run (keeps course o z) retries t s (e ∷ []) (f.0, tt) (h.0, tt) k) (spare_still t e.outcome few))

  -- From the start of the operation.
  pub few_of : (m : OperationStage P A) → m ≡ On o → starts o → (t : Retried (OperationStage P A)) → t ≡ fresh retries m
      → (all : List Entry)
      → Follows (wants_of (wanted asks)) (step retries (after goes)) t all → AreHonest z all
      → (old new part : List Entry) → new ≡ old ++ all → new ≡ old ++ part → length part ≤ (more o z + 1) * (retries + 1)
  few_of m e h t first all f honest old new part appended same =
      let begun : t ≡ fresh retries (On o) = first ∙ ap (fresh retries) e in
      let most_all = subst (λ (t : Retried (OperationStage P A)). Follows (wants_of (wanted asks)) (step retries (after goes)) t all
      → length all ≤ (1 + more o z) * (retries + 1)) (sym begun)
      (λ g. let l = few_sent (fresh retries (On o)) z all g honest (course.begin o z h) (omega arith) in omega (arith, l)) f in
      let one : length part ≡ length all = ap length (append_cancel_left old part all (sym same ∙ appended)) in
      omega (arith, most_all, one)

-- No send was made.
pub none_few : (n : ℕ) (part old : List Entry) → old ≡ old ++ part → length part ≤ n
none_few n part old e = let l = ap length e in omega (arith, l, length-append old part)
