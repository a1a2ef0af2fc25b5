-- A run of an operation that is alone keeps at every point what the operation keeps.
use Rattle.machine.proofs.Counts.{counted_none}
use Rattle.machine.proofs.Keeps.{kept_run}
use Rattle.machine.specs.Counted.{AreAnswered, Counted}
use Rattle.machine.specs.Drove.{IsRun}
use Rattle.machine.specs.Tries.{HasUnanswered, IsFaultBy, IsFaultWhere, IsToldBy, Tried, some_worn}
use Rattle.machine.specs.Turns.{retried}
use Rattle.machine.specs.declared.driving.DriveStop.{DriveStop}
use Rattle.machine.specs.declared.driving.DriveStop.TheVariants.{NoMemory as NoRoom, StoreFault as Worn}
use Rattle.machine.specs.declared.retrying.Retrying.{Retrying}
use Rattle.operations.proofs.CourseLaws.{at_any, keeps}
use Rattle.operations.specs.Courses.{IsCalm, IsCourse, MaySend}
use Rattle.operations.specs.Operations.{IsReady, Kept, after, got, led, wanted}
use Rattle.operations.specs.Performed.{Performed, Seen}
use Rattle.operations.specs.Plans.{Goes}
use Rattle.operations.specs.declared.operation.OperationStage.{OperationStage}
use Rattle.operations.specs.declared.operation.OperationStage.TheVariants.{On, Over}
use Rattle.operations.specs.declared.plan.Step.{Step}
use Rattle.operations.specs.declared.plan.Step.TheVariants.{End, Next}
use Rattle.retries.proofs.Runs.{follows_take}
use Rattle.retries.specs.Operation.{Follows, run}
use Rattle.retries.specs.Retries.{Retried, step, wants_of}
use Rattle.s3_types.specs.Answer.{answer, apply}
use Rattle.s3_types.specs.Foretold.{AreForetold}
use Rattle.s3_types.specs.Moment.{AreHonest, IsHonestOutcome, after_all, effect, is_unanswered}
use Rattle.s3_types.specs.Store.{Scene}
use Rattle.s3_types.specs.declared.fates.Fate.{Fate}
use Rattle.s3_types.specs.declared.journal.Entry.{Entry}
use Rattle.s3_types.specs.declared.journal.Outcome.{Outcome}
use Rattle.s3_types.specs.declared.journal.Outcome.TheVariants.{Answered, Slow}
use Rattle.s3_types.specs.declared.reply.Reply.{Reply}
use Rattle.s3_types.specs.declared.request.Actor.{Actor}
use Rattle.s3_types.specs.declared.request.Request.{Request}
use Rattle.std.proofs.Common.{Bool, List, Option, Some, ap, append-nil, arith, false, refl, subst, suc, sym, take, zero, ℕ, [], ◌++◌, ◌∙◌}
use Rattle.std.proofs.Common.{◌∷◌, ◌≡◌}
use Rattle.std.proofs.lemmas.List.{append_cancel_left, take_all}
use Rattle.std.specs.List.{AllByRecursion}
use Rattle.std.specs.Prelude.{Err, Ok, Result, length, ◌+◌}

-- A store with this scene and these counts, and the journal beside it.
abbrev at : Scene → ℕ → ℕ → (ℕ → Option Fate) → List Entry → Seen
at scene requests losses foretold entries = record {
  scene = scene;
  requests = requests;
  losses = losses;
  foretold = foretold;
  entries =
      entries;
}

take_none : (m : ℕ) → ◌≡◌ {A = List Entry} (take m []) []
take_none zero = refl
take_none (suc m) = refl

honest_take : (m : ℕ) (s : Scene) (part : List Entry) → AreHonest s part → AreHonest s (take m part)
honest_take zero s part h = tt
honest_take (suc m) s [] h = tt
honest_take (suc m) s (e ∷ es) h = (h.0, honest_take m (effect s e.request e.outcome) es h.1)

-- The tries of a run are the same for a result with another value.
pub tried_ok : {T U : Type 0} (retries spare : ℕ) (part : List Entry) (r : Result T DriveStop) (x : T) (y : U) → r ≡ Ok x
    → Tried retries spare part r → Tried {T = U} retries spare part (Ok y)
tried_ok retries spare part r x y e h = record {
  tries = h.tries;
  rest = h.rest;
  entries = h.entries;
  each = h.each;
  broken_off = h.broken_off;
  told = subst (λ v. IsToldBy (some_worn h.tries) h.rest v) e h.told;
  fault = λ s. subst (λ v. IsFaultWhere (HasUnanswered (retries + 1) part) v) e (h.fault s);
}

pub tried_err : {T U : Type 0} (retries spare : ℕ) (part : List Entry) (r : Result T DriveStop) (stop : DriveStop)
    → (stop ≡ Worn → r ≡ Err Worn) → Tried retries spare part r → Tried {T = U} retries spare part (Err stop)
tried_err retries spare part r Worn e h = record {
  tries = h.tries;
  rest = h.rest;
  entries = h.entries;
  each = h.each;
  broken_off = h.broken_off;
  told = subst (λ v. IsToldBy (some_worn h.tries) h.rest v) (e refl) h.told;
  fault = λ s. subst (λ v. IsFaultWhere (HasUnanswered (retries + 1) part) v) (e refl) (h.fault s);
}
tried_err retries spare part r NoRoom e h = record {
  tries = h.tries;
  rest = h.rest;
  entries = h.entries;
  each = h.each;
  broken_off = h.broken_off;
  told = tt;
  fault = λ s. tt;
}

-- The entries alone say the same for a result with another value.
pub literal_ok : {T U : Type 0} (retries : ℕ) (part : List Entry) (r : Result T DriveStop) (x : T) (y : U) → r ≡ Ok x
    → IsFaultBy retries part r → IsFaultBy retries part (Ok y)
literal_ok retries part r x y e h = subst (λ v. IsFaultBy retries part v) e h

pub literal_err : {T : Type 0} (retries : ℕ) (part : List Entry) (r : Result T DriveStop) (stop : DriveStop) → (stop ≡ Worn → r ≡ Err Worn)
    → IsFaultBy retries part r → IsFaultBy {T = T} retries part (Err stop)
literal_err retries part r Worn e h = subst (λ v. IsFaultBy retries part v) (e refl) h
literal_err retries part r NoRoom e h = tt

module _ {P A : Type 0} {starts : P → Type 0} {asks : P → Request} {goes : P → Reply → Bool → Step P A}
    {holds : P → Scene → P → Scene → Bool → Type 0} {gives : P → Scene → A → Scene → Type 0} {always : P → Scene → Scene → Type 0}
    {more : P → Scene → ℕ} (plan : IsCourse starts asks goes holds gives always more) (o : P) (z : Scene) where
  pub kept_start : starts o → Kept (holds o z) (gives o z) (always o z) (On o) z false
  kept_start h = plan.begin o z h

  pub ready_start : starts o → (m : OperationStage P A) → m ≡ On o → (s : Scene) → s ≡ z → (b : Bool) → b ≡ false
      → IsReady holds gives always m s b
  ready_start h m e s f b q =
      subst (λ m. IsReady holds gives always m s b) (sym e)
      (subst (λ s. IsReady holds gives always (On o) s b) (sym f)
      (subst (λ b. IsReady holds gives always (On o) z b) (sym q) (record { first = o; opening = z; kept = kept_start h })))

  -- The operation after these entries.
  abbrev Led : Retrying (OperationStage P A) → List Entry → Retried (OperationStage P A)
  Led t part = run (step t.retries (after goes)) (retried t) part

  abbrev Ran : Retrying (OperationStage P A) → List Entry → Type 0
  Ran t part = Follows (wants_of (wanted asks)) (step t.retries (after goes)) (retried t) part

  kept_at : (t : Retrying (OperationStage P A)) → t.machine ≡ On o → t.repeated ≡ false → starts o
      → Kept (holds o z) (gives o z) (always o z) t.machine z t.repeated
  kept_at t e q h = subst (λ m. Kept (holds o z) (gives o z) (always o z) m z t.repeated) (sym e)
      (subst (λ b. Kept (holds o z) (gives o z) (always o z) (On o) z b) (sym q) (kept_start h))

  pub kept_all : (t : Retrying (OperationStage P A)) → t.machine ≡ On o → t.repeated ≡ false → starts o → (part : List Entry) → Ran t part
      → AreHonest z part
      → Kept (holds o z) (gives o z) (always o z) (Led t part).operation (after_all z part) (Led t part).repeated
  kept_all t e q h part f a =
      kept_run (keeps plan o z) t.retries (retried t) z part f a (kept_at t e q h)

  pub moments : (t : Retrying (OperationStage P A)) → t.machine ≡ On o → t.repeated ≡ false → starts o → (part : List Entry) → Ran t part
      → AreHonest z part
      → (m : ℕ) → always o z (after_all z (take m part))
  moments t e q h part f a m = at_any plan o z _ _ _ (kept_all t e q h (take m part)
      (follows_take (wants_of (wanted asks)) (step t.retries (after goes)) m (retried t) part f) (honest_take m z part a))

  -- ---- the requests that are sent

  module _ (sends : Request → Type 0) (may : (p : P) (s : Scene) (b : Bool) → holds o z p s b → sends (asks p)) where
    sent_now : (m : OperationStage P A) (s : Scene) (b : Bool) (r : Request) → wanted asks m ≡ Some r
        → Kept (holds o z) (gives o z) (always o z) m s b → sends r
    sent_now (On p) s b r w k = let e : asks p ≡ r = cc in subst sends e (may p s b k)
    sent_now _ s b r w k = absurd (cc)

    -- Each request that is sent is one that the phases may send.
    all_sent : (retries : ℕ) (t : Retried (OperationStage P A)) (s : Scene) (part : List Entry)
        → Follows (wants_of (wanted asks)) (step retries (after goes)) t part → AreHonest s part
        → Kept (holds o z) (gives o z) (always o z) t.operation s t.repeated → AllByRecursion (λ e. sends e.request) part
    all_sent retries t s [] f h k = tt
    all_sent retries t s (e ∷ es) f h k = (
      sent_now t.operation s t.repeated e.request f.0 k,
      all_sent retries (step retries (after goes) t e.outcome) (effect s e.request e.outcome) es f.1 h.1
          (kept_run (keeps plan o z) retries t s (e ∷ []) (f.0, tt) (h.0, tt) k),
    )

  pub performed : {U : Type 0} (sends : P → Scene → Request → Type 0) (may : MaySend asks holds sends) (result : Result U DriveStop)
      (actor : Actor) (event retries : ℕ) (t : Retrying (OperationStage P A)) (s : Scene) (old new part : List Entry)
      (first requests before now : ℕ)
      (told tells : ℕ → Option Fate) → t.machine ≡ On o → t.repeated ≡ false → starts o
      → IsRun (wanted asks) (after goes) actor event t z part s → new ≡ old ++ part → AreForetold told (first + 1) part
      → Tried retries retries part result → IsFaultBy retries part result → Counted old new first requests before now told tells
      → Performed actor event retries (always o z) (sends o z) (at z first before told old) (at s requests now tells new) result
  performed sends may result actor event retries t s old new part first requests before now told tells e q h r a f d l n = record {
    part = part;
    appended = a;
    by = r.by;
    honest = r.honest;
    scene = r.scene;
    moments = moments t e q h part r.follows r.honest;
    sent = all_sent (sends o z) (may o z) t.retries (retried t) z part r.follows r.honest (kept_at t e q h);
    tried = d;
    literal = l;
    foretold = f;
    counts = n;
  }

  pub given : (t t' : Retrying (OperationStage P A)) (s : Scene) (part : List Entry) (a : A) → t.machine ≡ On o → t.repeated ≡ false
      → starts o
      → Ran t part → AreHonest z part
      → retried t' ≡ Led t part → s ≡ after_all z part → t'.machine ≡ Over a → gives o z a s
  given t t' s part a e q h f honest there scene over =
      subst (λ v. gives o z a v) (sym scene)
      (subst (λ m. Kept (holds o z) (gives o z) (always o z) m (after_all z part) (Led t part).repeated)
      (sym (ap (λ (t : Retried (OperationStage P A)). t.operation) there) ∙ over)
      (kept_all t e q h part f honest))

  pub nothing_done : {U : Type 0} (sends : Request → Type 0) (actor : Actor) (event retries : ℕ) (es : List Entry) (first before : ℕ)
      (told : ℕ → Option Fate) → starts o → Performed {A = U} actor event retries (always o z) sends (at z first before told es)
      (at z first before told es) (Err NoRoom)
  nothing_done sends actor event retries es first before told h = record {
    part = [];
    appended = sym (append-nil es);
    by = tt;
    honest = tt;
    scene = refl;
    moments = λ m. subst (λ (es : List Entry). always o z (after_all z es)) (sym (take_none m))
        (plan.during o z o z false (plan.begin o z h));
    sent = tt;
    tried = record { tries = []; rest = []; entries = refl; each = tt; broken_off = tt; told = tt; fault = λ s. tt };
    literal = tt;
    foretold = tt;
    counts = counted_none es es first first before before told told refl refl refl (λ n. refl);
  }

-- ---- if each send was answered

module _ {P A : Type 0} {starts : P → Type 0} {asks : P → Request} {goes : P → Reply → Bool → Step P A}
    {calm : P → Scene → P → Scene → Type 0} {leaves : P → Scene → A → Scene → Type 0} (k : IsCalm starts asks goes calm leaves) (o : P)
    (z : Scene) where
  abbrev InCalm : OperationStage P A → Scene → Type 0
  InCalm (On p) s = calm o z p s
  InCalm (Over a) s = leaves o z a s
  InCalm _ s = Unit {0}

  calm_led : (x : Step P A) (s : Scene) → Goes (calm o z) (leaves o z) x s → InCalm (led x) s
  calm_led (Next p) s h = h
  calm_led (End a) s h = h

  calm_got : (m : OperationStage P A) (s : Scene) (r : Request) → wanted asks m ≡ Some r → InCalm m s
      → InCalm (got goes m (answer s r) false) (apply s r)
  calm_got (On p) s r w h = let e : asks p ≡ r = cc in subst (λ v. InCalm (led (goes p (answer s v) false)) (apply s v)) e
      (calm_led _ _ (k.goes_on o z p s h))
  calm_got _ s r w h = absurd (cc)

  calm_step : (retries : ℕ) (t : Retried (OperationStage P A)) (s : Scene) (r : Request) (x : Outcome) → t.repeated ≡ false
      → wanted asks t.operation ≡ Some r → IsHonestOutcome x (answer s r) → is_unanswered x ≡ false → InCalm t.operation s
      → InCalm (step retries (after goes) t x).operation (effect s r x) × ((step retries (after goes) t x).repeated ≡ false)
  calm_step retries t s r (Answered a) q w h n c = (
    subst (λ v. InCalm (got goes t.operation v t.repeated) (apply s r)) (sym h)
        (subst (λ b. InCalm (got goes t.operation (answer s r) b) (apply s r)) (sym q) (calm_got t.operation s r w c)),
    refl,
  )
  calm_step retries t s r Slow q w h n c = absurd (cc)
  calm_step retries t s r _ q w h n c = absurd (cc)

  calm_all : (retries : ℕ) (t : Retried (OperationStage P A)) (s : Scene) (part : List Entry) → t.repeated ≡ false
      → Follows (wants_of (wanted asks)) (step retries (after goes)) t part → AreHonest s part → AreAnswered part → InCalm t.operation s
      → InCalm (run (step retries (after goes)) t part).operation (after_all s part)
  calm_all retries t s [] q f h n c = c
  calm_all retries t s (e ∷ es) q f h n c =
      let one = calm_step retries t s e.request e.outcome q f.0 h.0 n.0 c in
      calm_all retries (step retries (after goes) t e.outcome) (effect s e.request e.outcome) es one.1 f.1 h.1 n.1 one.0

  pub left_calm : (t t' : Retrying (OperationStage P A)) (s : Scene) (old new part all : List Entry) (a : A) → t.machine ≡ On o
      → t.repeated ≡ false
      → starts o → Follows (wants_of (wanted asks)) (step t.retries (after goes)) (retried t) all → AreHonest z all
      → retried t' ≡ run (step t.retries (after goes)) (retried t) all → s ≡ after_all z all → t'.machine ≡ Over a → new ≡ old ++ all
      → new ≡ old ++ part → AreAnswered part → leaves o z a s
  left_calm t t' s old new part all a e q h f honest there scene over appended same answered =
      let each : AreAnswered all = subst AreAnswered (append_cancel_left old part all (sym same ∙ appended)) answered in
      let first : InCalm t.machine z = subst (λ m. InCalm m z) (sym e) (k.begin o z h) in
      subst (λ v. leaves o z a v) (sym scene)
      (subst (λ m. InCalm m (after_all z all)) (sym (ap (λ (t : Retried (OperationStage P A)). t.operation) there) ∙ over)
      (calm_all t.retries (retried t) z all q f honest each first))

-- What holds always holds at the end.
pub always_after : {A : Type 0} {actor : Actor} {event retries : ℕ} {always : Scene → Type 0} {sends : Request → Type 0} {old new : Seen}
    {result : Result A DriveStop}
    → Performed actor event retries always sends old new result → always new.scene
always_after {always = always} {old = old} p =
    let all : take (length p.part) p.part ≡ p.part = take_all (length p.part) p.part (omega arith) in
    subst always (ap (after_all old.scene) all ∙ sym p.scene) (p.moments (length p.part))
