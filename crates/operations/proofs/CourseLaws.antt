-- The laws of a machine, for every operation that is a course.
use Rattle.machine.proofs.Keeping.{Keeps}
use Rattle.machine.specs.MachineLaws.{Laws}
use Rattle.machine.specs.Standing.{Fine}
use Rattle.operations.specs.Courses.{IsCalm, IsCourse, unlost}
use Rattle.operations.specs.Operations.{IsReady, Kept, after, any_reply, got, led, left, standing, wanted}
use Rattle.operations.specs.Plans.{Falls, Goes}
use Rattle.operations.specs.declared.operation.OperationStage.{OperationStage}
use Rattle.operations.specs.declared.operation.OperationStage.TheVariants.{On, Over}
use Rattle.operations.specs.declared.plan.Step.{Step}
use Rattle.operations.specs.declared.plan.Step.TheVariants.{End, Next}
use Rattle.s3_types.specs.Answer.{answer, apply}
use Rattle.s3_types.specs.Store.{Scene}
use Rattle.s3_types.specs.declared.reply.Reply.{Reply}
use Rattle.s3_types.specs.declared.request.Request.{Request}
use Rattle.std.proofs.Common.{arith, refl, subst}
use Rattle.std.specs.Prelude.{Bool, Some, false, true, ℕ, ◌+◌, ◌<◌, ◌≡◌, ◌≤◌}

fine_led : {P A : Type 0} (x : Step P A) → standing (led x) ≡ Fine
fine_led (Next p) = refl
fine_led (End a) = refl

module _ {P A : Type 0} {starts : P → Type 0} {asks : P → Request} {goes : P → Reply → Bool → Step P A}
    {holds : P → Scene → P → Scene → Bool → Type 0} {gives : P → Scene → A → Scene → Type 0} {always : P → Scene → Scene → Type 0}
    {more : P → Scene → ℕ} (c : IsCourse starts asks goes holds gives always more) where
  standing_on : (m : OperationStage P A) (r : Request) (a : Reply) (b : Bool) → wanted asks m ≡ Some r
      → standing (got goes m a b) ≡ standing m
  standing_on (On p) r a b w = fine_led (goes p a b)
  standing_on _ r a b w = absurd (cc)

  module _ (o : P) (z : Scene) where
    abbrev K : OperationStage P A → Scene → Bool → Type 0
    K m s b = Kept (holds o z) (gives o z) (always o z) m s b

    lost : (m : OperationStage P A) (s : Scene) (b : Bool) → K m s b → K m s true
    lost (On p) s b h = c.lost o z p s b h
    lost _ s b h = h

    hidden : (m : OperationStage P A) (s : Scene) (r : Request) (b : Bool) → wanted asks m ≡ Some r → K m s b → K m (apply s r) true
    hidden (On p) s r b w h = let e : asks p ≡ r = cc in subst (λ v. holds o z p (apply s v) true) e (c.hidden o z p s b h)
    hidden _ s r b w h = absurd (cc)

    kept_led : (x : Step P A) (s : Scene) → Goes (λ p s. holds o z p s false) (gives o z) x s → K (led x) s false
    kept_led (Next p) s h = h
    kept_led (End a) s h = h

    took : (m : OperationStage P A) (s : Scene) (r : Request) (b : Bool) → wanted asks m ≡ Some r → K m s b
        → K (got goes m (answer s r) b) (apply s r) false
    took (On p) s r b w h = let e : asks p ≡ r = cc in subst (λ v. K (led (goes p (answer s v) b)) (apply s v) false) e
        (kept_led _ _ (c.goes_on o z p s b h))
    took _ s r b w h = absurd (cc)

    pub at_any : (m : OperationStage P A) (s : Scene) (b : Bool) → K m s b → always o z s
    at_any (On p) s b h = c.during o z p s b h
    at_any (Over a) s b h = c.at_end o z a s h
    at_any _ s b h = h

    pub keeps : Keeps (wanted asks) (after goes) K
    keeps = record {
      lost = λ m s b h. lost m s b h;
      hidden = λ m s r b w h. hidden m s r b w h;
      took = λ m s r b w h. took m s r b w h;
      gave_up = λ m s r b w h. at_any m s b h;
    }

    less_led : (x : Step P A) (s : Scene) (n : ℕ) → Falls more x s n → left more (led x) s < 1 + n
    less_led (Next p) s n h = omega arith
    less_led (End a) s n h = omega arith

    pub falls : (m : OperationStage P A) (s : Scene) (r : Request) (b : Bool) → wanted asks m ≡ Some r → K m s b
        → left more (got goes m (answer s r) b) (apply s r) < left more m s
    falls (On p) s r b w h = let e : asks p ≡ r = cc in subst (λ v. left more (led (goes p (answer s v) b)) (apply s v) < 1 + more p s) e
        (less_led _ _ _ (c.falls o z p s b h))
    falls _ s r b w h = absurd (cc)

    pub no_rise : (m : OperationStage P A) (s : Scene) (r : Request) (b : Bool) → wanted asks m ≡ Some r → K m s b
        → left more m (apply s r) ≤ left more m s
    no_rise (On p) s r b w h = let e : asks p ≡ r = cc in let n = subst (λ v. more p (apply s v) ≤ more p s) e (c.no_rise o z p s b h) in
        omega (arith, n)
    no_rise _ s r b w h = absurd (cc)

  pub some_left : (m : OperationStage P A) (s : Scene) (r : Request) → wanted asks m ≡ Some r → 0 < left more m s
  some_left (On p) s r w = omega arith
  some_left _ s r w = absurd (cc)

  pub course_laws : Laws {M = OperationStage P A} (wanted asks) (after goes) any_reply (IsReady holds gives always) (left more) standing
  course_laws = record {
    fit = λ m s r b w h. tt;
    lost = λ m s b h. record { first = h.first; opening = h.opening; kept = lost h.first h.opening m s b h.kept };
    hidden = λ m s r b w h. record { first = h.first; opening = h.opening; kept = hidden h.first h.opening m s r b w h.kept };
    took = λ m s r b w h. record { first = h.first; opening = h.opening; kept = took h.first h.opening m s r b w h.kept };
    gave_up = λ m s r b w h. record { first = h.first; opening = h.opening; kept = at_any h.first h.opening m s b h.kept };
    falls = λ m s r b w h. falls h.first h.opening m s r b w h.kept;
    falls_worn = λ m s r b w h. some_left m s r w;
    no_rise = λ m s r b w h. no_rise h.first h.opening m s r b w h.kept;
    stops = λ m. refl;
    breaks = λ m. refl;
    faults = λ m r w. refl;
    goes_on = λ m r a b w h. standing_on m r a b w;
  }

  -- If each send was answered, it gives nothing more than `gives`.
  pub calm_of : IsCalm starts asks goes (unlost holds) gives
  calm_of = record { begin = c.begin; goes_on = λ o z p s h. c.goes_on o z p s false h }
