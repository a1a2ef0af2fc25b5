-- An operation whose requests may all be made again is a course.
use Rattle.operations.specs.Courses.{IsCourse, MaySend, Reached, once, reached}
use Rattle.operations.specs.Plans.{Falls, Goes}
use Rattle.operations.specs.inner.Plans.{IsPlan}
use Rattle.operations.specs.declared.plan.Step.{Step}
use Rattle.operations.specs.declared.plan.Step.TheVariants.{End, Next}
use Rattle.s3_types.specs.Answer.{answer, apply}
use Rattle.s3_types.specs.Store.{Scene}
use Rattle.s3_types.specs.declared.reply.Reply.{Reply}
use Rattle.s3_types.specs.declared.request.Request.{Request}
use Rattle.std.proofs.Common.{ap, arith, inl, inr, refl, subst, sym, ◌∙◌}
use Rattle.std.specs.Prelude.{ℕ, ◌≡◌, ◌≤◌}

module _ {P A : Type 0} {starts : P → Type 0} {asks : P → Request} {goes : P → Reply → Step P A} {holds : P → Scene → P → Scene → Type 0}
    {gives : P → Scene → A → Scene → Type 0} {always : P → Scene → Scene → Type 0} {more : P → Scene → ℕ}
    (plan : IsPlan starts asks goes holds gives always more) where
  module _ (o : P) (z : Scene) where
    always_led : (x : Step P A) (s : Scene) → Goes (holds o z) (gives o z) x s → always o z s
    always_led (Next p) s h = plan.during o z p s h
    always_led (End a) s h = plan.at_end o z a s h

    -- The reply and the scene are the same as if the request had had no effect before.
    same_reply : (p : P) (s : Scene) (h : Reached asks (holds o z) p s) → answer s (asks p) ≡ answer h.settled (asks p)
    same_reply p s h = elim h.seen as (λ _. answer s (asks p) ≡ answer h.settled (asks p)) [
      | inl e ↦ ap (λ v. answer v (asks p)) e
      | inr e ↦ ap (λ v. answer v (asks p)) e ∙ (plan.repeats p).reply h.settled
    ]

    same_effect : (p : P) (s : Scene) (h : Reached asks (holds o z) p s) → apply s (asks p) ≡ apply h.settled (asks p)
    same_effect p s h = elim h.seen as (λ _. apply s (asks p) ≡ apply h.settled (asks p)) [
      | inl e ↦ ap (λ v. apply v (asks p)) e
      | inr e ↦ ap (λ v. apply v (asks p)) e ∙ (plan.repeats p).effect h.settled
    ]

    same_left : (p : P) (s : Scene) (h : Reached asks (holds o z) p s) → more p s ≡ more p h.settled
    same_left p s h = elim h.seen as (λ _. more p s ≡ more p h.settled) [
      | inl e ↦ ap (more p) e
      | inr e ↦ ap (more p) e ∙ plan.stays o z p h.settled h.phase
    ]

    hidden_on : (p : P) (s : Scene) → Reached asks (holds o z) p s → Reached asks (holds o z) p (apply s (asks p))
    hidden_on p s h = record { settled = h.settled; phase = h.phase; seen = inr (same_effect p s h) }

    always_on : (p : P) (s : Scene) (h : Reached asks (holds o z) p s) → always o z s
    always_on p s h = elim h.seen as (λ _. always o z s) [
      | inl e ↦ subst (always o z) (sym e) (plan.during o z p h.settled h.phase)
      | inr e ↦ subst (always o z) (sym e) (always_led _ _ (plan.goes_on o z p h.settled h.phase))
    ]

    settle : (x : Step P A) (s : Scene) → Goes (holds o z) (gives o z) x s → Goes (λ p s. Reached asks (holds o z) p s) (gives o z) x s
    settle (Next p) s h = record { settled = s; phase = h; seen = inl refl }
    settle (End a) s h = h

    took_reached : (p : P) (s : Scene) (h : Reached asks (holds o z) p s)
        → Goes (λ p s. Reached asks (holds o z) p s) (gives o z) (goes p (answer s (asks p))) (apply s (asks p))
    took_reached p s h =
        subst (λ v. Goes (λ p s. Reached asks (holds o z) p s) (gives o z) (goes p v) (apply s (asks p))) (sym (same_reply p s h))
        (subst (λ v. Goes (λ p s. Reached asks (holds o z) p s) (gives o z) (goes p (answer h.settled (asks p))) v)
        (sym (same_effect p s h))
        (settle _ _ (plan.goes_on o z p h.settled h.phase)))

    falls_reached : (p : P) (s : Scene) (h : Reached asks (holds o z) p s)
        → Falls more (goes p (answer s (asks p))) (apply s (asks p)) (more p s)
    falls_reached p s h =
        subst (λ v. Falls more (goes p v) (apply s (asks p)) (more p s)) (sym (same_reply p s h))
        (subst (λ v. Falls more (goes p (answer h.settled (asks p))) v (more p s)) (sym (same_effect p s h))
        (subst (λ n. Falls more (goes p (answer h.settled (asks p))) (apply h.settled (asks p)) n) (sym (same_left p s h))
        (plan.falls o z p h.settled h.phase)))

    still : (p : P) (s : Scene) (h : Reached asks (holds o z) p s) → more p (apply s (asks p)) ≤ more p s
    still p s h = let e = ap (more p) (same_effect p s h) ∙ plan.stays o z p h.settled h.phase ∙ sym (same_left p s h) in omega (arith, e)

  -- The laws of a course hold of it.
  pub course_of : IsCourse starts asks (once goes) (reached asks holds) gives always more
  course_of = record {
    begin = λ p s h. record { settled = s; phase = plan.begin p s h; seen = inl refl };
    lost = λ o z p s b h. h;
    hidden = λ o z p s b h. hidden_on o z p s h;
    goes_on = λ o z p s b h. took_reached o z p s h;
    falls = λ o z p s b h. falls_reached o z p s h;
    no_rise = λ o z p s b h. still o z p s h;
    during = λ o z p s b h. always_on o z p s h;
    at_end = plan.at_end;
  }

-- It may send the requests of its phases.
pub sends_of : {P : Type 0} (asks : P → Request) (holds : P → Scene → P → Scene → Type 0) (sends : P → Scene → Request → Type 0)
    → ((o : P) (z : Scene) (p : P) (s : Scene) → holds o z p s → sends o z (asks p)) → MaySend asks (reached asks holds) sends
sends_of asks holds sends f o z p s b h = f o z p h.settled h.phase
