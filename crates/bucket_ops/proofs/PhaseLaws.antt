-- An operation on the objects of one bucket is an operation on the store.
use Rattle.bucket_ops.proofs.AskLaws.{answered, applied_none, applied_some, objects_with, repeats, with_same, with_with}
use Rattle.bucket_ops.specs.Asks.{Ask, edited, objects_at, reply_in, request_of, with_objects}
use Rattle.bucket_ops.specs.inner.Asks.{reply_at}
use Rattle.bucket_ops.specs.Phases.{Always, Gives, Holds, InScene, IsPhases, MayAsk, Sends, SendsAt, SendsIn, Starts, led, left_at, left_in}
use Rattle.bucket_ops.specs.Phases.{request, stepped}
use Rattle.bucket_ops.specs.declared.bucket.InBucket.{InBucket}
use Rattle.operations.proofs.PlanLaws.{sends_of}
use Rattle.operations.specs.Courses.{MaySend, reached}
use Rattle.operations.specs.Plans.{Falls, Goes}
use Rattle.operations.specs.inner.Plans.{IsPlan}
use Rattle.operations.specs.declared.plan.Step.{Step}
use Rattle.operations.specs.declared.plan.Step.TheVariants.{End, Next}
use Rattle.s3_types.specs.Answer.{answer, apply}
use Rattle.s3_types.specs.Store.{Objects, Scene}
use Rattle.s3_types.specs.declared.reply.Reply.{Reply}
use Rattle.std.proofs.Common.{ap, refl, subst, sym, ◌∙◌}
use Rattle.std.specs.Prelude.{List, None, Option, Some, ℕ, ◌<◌, ◌≡◌}

in_scene : (x : Option Objects) (z s : Scene) (b : List ℕ) (H G : Objects → Objects → Type 0) (N : Type 0)
    → ((m n : Objects) → H m n → G m n) → InScene x H N z b s → InScene x G (Unit {0}) z b s
in_scene None z s b H G N f h = (h.0, tt)
in_scene (Some m) z s b H G N f h = (h.0, h.1, f m h.0 h.2)

module _ {O X A : Type 0} {first : O → X} {asks : O → X → Ask} {goes : O → X → Reply → Step X A}
    {holds : O → Objects → X → Objects → Type 0} {gives : O → Objects → A → Objects → Type 0} {always : O → Objects → Objects → Type 0}
    {left : O → X → Objects → ℕ} {absent : A} (k : IsPhases first asks goes holds gives always left absent) where
  abbrev P : Type 0
  P = InBucket O X

  begin_by : (p : P) (z : Scene) (x : Option Objects) → objects_at z p.bucket ≡ x → p.stage ≡ first p.names
      → InScene x (λ m n. holds p.names m p.stage n) (p.stage ≡ first p.names) z p.bucket z
  begin_by p z None e h = (refl, h)
  begin_by p z (Some m) e h = (m, sym (with_same z p.bucket m e), subst (λ v. holds p.names m v m) (sym h) (k.begin p.names m))

  -- If there is no bucket, a request ends the operation with `absent` and changes nothing.
  on_none : (z s : Scene) (b : List ℕ) (o : O) (x : X) → objects_at z b ≡ None → s ≡ z
      → (goes o x (answer s (request_of b (asks o x))) ≡ End absent) × (apply s (request_of b (asks o x)) ≡ z)
  on_none z s b o x e h = (
    ap (λ v. goes o x (answer v (request_of b (asks o x)))) h ∙ ap (goes o x) (answered z b (asks o x) ∙ ap (λ v. reply_at v (asks o x)) e)
        ∙ k.missing o x,
    ap (λ v. apply v (request_of b (asks o x))) h ∙ applied_none z b (asks o x) e,
  )

  on_some : (z s : Scene) (b : List ℕ) (o : O) (x : X) (m n : Objects) → objects_at z b ≡ Some m → s ≡ with_objects z b n
      → (answer s (request_of b (asks o x)) ≡ reply_in n (asks o x))
      × (apply s (request_of b (asks o x)) ≡ with_objects z b (edited (asks o x) n))
  on_some z s b o x m n e h =
      let there = objects_with z b m n e in (
        ap (λ v. answer v (request_of b (asks o x))) h ∙ answered (with_objects z b n) b (asks o x) ∙ ap (λ v. reply_at v (asks o x)) there,
        ap (λ v. apply v (request_of b (asks o x))) h ∙ applied_some (with_objects z b n) b (asks o x) n there ∙ with_with z b m n
            (edited (asks o x) n) e,
      )

  -- ---- it goes on

  abbrev H : P → Scene → P → Scene → Type 0
  H = Holds first holds

  abbrev G : P → Scene → A → Scene → Type 0
  G = Gives gives absent

  ended_in : (o : P) (z s : Scene) (x : Option Objects) → x ≡ None → s ≡ z
      → InScene x (λ m n. gives o.names m absent n) (absent ≡ absent) z o.bucket s
  ended_in o z s None e h = (h, refl)
  ended_in o z s (Some m) e h = absurd (cc)

  step_none : (o : P) (z : Scene) (y : Step X A) (s : Scene) → objects_at z o.bucket ≡ None → y ≡ End absent → s ≡ z
      → Goes (H o z) (G o z) (stepped o.bucket o.names y) s
  step_none o z y s e f h = subst (λ y. Goes (H o z) (G o z) (stepped o.bucket o.names y) s) (sym f)
      (ended_in o z s (objects_at z o.bucket) e h)

  put_in : (z s : Scene) (b : List ℕ) (x : Option Objects) (m n : Objects) (K : Objects → Objects → Type 0) (N : Type 0) → x ≡ Some m
      → s ≡ with_objects z b n → K m n → InScene x K N z b s
  put_in z s b None m n K N e h g = absurd (cc)
  put_in z s b (Some l) m n K N e h g = let f : l ≡ m = cc in (n, h, subst (λ v. K v n) (sym f) g)

  step_some : (o : P) (z : Scene) (m n : Objects) (y : Step X A) (s : Scene) → objects_at z o.bucket ≡ Some m
      → s ≡ with_objects z o.bucket n
      → Goes (holds o.names m) (gives o.names m) y n → Goes (H o z) (G o z) (stepped o.bucket o.names y) s
  step_some o z m n (Next x) s e h g = (
    refl,
    refl,
    put_in z s o.bucket (objects_at z o.bucket) m n (λ m n. holds o.names m x n)
        (x ≡ first o.names) e h g,
  )
  step_some o z m n (End a) s e h g = put_in z s o.bucket (objects_at z o.bucket) m n (λ m n. gives o.names m a n) (a ≡ absent) e h g

  goes_by : (o : P) (z : Scene) (x : X) (s : Scene) (q : Option Objects) → objects_at z o.bucket ≡ q
      → InScene q (λ m n. holds o.names m x n) (x ≡ first o.names) z o.bucket s
      → Goes (H o z) (G o z) (stepped o.bucket o.names (goes o.names x (answer s (request_of o.bucket (asks o.names x)))))
      (apply s (request_of o.bucket (asks o.names x)))
  goes_by o z x s None e h =
      let w = on_none z s o.bucket o.names x e h.0 in
      step_none o z _ _ e w.0 w.1
  goes_by o z x s (Some m) e h =
      let w = on_some z s o.bucket o.names x m h.0 e h.1 in
      subst (λ v. Goes (H o z) (G o z) (stepped o.bucket o.names (goes o.names x v)) (apply s (request_of o.bucket (asks o.names x))))
      (sym w.0)
      (step_some o z m (edited (asks o.names x) h.0) _ _ e w.1 (k.goes_on o.names m x h.0 h.2))

  -- ---- what is left

  fall_by : (b : List ℕ) (o : O) (n : Objects) (y : Step X A) (s : Scene) (c : ℕ) → objects_at s b ≡ Some n → Falls (left o) y n c
      → Falls (left_in left) (stepped b o y) s c
  fall_by b o n (Next x) s c e h = subst (λ v. left_at v left o x < c) (sym e) h
  fall_by b o n (End a) s c e h = tt

  falls_by : (o : P) (z : Scene) (x : X) (s : Scene) (q : Option Objects) → objects_at z o.bucket ≡ q
      → InScene q (λ m n. holds o.names m x n) (x ≡ first o.names) z o.bucket s
      → Falls (left_in left) (stepped o.bucket o.names (goes o.names x (answer s (request_of o.bucket (asks o.names x)))))
      (apply s (request_of o.bucket (asks o.names x))) (left_at (objects_at s o.bucket) left o.names x)
  falls_by o z x s None e h =
      let w = on_none z s o.bucket o.names x e h.0 in
      subst (λ y. Falls (left_in left) (stepped o.bucket o.names y) (apply s (request_of o.bucket (asks o.names x)))
      (left_at (objects_at s o.bucket) left o.names x)) (sym w.0) tt
  falls_by o z x s (Some m) e h =
      let w = on_some z s o.bucket o.names x m h.0 e h.1 in
      let here = ap (λ v. objects_at v o.bucket) h.1 ∙ objects_with z o.bucket m h.0 e in
      subst (λ v. Falls (left_in left) (stepped o.bucket o.names (goes o.names x v)) (apply s (request_of o.bucket (asks o.names x)))
      (left_at (objects_at s o.bucket) left o.names x)) (sym w.0)
      (fall_by o.bucket o.names _ _ _ _ (ap (λ v. objects_at v o.bucket) w.1 ∙ objects_with z o.bucket m (edited (asks o.names x) h.0) e)
      (subst (λ v. Falls (left o.names) (goes o.names x (reply_in h.0 (asks o.names x))) (edited (asks o.names x) h.0)
      (left_at v left o.names x)) (sym here) (k.falls o.names m x h.0 h.2)))

  stays_by : (o : P) (z : Scene) (x : X) (s : Scene) (q : Option Objects) → objects_at z o.bucket ≡ q
      → InScene q (λ m n. holds o.names m x n) (x ≡ first o.names) z o.bucket s
      → left_at (objects_at (apply s (request_of o.bucket (asks o.names x))) o.bucket) left o.names x ≡ left_at (objects_at s o.bucket) left
      o.names x
  stays_by o z x s None e h = ap (λ v. left_at (objects_at v o.bucket) left o.names x) ((on_none z s o.bucket o.names x e h.0).1 ∙ sym h.0)
  stays_by o z x s (Some m) e h =
      ap (λ v. left_at (objects_at v o.bucket) left o.names x) (on_some z s o.bucket o.names x m h.0 e h.1).1
      ∙ ap (λ v. left_at v left o.names x) (objects_with z o.bucket m (edited (asks o.names x) h.0) e)
      ∙ k.stays o.names m x h.0 h.2
      ∙ ap (λ v. left_at v left o.names x) (sym (objects_with z o.bucket m h.0 e))
      ∙ ap (λ v. left_at (objects_at v o.bucket) left o.names x) (sym h.1)

  -- ---- the phase's bucket and names

  -- The phase's bucket and names are those of the operation.
  at_names : (o p : P) (C : List ℕ → O → Type 0) → p.bucket ≡ o.bucket → p.names ≡ o.names → C o.bucket o.names → C p.bucket p.names
  at_names o p C e f h = subst (λ b. C b p.names) (sym e) (subst (λ n. C o.bucket n) (sym f) h)

  pub in_bucket : IsPlan (Starts first) (request asks) (led goes) (Holds first holds) (Gives gives absent) (Always always) (left_in left)
  in_bucket = record {
    begin = λ p s h. (refl, refl, begin_by p s (objects_at s p.bucket) refl h);
    repeats = λ p. repeats p.bucket (asks p.names p.stage);
    goes_on = λ o z p s h. at_names o p (λ b n. Goes (H o z) (G o z) (stepped b n
        (goes n p.stage (answer s (request_of b (asks n p.stage))))) (apply s (request_of b (asks n p.stage)))) h.0 h.1
        (goes_by o z p.stage s (objects_at z o.bucket) refl h.2);
    falls = λ o z p s h. at_names o p (λ b n. Falls (left_in left) (stepped b n (goes n p.stage (answer s (request_of b (asks n p.stage)))))
        (apply s (request_of b (asks n p.stage))) (left_at (objects_at s b) left n p.stage)) h.0 h.1
        (falls_by o z p.stage s (objects_at z o.bucket) refl h.2);
    stays = λ o z p s h. at_names o p (λ b n. left_at (objects_at (apply s (request_of b (asks n p.stage))) b) left n p.stage ≡ left_at
        (objects_at s b) left n p.stage) h.0 h.1
        (stays_by o z p.stage s (objects_at z o.bucket) refl h.2);
    during = λ o z p s h. in_scene (objects_at z o.bucket) z s o.bucket (λ m n. holds o.names m p.stage n) (always o.names)
        (p.stage ≡ first o.names) (λ m n g. k.during o.names m p.stage n g) h.2;
    at_end = λ o z a s h. in_scene (objects_at z o.bucket) z s o.bucket (λ m n. gives o.names m a n) (always o.names) (a ≡ absent)
        (λ m n g. k.at_end o.names m a n g) h;
  }

  -- ---- the requests that are sent

  asked_by : (sends : O → Objects → Ask → Type 0) → MayAsk asks holds sends → (o : P) (z : Scene) (x : X) (s : Scene) (q : Option Objects)
      → InScene q (λ m n. holds o.names m x n) (x ≡ first o.names) z o.bucket s
      → SendsAt q o.bucket (asks o.names (first o.names)) (sends o.names) (request_of o.bucket (asks o.names x))
  asked_by sends f o z x s None h = ap (λ y. request_of o.bucket (asks o.names y)) h.1
  asked_by sends f o z x s (Some m) h = (asks o.names x, refl, f o.names m x h.0 h.2)

  pub asked_in : (sends : O → Objects → Ask → Type 0) → MayAsk asks holds sends
      → MaySend (request asks) (reached (request asks) (Holds first holds)) (Sends first asks sends)
  asked_in sends f = sends_of (request asks) (Holds first holds) (Sends first asks sends)
      (λ o z p s h. at_names o p (λ b n. SendsIn o.bucket (asks o.names (first o.names)) (sends o.names) z (request_of b (asks n p.stage)))
      h.0 h.1 (asked_by sends f o z p.stage s (objects_at z o.bucket) h.2))
