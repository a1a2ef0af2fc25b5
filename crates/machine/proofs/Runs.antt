-- A run goes on by one send.
use Rattle.text_and_lists.proofs.Naturals.{more_times, no_more_times}
use Rattle.machine.proofs.Counts.{counted_then}
use Rattle.machine.specs.Counted.{Counted}
use Rattle.machine.specs.Drove.{IsRun, IsSent, standing_after}
use Rattle.machine.specs.inner.Drove.{Driving}
use Rattle.machine.specs.MachineLaws.{Laws}
use Rattle.machine.specs.Standing.{Standing}
use Rattle.machine.specs.Turns.{AreBy, retried, tells_worn, turn_of}
use Rattle.machine.specs.declared.retrying.Retrying.{Retrying}
use Rattle.retries.proofs.Runs.{follows_more, has_worn_more, run_more}
use Rattle.retries.specs.Operation.{Follows, run}
use Rattle.retries.specs.Retries.{Got, Item, Retried, WornOut, has_worn, is_zero, step, unanswered_by, wears}
use Rattle.s3_types.specs.Answer.{answer, apply}
use Rattle.s3_types.specs.Foretold.{AreForetold, IsForetold}
use Rattle.s3_types.specs.Moment.{AreHonest, IsHonestOutcome, after_all, effect, is_unanswered}
use Rattle.s3_types.specs.Store.{Scene}
use Rattle.s3_types.specs.declared.fates.Fate.{Fate}
use Rattle.s3_types.specs.declared.journal.Entry.{Entry}
use Rattle.s3_types.specs.declared.journal.Outcome.{Outcome}
use Rattle.s3_types.specs.declared.journal.Outcome.TheVariants.{Answered, ReplyLost, RequestLost, Slow}
use Rattle.s3_types.specs.declared.reply.Reply.{Reply}
use Rattle.s3_types.specs.declared.request.Actor.{Actor}
use Rattle.s3_types.specs.declared.request.Request.{Request}
use Rattle.std.proofs.Common.{Bool, List, Option, Some, ap, append_assoc, arith, false, length, length-append, refl, subst, suc, sym, true}
use Rattle.std.proofs.Common.{zero, ℕ, [], ◌*◌, ◌++◌, ◌+◌, ◌<◌, ◌||◌, ◌∙◌, ◌∷◌, ◌≡◌, ◌≤◌}
use Rattle.std.specs.Prelude.{IsTrue}

pub after_all_more : (s : Scene) (part : List Entry) (e : Entry)
    → after_all s (part ++ e ∷ []) ≡ effect (after_all s part) e.request e.outcome
after_all_more s [] e = refl
after_all_more s (x ∷ part) e = after_all_more (effect s x.request x.outcome) part e

pub honest_more : (s : Scene) (part : List Entry) (e : Entry) → AreHonest s part
    → IsHonestOutcome e.outcome (answer (after_all s part) e.request) → AreHonest s (part ++ e ∷ [])
honest_more s [] e h k = (k, tt)
honest_more s (x ∷ part) e h k = (h.0, honest_more (effect s x.request x.outcome) part e h.1 k)

pub by_more : (actor : Actor) (event : ℕ) (part : List Entry) (e : Entry) → AreBy actor event part → e.actor ≡ actor → e.event ≡ event
    → AreBy actor event (part ++ e ∷ [])
by_more actor event [] e h a b = (a, b, tt)
by_more actor event (x ∷ part) e h a b = (h.0, h.1, by_more actor event part e h.2 a b)

pub is_run_more : {M : Type 0} (wants : M → Option Request) (after : M → Item → M) (actor : Actor) (event : ℕ) (t : Retrying M) (s : Scene)
    (part : List Entry) (s' : Scene) (t' : Retrying M) (e : Entry) (s'' : Scene)
    → retried t' ≡ run (step t.retries after) (retried t) part → IsRun wants after actor event t s part s'
    → IsSent wants actor event t' s' e s'' → IsRun wants after actor event t s (part ++ e ∷ []) s''
is_run_more wants after actor event t s part s' t' e s'' h g f = grind (arith, by_more, honest_more, follows_more, after_all_more)

-- The work that is left: the steps to come, and the sends to spare.
abbrev pub work : {M : Type 0} → (M → Scene → ℕ) → ℕ → Retried M → Scene → ℕ
work left retries t s = left t.operation s * (retries + 1) + t.spare

less_work : (a b n x y : ℕ) → a < b → x ≤ n → a * (n + 1) + x < b * (n + 1) + y
less_work a b n x y h k = omega (arith, more_times a b n h)

one_less : (a n : ℕ) → a + n < a + suc n
one_less a n = omega arith

-- The turn says that a request exhausted its retries exactly if it did.
pub told : {M : Type 0} (t : Retried M) (o : Outcome) → tells_worn (turn_of t o) ≡ wears t o
told t o = grind arith

pub lost_if_worn : {M : Type 0} (t : Retried M) (o : Outcome) → wears t o ≡ true → IsTrue (is_unanswered o)
lost_if_worn t o h = grind arith

lost_now : (worn wears_now : Bool) (a b c : ℕ) → a ≤ b → b ≤ c → (worn ≡ true → a < b) → (wears_now ≡ true → b < c)
    → (worn || wears_now) ≡ true → a < c
lost_now true w a b c h k f g e = omega (arith, f refl)
lost_now false w a b c h k f g e = omega (arith, g e)

standing_both : (a b : Bool) (f : Standing) → standing_after b (standing_after a f) ≡ standing_after (a || b) f
standing_both a b f = grind arith

module _ {M : Type 0} {wants : M → Option Request} {after : M → Item → M} {fits : M → Reply → Bool → Type 0}
    {ready : M → Scene → Bool → Type 0} {left : M → Scene → ℕ} {standing : M → Standing} (laws : Laws wants after fits ready left standing)
    (retries : ℕ) where
  ready_unanswered : (m : M) (spare : ℕ) (s : Scene) (r : Request) (b : Bool) → wants m ≡ Some r → ready m s b
      → ready (unanswered_by retries after m b spare).operation s (unanswered_by retries after m b spare).repeated
  ready_unanswered m spare s r b h g = grind arith

  pub ready_step : (t : Retried M) (s : Scene) (r : Request) (o : Outcome) → wants t.operation ≡ Some r → ready t.operation s t.repeated
      → IsHonestOutcome o (answer s r) → ready (step retries after t o).operation (effect s r o) (step retries after t o).repeated
  ready_step t s r (Answered a) w h k = subst (λ v. ready (after t.operation (Got v t.repeated)) (apply s r) false) (sym k)
      (laws.took t.operation s r t.repeated w h)
  ready_step t s r Slow w h k = ready_unanswered t.operation t.spare s r t.repeated w h
  ready_step t s r RequestLost w h k = ready_unanswered t.operation t.spare s r true w (laws.lost t.operation s t.repeated h)
  ready_step t s r ReplyLost w h k = ready_unanswered t.operation t.spare (apply s r) r true w (laws.hidden t.operation s r t.repeated w h)

  falls_unanswered : (m : M) (spare : ℕ) (s : Scene) (r : Request) (b : Bool) → wants m ≡ Some r → ready m s b
      → work left retries (unanswered_by retries after m b spare) s < left m s * (retries + 1) + spare
  falls_unanswered m zero s r b w h = less_work (left (after m WornOut) s) (left m s) retries retries 0 (laws.falls_worn m s r b w h)
      (omega arith)
  falls_unanswered m (suc n) s r b w h = one_less (left m s * (retries + 1)) n

  pub falls_step : (t : Retried M) (s : Scene) (r : Request) (o : Outcome) → wants t.operation ≡ Some r → ready t.operation s t.repeated
      → IsHonestOutcome o (answer s r) → work left retries (step retries after t o) (effect s r o) < work left retries t s
  falls_step t s r (Answered a) w h k =
      subst (λ v. work left retries (step retries after t (Answered v)) (apply s r) < work left retries t s) (sym k)
      (less_work (left (after t.operation (Got (answer s r) t.repeated)) (apply s r)) (left t.operation s) retries retries t.spare
      (laws.falls t.operation s r t.repeated w h) (omega arith))
  falls_step t s r Slow w h k = falls_unanswered t.operation t.spare s r t.repeated w h
  falls_step t s r RequestLost w h k = falls_unanswered t.operation t.spare s r true w (laws.lost t.operation s t.repeated h)
  falls_step t s r ReplyLost w h k =
      omega (
        arith,
        falls_unanswered t.operation t.spare (apply s r) r true w (laws.hidden t.operation s r t.repeated w h),
        no_more_times
            (left t.operation (apply s r)) (left t.operation s) retries (laws.no_rise t.operation s r t.repeated w h),
      )

  standing_unanswered : (m : M) (spare : ℕ) (r : Request) (b : Bool) → wants m ≡ Some r
      → standing (unanswered_by retries after m b spare).operation ≡ standing_after (is_zero spare) (standing m)
  standing_unanswered m spare r b h = grind arith

  pub standing_step : (t : Retried M) (s : Scene) (r : Request) (o : Outcome) → wants t.operation ≡ Some r → ready t.operation s t.repeated
      → IsHonestOutcome o (answer s r) → standing (step retries after t o).operation ≡ standing_after (wears t o) (standing t.operation)
  standing_step t s r (Answered a) w h k = laws.goes_on t.operation r a t.repeated w
      (subst (λ v. fits t.operation v t.repeated) (sym k) (laws.fit t.operation s r t.repeated w h))
  standing_step t s r Slow w h k = standing_unanswered t.operation t.spare r t.repeated w
  standing_step t s r _ w h k = standing_unanswered t.operation t.spare r true w

pub told_more : (told : ℕ → Option Fate) (n : ℕ) (part : List Entry) (e : Entry) → AreForetold told n part
    → IsForetold (told (n + length part)) e.outcome → AreForetold told n (part ++ e ∷ [])
told_more p n [] e h k =
    let m : n + 0 ≡ n = omega arith in
    (subst (λ v. IsForetold (p v) e.outcome) m k, tt)
told_more p n (x ∷ part) e h k =
    let m : n + suc (length part) ≡ (n + 1) + length part = omega arith in
    (h.0, told_more p (n + 1) part e h.1 (subst (λ v. IsForetold (p v) e.outcome) m k))

-- The number of the next request.
pub next_number : (old new part : List Entry) (first requests : ℕ) → new ≡ old ++ part → requests + length old ≡ first + length new
    → requests + 1 ≡ first + 1 + length part
next_number old new part first requests e h = let n : length new ≡ length (old ++ part) = ap length e in omega
    (arith, n, length-append old part, h)

pub driving_more : {M : Type 0} {wants : M → Option Request} {after : M → Item → M} {fits : M → Reply → Bool → Type 0}
    {ready : M → Scene → Bool → Type 0} {left : M → Scene → ℕ} {standing : M → Standing} (laws : Laws wants after fits ready left standing)
    (actor : Actor) (event : ℕ) (t t' t'' : Retrying M) (s s' s'' : Scene) (old new new' : List Entry) (before now now' : ℕ)
    (told tells tells' : ℕ → Option Fate) (first requests requests' : ℕ) (worn worn' : Bool) (e : Entry)
    → Driving after wants ready standing actor event t t' s s' old new before now told tells first requests worn
    → IsSent wants actor event t' s' e s''
    → new' ≡ new ++ e ∷ []
    → retried t'' ≡ step t'.retries after (retried t') e.outcome
    → t''.retries ≡ t'.retries
    → Counted new new' requests requests' now now' tells tells'
    → (IsTrue (is_unanswered e.outcome) → now < now')
    → worn' ≡ (worn || wears (retried t') e.outcome)
    → IsForetold (tells (requests + 1)) e.outcome
    → Driving after wants ready standing actor event t t'' s s'' old new' before now' told tells' first requests' worn'
driving_more {M = M} {wants = wants} {after = after} {fits = fits} {ready = ready} {standing = standing} laws actor event t t' t'' s s' s''
    old new new' before now now' told tells tells' first requests requests' worn worn' e d k en et er ec lost ew it =
    let stepped : retried t'' ≡ step t.retries after (retried t') e.outcome = et ∙ ap (λ n. step n after (retried t') e.outcome) d.retries
    in
    record {
      part = d.part ++ e ∷ [];
      appended = en ∙ ap (λ v. v ++ e ∷ []) d.appended ∙ append_assoc old d.part (e ∷ []);
      is_run = is_run_more wants after actor event t s d.part s' t' e s'' d.there d.is_run k;
      there = stepped ∙ ap (λ v. step t.retries after v e.outcome) d.there ∙ sym (run_more (step t.retries after) (retried t) d.part e);
      retries = er ∙ d.retries;
      wore = ew ∙ ap (λ v. v || wears (retried t') e.outcome) d.wore ∙ ap (λ v. has_worn t.retries after (retried t) d.part || wears v
          e.outcome) d.there ∙ sym (has_worn_more t.retries after (retried t) d.part e);
      ready_still = subst (λ (v : Retried M). ready v.operation s'' v.repeated) (sym stepped)
          (subst (λ v. ready (step t.retries after (retried t') e.outcome).operation v
          (step t.retries after (retried t') e.outcome).repeated) (sym k.scene)
          (ready_step laws t.retries (retried t') s' e.request e.outcome k.wanted d.ready_still k.honest));
      foretold = let n : requests + 1 ≡ first + 1 + length d.part = next_number old new d.part first requests d.appended d.counts.made in
          told_more told (first + 1) d.part e d.foretold (subst (λ v. IsForetold v e.outcome) (d.counts.foretold (requests + 1) ∙ ap told n)
          it);
      counted = omega (arith, d.counted, ec.made);
      counts = counted_then old new new' d.part (e ∷ []) first requests requests' before now now' told tells tells' d.appended en d.counts
          ec;
      stands = ap (λ (v : Retried M). standing v.operation) stepped ∙ standing_step laws t.retries (retried t') s' e.request e.outcome
          k.wanted d.ready_still k.honest ∙ ap (standing_after (wears (retried t') e.outcome)) d.stands
          ∙ standing_both worn (wears (retried t') e.outcome) (standing t.machine) ∙ ap (λ b. standing_after b (standing t.machine))
          (sym ew);
      lost = λ h. lost_now worn (wears (retried t') e.outcome) before now now' d.counts.losses ec.losses d.lost
          (λ w. lost (lost_if_worn (retried t') e.outcome w)) (sym ew ∙ h);
    }

-- A run keeps what each send keeps, at its end and at every point of it.
module _ {M : Type 0} (wants : M → Option Request) (tells : M → Outcome → M) (P : M → Scene → Type 0)
    (keeps : (m : M) (s : Scene) (e : Entry) → wants m ≡ Some e.request → IsHonestOutcome e.outcome (answer s e.request) → P m s
    → P (tells m e.outcome) (effect s e.request e.outcome)) where
  pub run_keeps : (m : M) (s : Scene) (es : List Entry) → Follows wants tells m es → AreHonest s es → P m s
      → P (run tells m es) (after_all s es)
  run_keeps m s [] f h p = p
  run_keeps m s (e ∷ es) f h p = run_keeps (tells m e.outcome) (effect s e.request e.outcome) es f.1 h.1 (keeps m s e f.0 h.0 p)
