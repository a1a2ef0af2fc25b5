-- The sends that a machine with its retries has left, among other actors that send.
use Rattle.job_operations.specs.Acts.{sendings_left, stepped, under}
use Rattle.text_and_lists.proofs.Naturals.{more_times, no_more_times}
use Rattle.job_protocol.specs.Measures.{FallsAmong}
use Rattle.machine.specs.Turns.{FitsOutcome}
use Rattle.machine.specs.declared.retrying.Retrying.{Retrying}
use Rattle.retries.specs.Retries.{Got, Item, WornOut, unanswered_by}
use Rattle.s3_types.specs.Answer.{answer, apply}
use Rattle.s3_types.specs.Moment.{IsHonestOutcome, effect}
use Rattle.s3_types.specs.Store.{Scene}
use Rattle.s3_types.specs.declared.journal.Outcome.{Outcome}
use Rattle.s3_types.specs.declared.journal.Outcome.TheVariants.{Answered, ReplyLost, RequestLost, Slow}
use Rattle.s3_types.specs.declared.reply.Reply.{Reply}
use Rattle.s3_types.specs.declared.request.Request.{Request}
use Rattle.std.proofs.Common.{arith, subst, sym}
use Rattle.std.proofs.Math.Nat.{add-mul}
use Rattle.std.specs.Prelude.{Bool, Option, Some, suc, true, zero, ℕ, ◌*◌, ◌+◌, ◌<◌, ◌≡◌, ◌≤◌}

less_work : (a b n x : ℕ) → a < b → a * (n + 1) + n < b * (n + 1) + x
less_work a b n x h = omega (arith, more_times a b n h)

spread : (a b k n : ℕ) → a ≤ b + k → a * (n + 1) ≤ b * (n + 1) + k * (n + 1)
spread a b k n h =
    let e : (b + k) * (n + 1) ≡ b * (n + 1) + k * (n + 1) = add-mul b k (n + 1) in
    omega (arith, no_more_times a (b + k) n h, e)

-- The bound falls with a send that got no answer, after which the scene is `t`.
unanswered_falls : {M : Type 0} {wants : M → Option Request} {after : M → Item → M} {fits : M → Reply → Bool → Type 0}
    {left : M → Scene → ℕ} {rise : ℕ} → FallsAmong wants after fits left rise
    → (retries : ℕ) (m : M) (spare : ℕ) (repeated : Bool) (s t : Scene) (r : Request) → wants m ≡ Some r → left m t ≤ left m s
    → sendings_left left (under retries (unanswered_by retries after m repeated spare)) t < left m s * (retries + 1) + spare
unanswered_falls {after = after} {left = left} h retries m zero repeated s t r w le = less_work (left (after m WornOut) t) (left m s)
    retries 0 (let k = h.falls_worn m t r w in omega (arith, k, le))
unanswered_falls {left = left} h retries m (suc n) repeated s t r w le = omega (arith, no_more_times (left m t) (left m s) retries le)

-- The bound falls with each send of the machine.
pub sending_falls : {M : Type 0} {wants : M → Option Request} {after : M → Item → M} {fits : M → Reply → Bool → Type 0}
    {left : M → Scene → ℕ} {rise : ℕ} → FallsAmong wants after fits left rise
    → (t : Retrying M) (s : Scene) (r : Request) (o : Outcome) → wants t.machine ≡ Some r → FitsOutcome fits t o
    → IsHonestOutcome o (answer s r)
    → sendings_left left (stepped after t o) (effect s r o) < sendings_left left t s
sending_falls {after = after} {fits = fits} {left = left} h t s r (Answered a) w f e =
    let f : fits t.machine (answer s r) t.repeated = subst (λ x. fits t.machine x t.repeated) e f in
    subst (λ x. left (after t.machine (Got x t.repeated)) (apply s r) * (t.retries + 1) + t.retries < left t.machine s * (t.retries + 1) +
    t.spare) (sym e)
    (less_work (left (after t.machine (Got (answer s r) t.repeated)) (apply s r)) (left t.machine s) t.retries t.spare
    (h.falls t.machine s r t.repeated w f))
sending_falls {left = left} h t s r Slow w f e = unanswered_falls h t.retries t.machine t.spare t.repeated s s r w (omega arith)
sending_falls h t s r RequestLost w f e = unanswered_falls h t.retries t.machine t.spare true s s r w (omega arith)
sending_falls h t s r ReplyLost w f e = unanswered_falls h t.retries t.machine t.spare true s (apply s r) r w (h.no_rise t.machine s r w)

-- A request of another actor raises the bound by no more than this.
pub sending_rises : {M : Type 0} {wants : M → Option Request} {after : M → Item → M} {fits : M → Reply → Bool → Type 0}
    {left : M → Scene → ℕ} {rise : ℕ} → FallsAmong wants after fits left rise
    → (t : Retrying M) (s : Scene) (r : Request) → sendings_left left t (apply s r) ≤ sendings_left left t s + rise * (t.retries + 1)
sending_rises {left = left} {rise = rise} h t s r =
    let k = spread (left t.machine (apply s r)) (left t.machine s) rise t.retries (h.others t.machine s r) in
    omega (arith, k)
