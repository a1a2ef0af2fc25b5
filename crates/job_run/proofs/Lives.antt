-- In a run of a legal script each busy actor is one of the job's, an idle attempt has ended its operation, and restarts are few.
use Rattle.text_and_lists.proofs.Members.{false_true, none_some, some_is}
use Rattle.job_model.specs.Attempts.{Declared, is_known}
use Rattle.job_model.specs.JobScript.{Script}
use Rattle.job_model.specs.Legal.{IsEvent, IsLegal}
use Rattle.job_model.specs.declared.ends.ActorEnd.{ActorEnd}
use Rattle.job_model.specs.declared.ends.EventEnd.{EventEnd}
use Rattle.job_model.specs.declared.ends.EventEnd.TheVariants.{Refused}
use Rattle.job_model.specs.declared.events.Event.{Event}
use Rattle.job_model.specs.declared.events.Event.TheVariants.{Do, Kill, Restart, Start}
use Rattle.job_model.specs.declared.states.ActorState.{ActorState}
use Rattle.job_model.specs.declared.states.Life.{Life}
use Rattle.job_model.specs.declared.states.Life.TheVariants.{Busy, Dead, Idle}
use Rattle.job_protocol.specs.Operations.{Running, Setting, over}
use Rattle.job_run.proofs.Along.{put_all}
use Rattle.job_spec.specs.States.{Past, dead, end_op, ended, idle, open_event, put, restarted}
use Rattle.job_spec.specs.Turns.{is_busy}
use Rattle.script_steps.proofs.Actors.{put_other}
use Rattle.script_steps.proofs.PastMore.{ended_idle, event_at}
use Rattle.script_steps.proofs.RunningStages.{may_end, memory_dies}
use Rattle.script_steps.proofs.Told.{told_all}
use Rattle.script_steps.specs.Transitions.{Closes, Enabled, Finishes, Opens, Play, Reachable, Refuses, Sends, Strays, Transition, happen}
use Rattle.script_steps.specs.Transitions.{happens, nothing_happened, open_running}
use Rattle.s3_types.specs.Store.{Content}
use Rattle.s3_types.specs.declared.request.Actor.{Actor}
use Rattle.s3_types.specs.declared.request.Actor.TheVariants.{Driver}
use Rattle.std.proofs.Common.{List, None, Option, Some, ap, arith, inl, inr, length, length-append, refl, subst, sym, true, [], ◌++◌, ◌+◌}
use Rattle.std.proofs.Common.{◌∙◌, ◌∷◌, ◌≡◌, ◌≤◌}
use Rattle.std.specs.Prelude.{IsSome, is_some}

-- ---- each busy actor is one of the job's

abbrev pub KnownBusy : List Declared → Past → Type 0
KnownBusy es p = (a : Actor) → is_busy (p.state a).life ≡ true → is_known es a ≡ true

module _ (es : List Declared) (p : Past) (old : KnownBusy es p) where
  -- If one actor gets a state, and is one of the job's if it is busy then, each busy actor is one of the job's.
  put_known : (a : Actor) (s : ActorState) → (is_busy s.life ≡ true → is_known es a ≡ true) → (b : Actor)
      → is_busy (put p.state a s b).life ≡ true → is_known es b ≡ true
  put_known a s here = put_all (λ b v. is_busy v.life ≡ true → is_known es b ≡ true) p.state a s here (λ b ne. old b)

  open_known : (w : Script) (ev : Event) → IsEvent es ev → KnownBusy es (open_event w p ev)
  open_known w (Do a op) h = put_known a _ (λ b. h.0)
  open_known w (Start a op) h = put_known a _ (λ b. h.0)
  open_known w (Kill a) h = put_known a (dead (p.state a).stage) (λ b. absurd (false_true refl b))
  open_known w Restart h = put_known Driver (idle (restarted (p.state Driver).stage)) (λ b. absurd (false_true refl b))
  open_known w _ h = old

  end_known : (y : ActorEnd) → KnownBusy es (end_op p y)
  end_known y = put_known y.actor (ended y.end (p.state y.actor).stage) (λ b. absurd
      (false_true (ended_idle y.end (p.state y.actor).stage) b))

-- ---- an idle attempt has ended its operation

abbrev pub AllOver : Past → (Actor → Option Running) → Type 0
AllOver p running = (a : Actor) → (a ≡ Driver → ⊥) → (p.state a).life ≡ Idle → (m : Running) → running a ≡ Some m
    → IsSome (over m.operation)

busy_idle : (l : Life) → l ≡ Busy → l ≡ Idle → ⊥
busy_idle l e f = cc

dead_idle : (l : Life) → l ≡ Dead → l ≡ Idle → ⊥
dead_idle l e f = cc

module _ (p : Past) (running : Actor → Option Running) (old : AllOver p running) where
  -- If one actor gets a state and an operation, which is over if the actor is idle, the same holds of each idle attempt.
  put_over : (a : Actor) (s : ActorState) (r : Actor → Option Running) → ((b : Actor) → (b ≡ a → ⊥) → r b ≡ running b)
      → (s.life ≡ Idle → (a ≡ Driver → ⊥) → (n : Running) → r a ≡ Some n → IsSome (over n.operation))
      → (b : Actor) → (b ≡ Driver → ⊥) → (put p.state a s b).life ≡ Idle → (n : Running) → r b ≡ Some n → IsSome (over n.operation)
  put_over a s r same here =
      put_all (λ b v. (b ≡ Driver → ⊥) → v.life ≡ Idle → (n : Running) → r b ≡ Some n → IsSome (over n.operation)) p.state a s
      (λ nd idle. here idle nd)
      (λ b ne nd idle n at. old b nd idle n (sym (same b ne) ∙ at))

open_over : (g : Setting) (x : Play) (ev : Event) → AllOver x.past x.running → AllOver (open_event g.script x.past ev) (open_running g x ev)
open_over g x (Do a op) old = put_over x.past x.running old a _ _ (put_other x.running a _) (λ e nd n at. absurd (busy_idle Busy refl e))
open_over g x (Start a op) old = put_over x.past x.running old a _ _ (put_other x.running a _) (λ e nd n at. absurd (busy_idle Busy refl e))
open_over g x (Kill a) old = put_over x.past x.running old a (dead (x.past.state a).stage) _ (λ b ne. refl)
    (λ e nd n at. absurd (dead_idle Dead refl e))
open_over g x Restart old = put_over x.past x.running old Driver (idle (restarted (x.past.state Driver).stage)) _ (λ b ne. refl)
    (λ e nd n at. absurd (nd refl))
open_over g x _ old = old

-- ---- restarts

open_attempt : (w : Script) (p : Past) (ev : Event) → (open_event w p ev).attempt ≤ p.attempt + 1
open_attempt w p (Do a op) = omega arith
open_attempt w p _ = omega arith

-- ---- all together

pub record Lives (g : Setting) (x : Play) : Type 0 where
  pub known : KnownBusy g.script.attempts x.live
  pub over : AllOver x.live x.running
  pub past_few : x.past.attempt ≤ length x.ends + 1
  pub live_few : x.live.attempt ≤ length x.ends + 2

module _ (g : Setting) (opening : Content) (legal : IsLegal g.script) (x : Play) (run : Reachable g opening x) (old : Lives g x) where
  live_is : x.now ≡ None → x.live ≡ x.past
  live_is idle = ((told_all g opening x run).closed idle).0

  longer : (end : EventEnd) → length (x.ends ++ end ∷ []) ≡ length x.ends + 1
  longer end = length-append x.ends (end ∷ [])

  lives_more : (h : Transition) → Enabled g opening x h → Lives g (happen g x h)
  lives_more (Refuses f) ok =
      let same = live_is ok.1.idle in
      record {
        known = subst (KnownBusy g.script.attempts) same old.known;
        over = subst (λ (p : Past). AllOver p x.running) same old.over;
        past_few = omega (arith, old.past_few, longer (Refused f));
        live_few = omega (arith, old.past_few, longer (Refused f));
      }
  lives_more (Opens ev) ok =
      let same = live_is ok.idle in
      record {
        known = open_known g.script.attempts x.past (subst (KnownBusy g.script.attempts) same old.known) g.script ev
            (event_at g.script.attempts g.script.events (length x.ends) ev legal.events ok.next);
        over = open_over g x ev (subst (λ (p : Past). AllOver p x.running) same old.over);
        past_few = old.past_few;
        live_few = omega (arith, old.past_few, open_attempt g.script x.past ev);
      }
  lives_more (Sends e) ok = record {
    known = old.known;
    over =
        put_all (λ a o. (a ≡ Driver → ⊥) → (x.live.state a).life ≡ Idle → (m : Running) → o ≡ Some m → IsSome (over m.operation)) x.running
        e.actor _
        (λ nd idle m at. absurd (busy_idle _ ok.busy idle)) (λ a ne. old.over a);
    past_few = old.past_few;
    live_few = old.live_few;
  }
  lives_more (Finishes y) ok = record {
    known = end_known g.script.attempts x.live old.known y;
    over = put_over x.live x.running old.over y.actor (ended y.end (x.live.state y.actor).stage) _ (λ b ne. refl)
        (λ idle nd n at. elim (may_end x y ok) [
          | inl memory ↦ absurd (dead_idle _ (ap (λ (v : ActorState). v.life) (memory_dies y.end _ memory)) idle)
          | inr q ↦ ap is_some (ap (λ (m : Running). over m.operation) (some_is (sym at ∙ q.1)) ∙ q.2)
        ]);
    past_few = old.past_few;
    live_few = old.live_few;
  }
  lives_more (Closes end) ok = record {
    known = old.known;
    over = old.over;
    past_few = omega (arith, old.live_few, longer end);
    live_few =
        omega (arith, old.live_few, longer end);
  }
  lives_more (Strays r o) ok = record { known = old.known; over = old.over; past_few = old.past_few; live_few = old.live_few }

pub lives : (g : Setting) (opening : Content) (x : Play) → IsLegal g.script → Reachable g opening x → Lives g x
lives g opening x legal nothing_happened = record {
  known = λ a busy. absurd (false_true refl busy);
  over = λ a nd idle m at. absurd (none_some refl at);
  past_few = omega arith;
  live_few = omega arith;
}
lives g opening x legal (happens y h before ok) = lives_more g opening legal y before (lives g opening y legal before) h ok
