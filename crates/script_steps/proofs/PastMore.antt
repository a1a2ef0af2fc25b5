-- The states after one more event or end, which actors are busy then, and which operations events begin.
use Rattle.text_and_lists.proofs.Members.{false_true, none_some, some_is}
use Rattle.job_model.specs.Attempts.{Declared}
use Rattle.job_model.specs.JobScript.{Script}
use Rattle.job_model.specs.Known.{Known}
use Rattle.job_model.specs.Legal.{AreEvents, HasOp, IsEvent}
use Rattle.job_model.specs.declared.ends.ActorEnd.{ActorEnd}
use Rattle.job_model.specs.declared.ends.EventEnd.{EventEnd}
use Rattle.job_model.specs.declared.ends.EventEnd.TheVariants.{Refused}
use Rattle.job_model.specs.declared.ends.EventFault.{EventFault}
use Rattle.job_model.specs.declared.ends.OpEnd.{OpEnd}
use Rattle.job_model.specs.declared.events.Event.{Event}
use Rattle.job_model.specs.declared.events.Event.TheVariants.{Do, Mix, Run, Start, Step}
use Rattle.job_model.specs.declared.events.Op.{Op}
use Rattle.job_model.specs.declared.states.ActorStage.{ActorStage}
use Rattle.job_model.specs.declared.states.ActorState.{ActorState}
use Rattle.job_model.specs.declared.states.Life.{Life}
use Rattle.job_model.specs.declared.states.Life.TheVariants.{Busy}
use Rattle.job_protocol.specs.Operations.{Operation, Reports, Setting, start_of}
use Rattle.job_spec.specs.States.{Past, after_event, count, end_op, end_ops, ended, may, open_event, past_from, refusal, refuse_begin}
use Rattle.job_spec.specs.States.{refuse_op, told}
use Rattle.job_spec.specs.Turns.{OpenTurns, Turns, busy_actors, is_busy, mix_begins}
use Rattle.script_steps.proofs.RunningStages.{begins_so}
use Rattle.s3_types.specs.declared.journal.Entry.{Entry}
use Rattle.s3_types.specs.declared.request.Actor.{Actor}
use Rattle.s3_types.specs.declared.request.Actor.TheVariants.{Attempt, Driver, Shell}
use Rattle.std.proofs.Common.{List, None, Some, ap, arith, false, length, refl, slice_get, subst, suc, true, zero, ℕ, [], ◌++◌, ◌∷◌, ◌≡◌}
use Rattle.std.proofs.Common.{◌≤◌}
use Rattle.job_model.specs.declared.events.Op.TheVariants as ops

-- ---- one more

pub past_more : (w : Script) (p : Past) (evs : List Event) (xs : List EventEnd) (ev : Event) (x : EventEnd)
    → slice_get evs (length xs) ≡ Some ev
    → past_from w p evs (xs ++ x ∷ []) ≡ after_event w (past_from w p evs xs) ev x
past_more w p [] [] ev x h = absurd (none_some refl h)
past_more w p [] (y ∷ ys) ev x h = absurd (none_some refl h)
past_more w p (e ∷ es) [] ev x h = ap (λ v. after_event w p v x) (some_is h)
past_more w p (e ∷ es) (y ∷ ys) ev x h = past_more w (after_event w p e y) es ys ev x h

pub after_is : (w : Script) (p : Past) (ev : Event) (end : EventEnd) → ((f : EventFault) → end ≡ Refused f → ⊥)
    → after_event w p ev end ≡ count (end_ops (open_event w p ev) (told ev end))
after_is w p ev end h = grind arith

pub ends_more : (p : Past) (xs : List ActorEnd) (y : ActorEnd) → end_ops p (xs ++ y ∷ []) ≡ end_op (end_ops p xs) y
ends_more p [] y = refl
ends_more p (x ∷ xs) y = ends_more (end_op p x) xs y

pub opening_counts : (w : Script) (p : Past) (ev : Event) → (open_event w p ev).events ≡ p.events
opening_counts w p ev = grind arith

-- ---- lives

pub busy_so : (l : Life) → l ≡ Busy → is_busy l ≡ true
busy_so l e = ap is_busy e

pub busy_is : (l : Life) → is_busy l ≡ true → l ≡ Busy
busy_is l h = grind arith

pub busy_not : (l : Life) → l ≡ Busy → is_busy l ≡ false → ⊥
busy_not l e h = false_true h (busy_so l e)

-- An actor whose operation ended is not busy.
pub ended_idle : (e : OpEnd) (s : ActorStage) → is_busy (ended e s).life ≡ false
ended_idle e s = grind arith

-- ---- turns

pub turns_refused : (w : Script) (st : Actor → ActorState) (ev : Event) (end : EventEnd) (es : List Entry) (f : EventFault)
    → Turns w st ev end es → end ≡ Refused f → ⊥
turns_refused w st ev end es f h g = grind arith

-- An event in progress may have no entry yet.
pub turns_open : (w : Script) (st : Actor → ActorState) (ev : Event) → OpenTurns w st ev []
turns_open w st (Do a op) = tt
turns_open w st (Step a n) = let l : 0 ≤ n = omega arith in (tt, l)
turns_open w st (Run a) = tt
turns_open w st (Mix seed) = ([], busy_actors w st, mix_begins)
turns_open w st _ = refl

-- ---- operations that begin

-- The actor has such an operation.
abbrev pub Starts : Setting → Actor → Op → Type 0
Starts g a op = (reports : Reports) (k : Known) → (o : Operation) × (start_of g a op reports k ≡ Some o)

-- An event begins only operations that its actor has.
abbrev pub Begins : Setting → Event → Type 0
Begins g (Do a op) = Starts g a op
Begins g (Start a op) = Starts g a op
Begins g _ = Unit {0}

has_starts : (g : Setting) (a : Actor) (op : Op) → HasOp a op → Starts g a op
has_starts g Driver ops.Write h m k = absurd h
has_starts g (Attempt t n) ops.Setup h m k = absurd h
has_starts g (Attempt t n) ops.Clean h m k = absurd h
has_starts g Shell op h m k = absurd h
has_starts g _ _ h m k = (_, refl)

may_has : (a : Actor) (op : Op) (s : ActorStage) → may a op s ≡ true → HasOp a op
may_has a op s h = grind arith

fine_starts : (g : Setting) (a : Actor) (op : Op) (st : Actor → ActorState)
    → refuse_begin (st a).life (refuse_op (st Driver).stage a op (st a).stage) ≡ None → Starts g a op
fine_starts g a op st h = has_starts g a op (may_has a op (st a).stage (begins_so (st Driver).stage a op (st a).life (st a).stage
    h).may_begin)

-- An event that is not refused does so.
pub fine_begins : (g : Setting) (st : Actor → ActorState) (ev : Event) → refusal st ev ≡ None → Begins g ev
fine_begins g st (Do a op) h = fine_starts g a op st h
fine_begins g st (Start a op) h = fine_starts g a op st h
fine_begins g st _ h = tt

-- So does each event of a legal script.
pub legal_begins : (g : Setting) (attempts : List Declared) (ev : Event) → IsEvent attempts ev → Begins g ev
legal_begins g attempts ev h = grind (arith, has_starts)

pub event_at : (attempts : List Declared) (evs : List Event) (k : ℕ) (ev : Event) → AreEvents attempts evs → slice_get evs k ≡ Some ev
    → IsEvent attempts ev
event_at attempts [] k ev all h = absurd (none_some refl h)
event_at attempts (e ∷ es) zero ev all h = subst (λ v. IsEvent attempts v) (some_is h) all.0
event_at attempts (e ∷ es) (suc k) ev all h = event_at attempts es k ev all.1 h
