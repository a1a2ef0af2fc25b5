-- The event in progress gets its end, and all that holds between events holds again.
use Rattle.text_and_lists.proofs.Bools.{not_so}
use Rattle.text_and_lists.proofs.Members.{some_is}
use Rattle.text_and_lists.proofs.Options.{none_is}
use Rattle.job_model.specs.Known.{Known}
use Rattle.job_model.specs.declared.ends.ActorEnd.{ActorEnd}
use Rattle.job_model.specs.declared.ends.EventEnd.{EventEnd}
use Rattle.job_model.specs.declared.ends.EventEnd.TheVariants.{Refused}
use Rattle.job_model.specs.declared.ends.EventFault.{EventFault}
use Rattle.job_model.specs.declared.ends.OpEnd.{OpEnd}
use Rattle.job_model.specs.declared.ends.Pick.{Pick}
use Rattle.job_model.specs.declared.events.Event.{Event}
use Rattle.job_model.specs.declared.states.Life.TheVariants.{Busy}
use Rattle.job_protocol.specs.Operations.{Running, Setting, over}
use Rattle.job_run.proofs.Kept.{Leaves, close_leaves, hand_kept, put_by_kept, refuse_leaves}
use Rattle.job_run.proofs.Moments.{busy_of, hand_at, is_idle, live_of, lives_of, may_open, never, past_of}
use Rattle.job_run.proofs.Seen.{next_number}
use Rattle.job_run.proofs.Standings.{place_known, same_actors}
use Rattle.job_run.specs.Events.{Next}
use Rattle.job_run.specs.inner.Events.{ByTurns, end_of}
use Rattle.job_run.specs.Holds.{Going, HandIs, HandsAre, Holds, IsTurn, NoneOver, Quiet, all_sound, is_busy_at, is_mine, seen_by}
use Rattle.job_run.specs.Holds.{setting_of}
use Rattle.job_run.specs.Sending.{Asks}
use Rattle.job_run.specs.declared.body.Body.{Body}
use Rattle.job_run.specs.declared.hands.Hand.{Hand}
use Rattle.job_run.specs.declared.hands.Hand.TheVariants.{At}
use Rattle.job_spec.specs.States.{Past, count}
use Rattle.job_spec.specs.Turns.{Turns, is_busy, of_event}
use Rattle.job_states.specs.Stands.{Kept, Stands}
use Rattle.script_steps.proofs.PastMore.{busy_so}
use Rattle.script_steps.specs.Transitions.{Closes, MayClose, Play, Reachable, Refuses, happen, happens}
use Rattle.s3_types.specs.Moment.{moment}
use Rattle.s3_types.specs.declared.request.Actor.{Actor}
use Rattle.s3_types.specs.declared.request.Actor.TheVariants.{Driver}
use Rattle.s3_types.specs.declared.request.Request.{Request}
use Rattle.std.proofs.Common.{Global, List, None, Option, Some, Vec, ap, length, length-append, not, refl, subst, sym, true, [], ◌++◌, ◌+◌}
use Rattle.std.proofs.Common.{◌∙◌, ◌∷◌, ◌≡◌}
use Rattle.std.specs.Prelude.{is_some}
use Rattle.job_run.specs.inner.Events as events

-- The body with one more event counted.
abbrev pub counted : {W : Type 0} → Body W → Vec EventEnd Global → Vec ActorEnd Global → Kept → Option Event → Body W
counted b ends finished k now =
    record b {
      side = record b.side { ends = ends; finished = finished; states = k; event = now };
      shared = record b.shared
          { events = b.shared.events + 1 };
    }

module _ {W : Type 0} (wants : W → Option Request) (is_of : Setting → Actor → W → Type 0) (running : Known → W → Running)
    (picks_of : W → Option (List Pick)) where
  -- The body with one more event counted, which has its end, holds what it must between events.
  quiet_ended : (b : Body W) (h : Holds is_of running picks_of all_sound b) → NoneOver wants b → IsTurn b
      → (end : EventEnd) (ends : Vec EventEnd Global) (finished : Vec ActorEnd Global) (k : Kept) (now : Option Event) (y : Play)
      → Reachable (setting_of b) b.shared.opening y → ((a : Actor) → Leaves h.play y a) → Stands b.side.script k y.live
      → y.live ≡ count h.play.live
      → y.ends ≡ h.play.ends ++ end ∷ [] → y.now ≡ None → y.finished ≡ []
      → ends.items ≡ b.side.ends.items ++ end ∷ [] → finished.items ≡ [] → now ≡ None
      → Quiet wants is_of running picks_of (counted b ends finished k now)
  quiet_ended b h over turn end ends finished k now y happened leaves stands same ends_are now_is none_are items none idle =
      let c : Body W = counted b ends finished k now in
      let actors = same_actors b.side.script b.side.states k h.play.live y.live h.stands stands (ap (λ p. p.state) same)
      (ap (λ p. p.doing) same) (ap (λ p. p.reported) same) in
      let journal = h.journal ∙ sym (leaves Driver).journal in
      let scene = h.scene ∙ ap (λ es. moment b.shared.opening es (length es)) (sym (leaves Driver).journal) in
      let told = items ∙ ap (λ xs. xs ++ end ∷ []) h.ends ∙ sym ends_are in
      let counts =
      next_number (is_mine b.side.others.items) b.shared.events turn.mine ∙ ap (λ n. n + 1) h.counts ∙ sym
      (length-append b.side.ends.items (end ∷ [])) ∙ sym (ap length items) in
      let hands : HandsAre is_of running picks_of all_sound (setting_of b) b.shared.opening y b.side.hands.items =
      λ p a v s there hand. hand_kept (setting_of b) b.shared.opening h.play y is_of running picks_of a (leaves a) v
      (h.hands p a v refl there hand) in
      let picks = put_by_kept (setting_of b) b.shared.opening h.play y (leaves Driver) b.side.picks h.picks in
      let over_then : NoneOver wants c = λ p v busy hand. over p v (ap (λ l. is_busy_at l p) (sym actors) ∙ busy) hand in
      search (
        happened,
        journal,
        told,
        counts,
        never (IsTurn c) now idle,
        idle ∙ sym now_is,
        none ∙ sym none_are,
        scene,
        stands,
        hands,
        picks,
        over_then,
        none,
        idle,
        h,
      )

  -- ---- the event is refused

  pub quiet_refused : (b c : Body W) (ev : Event) (fault : EventFault) (q : Quiet wants is_of running picks_of b) → Next b ev
      → events.Refuses b ev fault → IsTurn b
      → c.side.ends.items ≡ b.side.ends.items ++ Refused fault ∷ []
      → ((p : Past) → Stands b.side.script b.side.states p → Stands b.side.script c.side.states (count p))
      → Quiet wants is_of running picks_of (counted b c.side.ends b.side.finished c.side.states b.side.event)
  quiet_refused b c ev fault q next refused turn ends stands =
      let x = q.holds.play in
      let live = live_of is_of running picks_of all_sound b q.holds q.idle in
      quiet_ended b q.holds q.none_over turn (Refused fault) c.side.ends b.side.finished c.side.states b.side.event
      (happen (setting_of b) x (Refuses fault))
      (happens x (Refuses fault) q.holds.happened (
        ev,
        may_open is_of running picks_of all_sound b q.holds ev (Some fault) q.idle next
            refused,
      ))
      (λ a. refuse_leaves (setting_of b) x fault a (is_idle is_of running picks_of all_sound b q.holds q.idle) live)
      (stands x.past (subst (Stands b.side.script b.side.states) live q.holds.stands)) (ap count (sym live)) refl refl refl ends q.none
      q.idle

  -- ---- the event is over

  module _ (end_of_work : W → Option OpEnd) (asks : (m : W) → is_some (wants m) ≡ not (is_some (end_of_work m)))
      (ends_as : (k : Known) (m : W) → end_of_work m ≡ over (running k m).operation)
      (b c : Body W) (ev : Event) (q : Going wants is_of running picks_of b) (now : b.side.event ≡ Some ev) (turns : ByTurns b ev)
      (ends : c.side.ends.items ≡ b.side.ends.items ++ end_of ev b.side.finished.items ∷ []) (finished : c.side.finished.items ≡ [])
      (stands : (p : Past) → Stands b.side.script b.side.states p → Stands b.side.script c.side.states (count p)) where
    goes_at : (a : Actor) (m : Running) (k : Hand W) → HandIs is_of running picks_of (setting_of b) b.shared.opening q.holds.play a k
        → Asks wants k → q.holds.play.running a ≡ Some m → over m.operation ≡ None
    goes_at a m (At n) is h at = ap (λ (v : Running). over v.operation) (some_is (sym at ∙ is.1.0)) ∙ sym (ends_as _ n) ∙ none_is
        (end_of_work n) (not_so _ (sym (asks n) ∙ h))
    goes_at a m _ is h at = absurd h

    -- Each busy actor has more to send.
    going_all : (a : Actor) (m : Running) → (q.holds.play.live.state a).life ≡ Busy → q.holds.play.running a ≡ Some m
        → over m.operation ≡ None
    going_all a m busy at =
        let busy_is : is_busy (q.holds.play.live.state a).life ≡ true = busy_so _ busy in
        let p = place_known b.side.script a ((lives_of is_of running picks_of all_sound b q.holds).known a busy_is) in
        let k = hand_at is_of running picks_of all_sound b q.holds p.0 a p.1 in
        goes_at a m k.0 (q.holds.hands p.0 a k.0 refl p.1 k.1) (q.none_over p.0 k.0
        (busy_of is_of running picks_of all_sound b q.holds p.0 a p.1 ∙ busy_is) k.1) at

    closes : MayClose (setting_of b) q.holds.play (end_of ev b.side.finished.items)
    closes =
        let T : List EventEnd → Past → Type 0 = λ xs p. Turns b.side.script p.state ev (end_of ev b.side.finished.items)
        (of_event (length xs + 1) (seen_by b)) in
        let by_turns =
        subst (λ es. Turns b.side.script q.holds.play.past.state ev (end_of ev b.side.finished.items)
        (of_event (length q.holds.play.ends + 1) es)) q.holds.journal
        (subst (λ xs. T xs q.holds.play.past) q.holds.ends (subst (T b.side.ends.items)
        (sym (past_of is_of running picks_of all_sound b q.holds)) turns.turns)) in
        search (sym q.holds.now ∙ now, turns.told ∙ q.holds.finished, by_turns, going_all)

    pub quiet_closed : Quiet wants is_of running picks_of (counted b c.side.ends c.side.finished c.side.states None)
    quiet_closed =
        let end = end_of ev b.side.finished.items in
        quiet_ended b q.holds q.none_over (q.holds.turn q.during) end c.side.ends c.side.finished c.side.states None
        (happen (setting_of b) q.holds.play (Closes end))
        (happens q.holds.play (Closes end) q.holds.happened closes)
        (λ a. close_leaves (setting_of b) q.holds.play end a closes) (stands q.holds.play.live q.holds.stands) refl refl refl refl ends
        finished refl
