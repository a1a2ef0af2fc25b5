-- An actor begins an operation: its plan, and that all holds except for its hand.
use Rattle.text_and_lists.proofs.Members.{none_some}
use Rattle.text_and_lists.proofs.Options.{none_is}
use Rattle.job_actor.specs.Picks.{PicksGo, is_job_commit}
use Rattle.job_actor.specs.Plans.{IsPlanOf}
use Rattle.job_actor.specs.Works.{Starts}
use Rattle.job_model.specs.Attempts.{is_known}
use Rattle.job_model.specs.JobScript.{Script}
use Rattle.job_model.specs.Known.{Known}
use Rattle.job_model.specs.Legal.{HasOp, IsEvent, IsLegal}
use Rattle.job_model.specs.declared.ends.EventFault.{EventFault}
use Rattle.job_model.specs.declared.ends.OpEnd.{OpEnd}
use Rattle.job_model.specs.declared.ends.Pick.{Pick}
use Rattle.job_model.specs.declared.events.Event.{Event}
use Rattle.job_model.specs.declared.events.Op.{Op}
use Rattle.job_model.specs.declared.states.Life.{Life}
use Rattle.job_model.specs.declared.states.Life.TheVariants.{Idle}
use Rattle.job_protocol.specs.Operations.{Reports, Running, Setting, over, start_of}
use Rattle.job_run.proofs.Along.{carried}
use Rattle.job_run.proofs.Finishes.{has_hand}
use Rattle.job_run.proofs.Frames.{opened_is}
use Rattle.job_run.proofs.Kept.{Spares, begins_by, put_by_kept}
use Rattle.job_run.proofs.Moments.{event_of, few_attempts, hand_at, knows_as, live_of, lives_of, may_open, past_of}
use Rattle.job_run.proofs.Opening.{begun_busy, busy_before, leaves, not_left, opened_hands, opened_holds, spares_others}
use Rattle.job_run.proofs.Picked.{begun_running, picked_then, put_by_driver}
use Rattle.job_run.proofs.Standings.{another, busy_at, placed}
use Rattle.job_run.specs.Events.{Next, knows_of, picks_in}
use Rattle.job_run.specs.inner.Events.{BeginsBy, Begun, Emptied, GivesPlan, HasRoom, IsFine, IsOpened, IsWork}
use Rattle.job_run.specs.Holds.{HandIs, Holds, IsTurn, PutBy, Quiet, all_but, all_sound, setting_of}
use Rattle.job_run.specs.declared.body.Body.{Body}
use Rattle.job_run.specs.declared.hands.Hand.{Hand}
use Rattle.job_run.specs.declared.hands.Hand.TheVariants.{At, Empty, Plan}
use Rattle.job_spec.specs.States.{Past, actors, open_event, refusal, refuse_begin, reports}
use Rattle.job_states.specs.Stands.{IsPlace, Stands}
use Rattle.script_steps.specs.Transitions.{MayOpen, Opens, Play, begun, happen, knows_now}
use Rattle.s3_types.specs.declared.request.Actor.{Actor}
use Rattle.s3_types.specs.declared.request.Actor.TheVariants.{Driver}
use Rattle.s3_types.specs.declared.request.Request.{Request}
use Rattle.std.proofs.Common.{List, None, Option, Some, ap, arith, inl, inr, not, refl, slice_get, subst, sym, true, vec_capacity, vec_len}
use Rattle.std.proofs.Common.{ℕ, ◌-◌, ◌<◌, ◌^◌, ◌∙◌, ◌≡◌}
use Rattle.std.proofs.lemmas.Result.{IfOk-weaker}
use Rattle.std.specs.Prelude.{IfOk, Result, is_some}
use Rattle.job_actor.specs.declared.plan.Plan as acting

-- ---- which operations may begin

idle_of : (l : Life) (r : Option EventFault) → refuse_begin l r ≡ None → l ≡ Idle
idle_of Idle r h = refl
idle_of _ r h = absurd (none_some h refl)

-- An actor that begins an operation was idle.
pub begins_idle : (p : Past) (ev : Event) (a : Actor) (op : Op) → BeginsBy ev a op → refusal p.state ev ≡ None → (p.state a).life ≡ Idle
begins_idle p = begins_by (λ ev a op. refusal p.state ev ≡ None → (p.state a).life ≡ Idle) (λ a op. idle_of (p.state a).life _)
    (λ a op. idle_of (p.state a).life _)

pub begins_op : (w : Script) (ev : Event) (a : Actor) (op : Op) → BeginsBy ev a op → IsEvent w.attempts ev → HasOp a op
begins_op w = begins_by (λ ev a op. IsEvent w.attempts ev → HasOp a op) (λ a op e. e.1) (λ a op e. e.1)

-- An actor that begins an operation is one of the job's.
pub known_named : (w : Script) (ev : Event) (a : Actor) (op : Op) → BeginsBy ev a op → IsEvent w.attempts ev → is_known w.attempts a ≡ true
known_named w = begins_by (λ ev a op. IsEvent w.attempts ev → is_known w.attempts a ≡ true) (λ a op e. e.0) (λ a op e. e.0)

opened_reported : (w : Script) (p : Past) (ev : Event) (a : Actor) (op : Op) → BeginsBy ev a op → (open_event w p ev).reported ≡ p.reported
opened_reported w p = begins_by (λ ev a op. (open_event w p ev).reported ≡ p.reported) (λ a op. refl) (λ a op. refl)

module _ {W : Type 0} (is_of : Setting → Actor → W → Type 0) (running : Known → W → Running) (picks_of : W → Option (List Pick)) where
  -- The operation is the one that the script begins.
  pub works_of : {E : Type 0} (b : Body W) (a : Actor) (op : Op) (n : Reports) (r : Result W E)
      → IfOk r (Starts is_of running picks_of (setting_of b) a op n (knows_of b a))
      → ((p : Past) → Stands b.side.script b.side.states p
      → start_of (setting_of b) a op n (knows_of b a) ≡ start_of (setting_of b) a op (reports b.side.script p.reported) (knows_of b a))
      → IfOk r (IsWork is_of running picks_of b a op)
  works_of b a op n r s same =
      let k : Known = knows_of b a in
      IfOk-weaker r (Starts is_of running picks_of (setting_of b) a op n k) _ (λ work s. record {
        goes_by = s.goes_by;
        starts = λ p stands. ap (λ o. begun o k) (sym (same p stands) ∙ s.starts) ∙ ap
            (λ (v : Known). Some (record { operation = (running k work).operation; known = v })) (sym s.known);
        picks = s.picks;
      }) s

-- ---- the plan that an attempt's hand gives

module _ {W : Type 0} (wants : W → Option Request) (end_of : W → Option OpEnd) (is_of : Setting → Actor → W → Type 0)
    (running : Known → W → Running) (picks_of : W → Option (List Pick))
    (asks : (m : W) → is_some (wants m) ≡ not (is_some (end_of m))) (ends : (k : Known) (m : W) → end_of m ≡ over (running k m).operation)
  where
    module _ (b : Body W) (q : Quiet wants is_of running picks_of b) (ev : Event) (a : Actor) (op : Op) (place : ℕ)
        (begins : BeginsBy ev a op) (nd : a ≡ Driver → ⊥) (at : IsPlace b.side.script a (Some place)) (fine : IsFine b ev) where
      idle_before : (q.holds.play.live.state a).life ≡ Idle
      idle_before =
          ap (λ (p : Past). (p.state a).life) (live_of is_of running picks_of all_sound b q.holds q.idle)
          ∙ begins_idle q.holds.play.past ev a op begins (ap (λ (p : Past). refusal p.state ev)
          (past_of is_of running picks_of all_sound b q.holds) ∙ fine)

      gives : (k : Hand W) → HandIs is_of running picks_of (setting_of b) b.shared.opening q.holds.play a k
          → GivesPlan wants is_of running (setting_of b) a (knows_now (setting_of b) q.holds.play a) (Some k)
      gives (Plan p) v = v.1
      gives (At m) v =
          let kn : Known = knows_now (setting_of b) q.holds.play a in
          let ended = (lives_of is_of running picks_of all_sound b q.holds).over a nd idle_before (running kn m) v.1.0 in (
            v.0,
            none_is (wants m) (asks m ∙ ap (λ o. not (is_some o)) (ends kn m) ∙ ap not ended),
            (carried (setting_of b) b.shared.opening q.holds.play q.holds.happened).known a (running kn m) v.1.0,
          )
      gives Empty (inl lost) = let dead = lost.dead nd in let idle = idle_before in cc
      gives Empty (inr v) = absurd (nd v.0)

      pub gives_plan : GivesPlan wants is_of running (setting_of b) a (knows_of b a) (slice_get b.side.hands.items place)
      gives_plan =
          let at_it = placed b.side.script a place at in
          let k = hand_at is_of running picks_of all_sound b q.holds place a at_it in
          subst (GivesPlan wants is_of running (setting_of b) a (knows_of b a)) (sym k.1)
          (subst (λ v. GivesPlan wants is_of running (setting_of b) a v (Some k.0))
          (sym (knows_as is_of running picks_of all_sound b q.holds a))
          (gives k.0 (q.holds.hands place a k.0 refl at_it k.1)))

-- ---- what is needed before the event is opened

module _ {W : Type 0} (wants : W → Option Request) (is_of : Setting → Actor → W → Type 0) (running : Known → W → Running)
    (picks_of : W → Option (List Pick)) (b : Body W) (q : Quiet wants is_of running picks_of b) where
  module _ (c : Body W) (ev : Event) (next : Next b ev) (place : ℕ) (emptied : Emptied place b c) where
    pub opens_then : record { event : IsEvent c.side.script.attempts ev; few : c.side.states.attempt < 2 ^ 32 - 1 }
    opens_then =
        subst (λ (v : Body W). record { event : IsEvent v.side.script.attempts ev; few : v.side.states.attempt < 2 ^ 32 - 1 })
        (sym emptied.is)
        (record {
          event = event_of is_of running picks_of all_sound b q.holds ev next;
          few = few_attempts is_of running picks_of all_sound b
              q.holds ev next;
        })

    module _ (d : Body W) (opened : IsOpened ev c d) where
      pub legal_then : IsLegal d.side.script
      legal_then = subst (λ (v : Body W). IsLegal v.side.script) (sym (opened_is place ev b c d emptied opened)) q.holds.legal

      pub plan_then : (a : Actor) (p : acting.Plan) → IsPlanOf (setting_of b) a (knows_of b a) p
          → IsPlanOf (setting_of d) a (knows_of d a) p
      plan_then a p h = subst (λ (v : Body W). IsPlanOf (setting_of v) a (knows_of v a) p) (sym (opened_is place ev b c d emptied opened)) h

-- ---- all holds except for the hand

module _ {W : Type 0} (wants : W → Option Request) (is_of : Setting → Actor → W → Type 0) (running : Known → W → Running)
    (picks_of : W → Option (List Pick)) (has_picks : (k : Known) (work : W)
    → is_some (picks_of work) ≡ is_job_commit (running k work).operation) (go : PicksGo)
    (b c d : Body W) (q : Quiet wants is_of running picks_of b) (ev : Event) (next : Next b ev) (fine : IsFine b ev) (turn : IsTurn b)
    (a : Actor) (op : Op) (place : ℕ) (begins : BeginsBy ev a op) (at : IsPlace b.side.script a (Some place)) (room : HasRoom b)
    (emptied : Emptied place b c) (opened : IsOpened ev c d) where
  abbrev y : Play
  y = happen (setting_of b) q.holds.play (Opens ev)

  live : q.holds.play.live ≡ q.holds.play.past
  live = live_of is_of running picks_of all_sound b q.holds q.idle

  may : MayOpen (setting_of b) q.holds.play ev None
  may = may_open is_of running picks_of all_sound b q.holds ev None q.idle next fine

  stands : Stands b.side.script d.side.states y.live
  stands =
      subst (λ (v : Body W). (p : Past) → Stands v.side.script v.side.states p
      → Stands v.side.script d.side.states (open_event v.side.script p ev)) emptied.is opened.stands
      q.holds.play.past (subst (Stands b.side.script b.side.states) live q.holds.stands)

  abbrev e : Body W
  e = record b { side = record b.side { hands = c.side.hands; picks = c.side.picks; states = d.side.states; event = Some ev } }

  at_place : slice_get (actors b.side.script) place ≡ Some a
  at_place = placed b.side.script a place at

  spare : (p : ℕ) (v : Actor) → (p ≡ place → ⊥) → slice_get (actors b.side.script) p ≡ Some v → Spares ev v
  spare p v ne there = spares_others ev a op begins v (another b.side.script a place at p v there ne)

  abbrev holds : PutBy (setting_of b) b.shared.opening y c.side.picks → Holds is_of running picks_of (all_but place) e
  holds picks =
      opened_holds wants is_of running picks_of b q ev next fine turn c d stands (all_but place) emptied.places
      (opened_hands wants is_of running picks_of b q ev next fine turn c d stands (all_but place)
      (λ p s. emptied.others p (not_left place p s)) (λ p v s there. spare p v (not_left place p s) there)) picks

  fits : (m : W) → IsWork is_of running picks_of e a op m → HandIs is_of running picks_of (setting_of b) b.shared.opening y a (At m)
  fits m work =
      let kn : Known = knows_now (setting_of b) q.holds.play a in
      let at_m : y.running a ≡ Some (running kn m) =
      begun_running (setting_of b) q.holds.play ev a op begins ∙ ap (λ r. begun (start_of (setting_of b) a op (reports b.side.script r) kn)
      kn) (sym (opened_reported b.side.script q.holds.play.past ev a op begins))
      ∙ subst (λ v. begun (start_of (setting_of b) a op (reports b.side.script y.live.reported) v) v ≡ Some (running v m))
      (knows_as is_of running picks_of all_sound b q.holds a)
      (work.starts y.live stands) in (
        work.goes_by,
        (
          at_m,
          picked_then is_of running picks_of has_picks go (setting_of b) b.shared.opening q.holds.play q.holds.legal
              q.holds.opens q.holds.happened ev may live a op m kn begins at_m work.picks,
        ),
      )

  has_room : vec_len b.side.finished < vec_capacity b.side.finished
  has_room = omega (arith, has_hand is_of running picks_of all_sound b place a q.holds at_place, room.finished)

  begun_all : {E : Type 0} (work : Result W E) → PutBy (setting_of b) b.shared.opening y c.side.picks
      → IfOk work (IsWork is_of running picks_of d a op) → Begun wants is_of running picks_of place a d work
  begun_all work picks is =
      let same = opened_is place ev b c d emptied opened in
      subst (λ (v : Body W). Begun wants is_of running picks_of place a v work) (sym same) (record {
        holds = holds picks;
        actor = at;
        fits = IfOk-weaker work (IsWork is_of running picks_of e a op) _ fits
            (subst (λ (v : Body W). IfOk work (IsWork is_of running picks_of v a op)) same is);
        busy = busy_at b.side.script d.side.states y.live stands place a at_place ∙ begun_busy (setting_of b) q.holds.play.past ev a op
            begins;
        others =
            λ p k ne busy hand. q.none_over p k (busy_before wants is_of running picks_of b q ev next fine turn c d stands p
            (λ v there. spare p v ne there) busy)
            (sym (emptied.others p ne) ∙ hand);
        during = refl;
        none = q.none;
        room = has_room;
      })

  -- An attempt that begins an operation leaves the picks as they are.
  pub attempt_begun : {E : Type 0} (work : Result W E) → (a ≡ Driver → ⊥) → c.side.picks ≡ b.side.picks
      → IfOk work (IsWork is_of running picks_of d a op) → Begun wants is_of running picks_of place a d work
  attempt_begun work nd same is =
      begun_all work
      (subst (PutBy (setting_of b) b.shared.opening y) (sym same) (put_by_kept (setting_of b) b.shared.opening q.holds.play y
      (leaves wants is_of running picks_of b q ev next fine turn Driver (spares_others ev a op begins Driver (λ s. nd (sym s))))
      b.side.picks q.holds.picks)) is

  -- A driver that begins an operation puts its picks by.
  pub driver_begun : {E : Type 0} (work : Result W E) → a ≡ Driver
      → c.side.picks ≡ picks_in picks_of b.side.picks (slice_get b.side.hands.items place)
      → IfOk work (IsWork is_of running picks_of d a op) → Begun wants is_of running picks_of place a d work
  driver_begun work driver put is =
      let k = hand_at is_of running picks_of all_sound b q.holds place a at_place in
      let hand : HandIs is_of running picks_of (setting_of b) b.shared.opening q.holds.play Driver k.0 = subst
      (λ v. HandIs is_of running picks_of (setting_of b) b.shared.opening q.holds.play v k.0) driver
      (q.holds.hands place a k.0 refl at_place k.1) in
      let put_by = put_by_driver is_of running picks_of has_picks go (setting_of b) b.shared.opening q.holds.play q.holds.legal
      q.holds.opens q.holds.happened ev may live op (subst (λ v. BeginsBy ev v op) driver begins) b.side.picks q.holds.picks k.0 hand in
      begun_all work (subst (PutBy (setting_of b) b.shared.opening y) (sym (put ∙ ap (picks_in picks_of b.side.picks) k.1)) put_by) is
