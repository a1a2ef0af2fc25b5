-- What holds after an operation of an actor has ended.
use Rattle.text_and_lists.proofs.Members.{false_true, none_or_some, none_some, same_or_not as same_number, some_is}
use Rattle.text_and_lists.proofs.Options.{some_of}
use Rattle.job_actor.specs.Picks.{is_committing}
use Rattle.job_model.specs.JobScript.{Script}
use Rattle.job_model.specs.Known.{Known}
use Rattle.job_model.specs.Legal.{IsLegal}
use Rattle.job_model.specs.declared.ends.ActorEnd.{ActorEnd}
use Rattle.job_model.specs.declared.ends.OpEnd.{OpEnd}
use Rattle.job_model.specs.declared.ends.Pick.{Pick}
use Rattle.job_model.specs.declared.events.Op.{Op}
use Rattle.job_model.specs.declared.states.ActorState.{ActorState}
use Rattle.job_protocol.specs.Operations.{Running, Setting, over}
use Rattle.job_run.proofs.PicksStay.{decides_not, picked_ended, put_by_ended}
use Rattle.job_run.proofs.Places.{apart}
use Rattle.job_run.proofs.Standings.{busy_at, busy_nowhere}
use Rattle.job_run.specs.Holds.{AreOf, HandIs, HandsAre, Holds, IsLost, IsOver, all_sound, is_busy_at, setting_of}
use Rattle.job_run.specs.Sending.{hand_end}
use Rattle.job_run.specs.declared.body.Body.{Body}
use Rattle.job_run.specs.declared.hands.Hand.{Hand}
use Rattle.job_run.specs.declared.hands.Hand.TheVariants.{At, Empty, Plan}
use Rattle.job_spec.specs.Promise.{lacked_memory}
use Rattle.job_spec.specs.States.{Past, actors, decide, end_op, ended, is_commit}
use Rattle.job_spec.specs.Turns.{is_busy, is_memory, is_wanting}
use Rattle.job_states.specs.Stands.{Kept, Stands}
use Rattle.script_steps.proofs.Actors.{put_here, put_other}
use Rattle.script_steps.proofs.PastMore.{busy_is, ended_idle}
use Rattle.script_steps.proofs.Told.{told_all}
use Rattle.script_steps.specs.Transitions.{Finishes, MayFinish, Play, Reachable, happen, happens, knows_now}
use Rattle.s3_types.specs.Store.{Content}
use Rattle.s3_types.specs.declared.journal.Entry.{Entry}
use Rattle.s3_types.specs.declared.request.Actor.{Actor}
use Rattle.s3_types.specs.declared.request.Actor.TheVariants.{Driver}
use Rattle.std.proofs.Common.{Bool, Global, IsSome, List, Option, Some, Vec, ap, append-nil, arith, false, inl, inr, length, refl}
use Rattle.std.proofs.Common.{slice_get, subst, sym, true, vec_capacity, ℕ, [], ◌++◌, ◌+◌, ◌<◌, ◌∙◌, ◌∷◌, ◌≡◌, ◌≤◌, ◌⊎◌}
use Rattle.std.proofs.lemmas.Option.{slice_get_within}
use Rattle.job_model.specs.declared.ends.OpEnd.TheVariants as ends

-- ---- places

-- The end of an operation changes the standing of its actor, and no other.
pub end_idle : (w : Script) (k : Kept) (p : Past) (y : ActorEnd) → Stands w k (end_op p y) → (place : ℕ)
    → slice_get (actors w) place ≡ Some y.actor → is_busy_at k.actors place ≡ false
end_idle w k p y s place e =
    busy_at w k (end_op p y) s place y.actor e
    ∙ ap (λ (v : ActorState). is_busy v.life) (put_here p.state y.actor (ended y.end (p.state y.actor).stage) y.actor refl)
    ∙ ended_idle y.end (p.state y.actor).stage

pub end_others : (w : Script) → IsLegal w → (k l : Kept) (p : Past) (y : ActorEnd) → Stands w k p → Stands w l (end_op p y) → (place : ℕ)
    → slice_get (actors w) place ≡ Some y.actor → (q : ℕ) → (q ≡ place → ⊥) → is_busy_at l.actors q ≡ is_busy_at k.actors q
end_others w j k l p y s t place e q ne = elim (none_or_some (slice_get (actors w) q)) [
  | inl none ↦ busy_nowhere w l (end_op p y) t q none ∙ sym (busy_nowhere w k p s q none)
  | inr found ↦
      busy_at w l (end_op p y) t q found.0 found.1
      ∙ ap (λ (v : ActorState). is_busy v.life) (put_other p.state y.actor (ended y.end (p.state y.actor).stage) found.0
      (apart w j place q y.actor found.0 ne e found.1))
      ∙ sym (busy_at w k p s q found.0 found.1)
]

-- An actor of the script has a hand.
pub has_hand : {W : Type 0} (is_of : Setting → Actor → W → Type 0) (running : Known → W → Running) (picks_of : W → Option (List Pick))
    (sound : ℕ → Bool) (b : Body W) (place : ℕ) (a : Actor) → Holds is_of running picks_of sound b
    → slice_get (actors b.side.script) place ≡ Some a → place < length b.side.hands.items
has_hand is_of running picks_of sound b place a h here = omega (arith, slice_get_within (actors b.side.script) place a here, h.places)

-- The driver is in the job's commit exactly if the events say that it began that last.
abbrev pub Doing : Type 0
Doing = (g : Setting) (opening : Content) (x : Play) → IsLegal g.script → Reachable g opening x
    → is_committing (x.running Driver) ≡ is_commit (x.live.doing Driver)

module _ {W : Type 0} (is_of : Setting → Actor → W → Type 0) (running : Known → W → Running) (picks_of : W → Option (List Pick)) where
  -- ---- hands

  -- If the hand at one place fits, and so do the others, then all hands fit.
  pub hands_by : (g : Setting) (opening : Content) (x : Play) (sound : ℕ → Bool) (place : ℕ) (a : Actor) (h : Hand W) (hs : List (Hand W))
      → slice_get (actors g.script) place ≡ Some a
      → (sound place ≡ true → slice_get hs place ≡ Some h) → HandIs is_of running picks_of g opening x a h
      → ((q : ℕ) (b : Actor) (k : Hand W) → (q ≡ place → ⊥) → sound q ≡ true → slice_get (actors g.script) q ≡ Some b
      → slice_get hs q ≡ Some k → HandIs is_of running picks_of g
      opening x b k)
      → HandsAre is_of running picks_of sound g opening x hs
  hands_by g opening x sound place a h hs at here is others q b k s e i = elim (same_number q place) [
    | inl same ↦
        let whose : a ≡ b = some_is (sym at ∙ ap (slice_get (actors g.script)) (sym same) ∙ e) in
        let what : h ≡ k = some_is (sym (here (ap sound (sym same) ∙ s)) ∙ ap (slice_get hs) (sym same) ∙ i) in
        subst (λ c. HandIs is_of running picks_of g opening x c k) whose (subst (HandIs is_of running picks_of g opening x a) what is)
    | inr ne ↦ others q b k ne s e i
  ]

  -- The hand of a busy actor has an operation, or its place is left out.
  module _ (g : Setting) (opening : Content) (x : Play) (y : ActorEnd) (busy : is_busy (x.live.state y.actor).life ≡ true) where
    other_than : (a : Actor) → is_busy (x.live.state a).life ≡ false → a ≡ y.actor → ⊥
    other_than a idle is = false_true (ap (λ c. is_busy (x.live.state c).life) (sym is) ∙ idle) busy

    state_of : (a : Actor) → (a ≡ y.actor → ⊥) → (happen g x (Finishes y)).live.state a ≡ x.live.state a
    state_of a ne = put_other x.live.state y.actor (ended y.end (x.live.state y.actor).stage) a ne

    still_lost : (a : Actor) → IsLost x a → IsLost (happen g x (Finishes y)) a
    still_lost a l =
        let ne = other_than a l.idle in
        record {
          idle = ap (λ (v : ActorState). is_busy v.life) (state_of a ne) ∙ l.idle;
          wanting = λ d c. ap lacked_memory (decides_not y.actor (is_commit (x.live.doing y.actor)) y.end x.live.commit
              (λ s. ne (d ∙ sym s))) ∙ l.wanting d c;
          dead = λ n. ap (λ (v : ActorState). v.life) (state_of a ne) ∙ l.dead n;
        }

    pub hand_stays : (a : Actor) (h : Hand W) → HandIs is_of running picks_of g opening x a h
        → HandIs is_of running picks_of g opening (happen g x (Finishes y)) a h
    hand_stays a (Plan p) i = (ap (λ (v : ActorState). is_busy v.life) (state_of a (other_than a i.0)) ∙ i.0, i.1, i.2)
    hand_stays a (At m) i = (i.0, (i.1.0, picked_ended g opening x y (picks_of m) i.1.1))
    hand_stays a Empty (inl l) = inl (still_lost a l)
    hand_stays a Empty (inr n) = inr n

    -- An actor whose operation ended because memory ran out is dead.
    pub is_lost : y.end ≡ ends.NoMemory → is_committing (x.running Driver) ≡ is_commit (x.live.doing Driver)
        → IsLost (happen g x (Finishes y)) y.actor
    is_lost e doing =
        let v = ended y.end (x.live.state y.actor).stage in
        let now = put_here x.live.state y.actor v y.actor refl in
        record {
          idle = ap (λ (v : ActorState). is_busy v.life) now ∙ ended_idle y.end (x.live.state y.actor).stage;
          wanting = λ d c.
              ap lacked_memory (ap (λ a. decide a (is_commit (x.live.doing a)) y.end x.live.commit) d ∙ ap
              (λ t. decide Driver t y.end x.live.commit) (sym doing ∙ c))
              ∙ ap is_memory e;
          dead = λ n. ap (λ (v : ActorState). v.life) (now ∙ ap (λ o. ended o (x.live.state y.actor).stage) e);
        }

  -- ---- a body

  at_end : (end_of : W → Option OpEnd) (e : OpEnd) (o : Option (Hand W)) → hand_end end_of o ≡ Some e → (m : W) × (o ≡ Some (At m))
      × (end_of m ≡ Some e)
  at_end end_of e (Some (At m)) h = (m, refl, h)
  at_end end_of e _ h = absurd (none_some refl h)

  module _ (doing : Doing) (b : Body W) (place : ℕ) (y : ActorEnd) (sound : ℕ → Bool) (k : Kept) (f : Vec ActorEnd Global)
      (hs : Vec (Hand W) Global)
      (actor : slice_get (actors b.side.script) place ≡ Some y.actor) (busy : is_busy_at b.side.states.actors place ≡ true)
      (during : IsSome b.side.event)
      (h : Holds is_of running picks_of sound b)
      (told : f.items ≡ b.side.finished.items ++ y ∷ []) (capacity : vec_capacity b.side.finished ≤ vec_capacity f)
      (stands : (p : Past) → Stands b.side.script b.side.states p → Stands b.side.script k (end_op p y))
      (places : length hs.items ≡ length b.side.hands.items) (others : (q : ℕ) → (q ≡ place → ⊥) → slice_get hs.items q ≡ slice_get
      b.side.hands.items q) where
    -- All holds, and the operation is over.
    abbrev pub IsDone : Type 0
    IsDone =
        let next : Body W = record b { side = record b.side { states = k; finished = f; hands = hs } } in
        record { holds : Holds is_of running picks_of all_sound next; over : IsOver place y.actor y.end b next }

    now : is_busy (h.play.live.state y.actor).life ≡ true
    now = sym (busy_at b.side.script b.side.states h.play.live h.stands place y.actor actor) ∙ busy

    done : ((op : Op) → is_wanting y.actor op y.end ≡ true)
        ⊎ ((m : Running) × (h.play.running y.actor ≡ Some m) × (over m.operation ≡ Some y.end))
        → HandsAre is_of running picks_of all_sound (setting_of b) b.shared.opening (happen (setting_of b) h.play (Finishes y)) hs.items
        → IsDone
    done end hands =
        let x = h.play in
        let g = setting_of b in
        let ev = some_of b.side.event during in
        let life = busy_is (x.live.state y.actor).life now in
        let d = (told_all g b.shared.opening x h.happened).does y.actor life in
        let may : MayFinish x y = record {
          event = ev.0;
          during = sym h.now ∙ ev.1;
          busy = life;
          doing = d.0;
          does = d.1;
          end = elim end
              [ inl wanting ↦ inl (wanting d.0.op) | inr q ↦ inr q ];
        } in
        let turn = h.turn during in
        let ended = told ∙ ap (λ xs. xs ++ y ∷ []) h.finished in
        let picks = put_by_ended g b.shared.opening x y b.side.picks (doing g b.shared.opening x h.legal h.happened) h.picks in
        let then = stands x.live h.stands in
        let more : (part : List Entry) × (b.shared.journal.entries ≡ b.shared.journal.entries ++ part) × AreOf (b.shared.events + 1) part =
        ([], sym (append-nil b.shared.journal.entries), tt) in
        let beside = end_others b.side.script h.legal b.side.states k x.live y h.stands then place actor in
        record {
          holds = search (happens x (Finishes y) h.happened may, turn, ended, then, places ∙ h.places, hands, picks, h);
          over = assumption (places, more, told, capacity, end_idle b.side.script k x.live y then place actor, beside, others);
        }

    -- The operation has an end of its own.
    pub is_over : (end_of : W → Option OpEnd) → ((k : Known) (m : W) → end_of m ≡ over (running k m).operation) → ((q : ℕ) → sound q ≡ true)
        → ((q : ℕ) → slice_get hs.items q ≡ slice_get b.side.hands.items q)
        → hand_end end_of (slice_get b.side.hands.items place) ≡ Some y.end → IsDone
    is_over end_of ends_as all same ended =
        let at = at_end end_of y.end (slice_get b.side.hands.items place) ended in
        let hand = h.hands place y.actor (At at.0) (all place) actor at.1 in
        let kn = knows_now (setting_of b) h.play y.actor in
        done (inr (running kn at.0, hand.1.0, sym (ends_as kn at.0) ∙ at.2))
        (λ q a v s e i. hand_stays (setting_of b) b.shared.opening h.play y now a v (h.hands q a v (all q) e (sym (same q) ∙ i)))

    -- The operation ended because memory ran out.
    pub is_dead : y.end ≡ ends.NoMemory → ((q : ℕ) → (q ≡ place → ⊥) → sound q ≡ true) → slice_get hs.items place ≡ Some Empty → IsDone
    is_dead lack kept empty =
        let gone = is_lost (setting_of b) b.shared.opening h.play y now lack (doing (setting_of b) b.shared.opening h.play h.legal
        h.happened) in
        done (inl (λ op. ap (is_wanting y.actor op) lack))
        (hands_by (setting_of b) b.shared.opening (happen (setting_of b) h.play (Finishes y)) all_sound place y.actor Empty hs.items actor
        (λ s. empty) (inl gone)
        (λ q a v ne s e i. hand_stays (setting_of b) b.shared.opening h.play y now a v
        (h.hands q a v (kept q ne) e (sym (others q ne) ∙ i))))
