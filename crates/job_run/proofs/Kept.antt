-- What a hand and the picks put by keep from one state of a run to a later one that leaves their actor as it was.
use Rattle.job_actor.specs.Picks.{ArePicksOf, HasPicked, is_committing}
use Rattle.job_actor.specs.Plans.{IsPlanOf}
use Rattle.job_model.specs.Known.{Known}
use Rattle.job_model.specs.declared.ends.EventEnd.{EventEnd}
use Rattle.job_model.specs.declared.ends.EventFault.{EventFault}
use Rattle.job_model.specs.declared.ends.Pick.{Pick}
use Rattle.job_model.specs.declared.events.Event.{Event}
use Rattle.job_model.specs.declared.events.Event.TheVariants.{Do, Kill, Restart, Start}
use Rattle.job_model.specs.declared.events.Op.{Op}
use Rattle.job_model.specs.declared.states.ActorState.{ActorState}
use Rattle.job_model.specs.declared.states.Life.TheVariants.{Dead}
use Rattle.job_protocol.specs.Knowledge.{knows}
use Rattle.job_protocol.specs.Operations.{Running, Setting, who}
use Rattle.job_run.specs.inner.Events.{BeginsBy}
use Rattle.job_run.specs.Holds.{HandIs, PutBy}
use Rattle.job_run.specs.declared.hands.Hand.{Hand}
use Rattle.job_run.specs.declared.hands.Hand.TheVariants.{At, Empty, Plan}
use Rattle.job_spec.specs.Promise.{ArePicked, all_picks, lacked_memory}
use Rattle.job_spec.specs.States.{Decided, Past, commit_begun, dead, idle, open_event, put, restarted}
use Rattle.job_spec.specs.Turns.{by_actor, is_busy}
use Rattle.script_steps.proofs.Actors.{put_here, put_other, same_or_not}
use Rattle.script_steps.proofs.Running.{closed_ahead, not_refused, opened_ahead, refused_ahead}
use Rattle.script_steps.specs.Running.{Ahead}
use Rattle.script_steps.specs.Transitions.{Closes, MayClose, Opens, Play, Refuses, happen, open_running}
use Rattle.s3_types.specs.Store.{Content}
use Rattle.s3_types.specs.declared.request.Actor.{Actor}
use Rattle.s3_types.specs.declared.request.Actor.TheVariants.{Driver}
use Rattle.std.proofs.Common.{Bool, List, None, Option, Some, ap, false, inl, inr, refl, subst, sym, true, ◌∙◌, ◌≡◌}

-- From x to y nothing was sent, and the actor was left as it was.
pub record Leaves (x y : Play) (a : Actor) : Type 0 where
  pub journal : y.journal ≡ x.journal
  pub running : y.running a ≡ x.running a
  pub idle : is_busy (x.live.state a).life ≡ false → is_busy (y.live.state a).life ≡ false
  pub dead : (x.live.state a).life ≡ Dead → (a ≡ Driver → ⊥) → (y.live.state a).life ≡ Dead
  pub commit : a ≡ Driver → y.live.commit ≡ x.live.commit
  pub ahead : (xs : List EventEnd) → Ahead y xs → Ahead x xs

module _ (g : Setting) (opening : Content) (x y : Play) where
  pub picks_of_kept : y.journal ≡ x.journal → ((xs : List EventEnd) → Ahead y xs → Ahead x xs) → (ps : List Pick)
      → ArePicksOf g opening x ps → ArePicksOf g opening y ps
  picks_of_kept journal ahead ps h xs a = h xs (ahead xs a) ∙ ap (λ es. all_picks g.script opening es xs) (sym journal)

  pub picked_kept : y.journal ≡ x.journal → ((xs : List EventEnd) → Ahead y xs → Ahead x xs) → (o : Option (List Pick))
      → HasPicked g opening x o → HasPicked g opening y o
  picked_kept journal ahead None h = tt
  picked_kept journal ahead (Some ps) h = picks_of_kept journal ahead ps h

  pub put_by_kept : Leaves x y Driver → (ps : List Pick) → PutBy g opening x ps → PutBy g opening y ps
  put_by_kept l ps h =
      let back : (b : Bool) → is_committing (y.running Driver) ≡ b
      → is_committing (x.running Driver) ≡ b = λ b e. ap is_committing (sym l.running) ∙ e in
      record {
        none = λ e. h.none (back true e);
        first = λ e xs a. subst (λ es. ArePicked ps (all_picks g.script opening es xs)) (sym l.journal)
            (h.first (back false e) xs (l.ahead xs a));
        all = λ e m. picks_of_kept l.journal l.ahead ps (h.all (back false e) (ap lacked_memory (sym (l.commit refl)) ∙ m));
      }

  module _ {W : Type 0} (is_of : Setting → Actor → W → Type 0) (running : Known → W → Running) (picks_of : W → Option (List Pick))
      (a : Actor) (l : Leaves x y a) where
    know : knows g.script (who a) (by_actor a y.journal) ≡ knows g.script (who a) (by_actor a x.journal)
    know = ap (λ es. knows g.script (who a) (by_actor a es)) l.journal

    pub hand_kept : (h : Hand W) → HandIs is_of running picks_of g opening x a h → HandIs is_of running picks_of g opening y a h
    hand_kept (Plan p) k = (l.idle k.0, subst (λ n. IsPlanOf g a n p) (sym know) k.1, k.2)
    hand_kept (At m) k = (
      k.0,
      (
        l.running ∙ k.1.0 ∙ ap (λ n. Some (running n m)) (sym know),
        picked_kept l.journal l.ahead (picks_of m)
            k.1.1,
      ),
    )
    hand_kept Empty (inl lost) = inl (record {
      idle = l.idle lost.idle;
      wanting = λ d e. ap lacked_memory (l.commit d) ∙ lost.wanting d (ap is_committing
          (sym (subst (λ (b : Actor). y.running b ≡ x.running b) d l.running)) ∙ e);
      dead = λ nd. l.dead (lost.dead nd) nd;
    })
    hand_kept Empty (inr k) = inr (k.0, subst (λ (b : Actor). y.running b ≡ x.running b) k.0 l.running ∙ k.1)

-- ---- an event begins

-- The event begins no operation of this actor.
abbrev pub Spares : Event → Actor → Type 0
Spares (Do b op) a = a ≡ b → ⊥
Spares (Start b op) a = a ≡ b → ⊥
Spares _ a = Unit {0}

-- What holds of both kinds of events that begin an operation.
pub begins_by : (P : Event → Actor → Op → Type 0) → ((a : Actor) (op : Op) → P (Do a op) a op)
    → ((a : Actor) (op : Op) → P (Start a op) a op) → (ev : Event) (a : Actor) (op : Op)
    → BeginsBy ev a op → P ev a op
begins_by P d s (Do b o) a op h = subst (λ v. P (Do b o) v op) h.0 (subst (P (Do b o) b) h.1 (d b o))
begins_by P d s (Start b o) a op h = subst (λ v. P (Start b o) v op) h.0 (subst (P (Start b o) b) h.1 (s b o))
begins_by P d s _ a op h = absurd h

-- What became of the job's commit, if the driver begins no operation.
begun_not : (b : Actor) (op : Op) (d : Decided) → (b ≡ Driver → ⊥) → commit_begun b op d ≡ d
begun_not Driver op d n = absurd (n refl)
begun_not _ op d n = refl

module _ (p : Past) (a : Actor) where
  put_keeps : (P : ActorState → Type 0) (b : Actor) (s : ActorState) → P s → P (p.state a) → P (put p.state b s a)
  put_keeps P b s new h = elim (same_or_not a b) [
    | inl e ↦ subst P (sym (put_here p.state b s a e)) new
    | inr ne ↦ subst P (sym (put_other p.state b s a ne)) h
  ]

  apart_keeps : (P : ActorState → Type 0) (b : Actor) (s : ActorState) → (a ≡ b → ⊥) → P (p.state a) → P (put p.state b s a)
  apart_keeps P b s ne h = subst P (sym (put_other p.state b s a ne)) h

abbrev Rests : ActorState → Type 0
Rests v = is_busy v.life ≡ false

abbrev IsDead : ActorState → Type 0
IsDead v = v.life ≡ Dead

-- What the opening of an event leaves of an actor of which it begins no operation.
module _ (g : Setting) (x : Play) (a : Actor) where
  abbrev Left : Event → Type 0
  Left ev = Leaves (record x { live = x.past }) (happen g x (Opens ev)) a

  left_by : (ev : Event) → ((xs : List EventEnd) → Ahead (happen g x (Opens ev)) xs → Ahead (record x { live = x.past }) xs)
      → open_running g x ev a ≡ x.running a
      → (is_busy (x.past.state a).life ≡ false → is_busy ((open_event g.script x.past ev).state a).life ≡ false)
      → ((x.past.state a).life ≡ Dead → (a ≡ Driver → ⊥) → ((open_event g.script x.past ev).state a).life ≡ Dead)
      → (a ≡ Driver → (open_event g.script x.past ev).commit ≡ x.past.commit) → Left ev
  left_by ev ahead running idle dead commit = assumption

  spared : (ev : Event) → ((xs : List EventEnd) → Ahead (happen g x (Opens ev)) xs → Ahead (record x { live = x.past }) xs) → Spares ev a
      → Left ev
  spared (Do b op) ahead s =
      left_by (Do b op) ahead (put_other x.running b _ a s) (apart_keeps x.past a Rests b _ s) (λ h nd. apart_keeps x.past a IsDead b _ s h)
      (λ d. begun_not b op x.past.commit (λ e. s (d ∙ sym e)))
  spared (Start b op) ahead s =
      left_by (Start b op) ahead (put_other x.running b _ a s) (apart_keeps x.past a Rests b _ s)
      (λ h nd. apart_keeps x.past a IsDead b _ s h)
      (λ d. begun_not b op x.past.commit (λ e. s (d ∙ sym e)))
  spared (Kill b) ahead s =
      let v = dead (x.past.state b).stage in left_by (Kill b) ahead refl (put_keeps x.past a Rests b v refl)
      (λ h nd. put_keeps x.past a IsDead b v refl h) (λ d. refl)
  spared Restart ahead s =
      let v = idle (restarted (x.past.state Driver).stage) in
      left_by Restart ahead refl (put_keeps x.past a Rests Driver v refl) (λ h nd. apart_keeps x.past a IsDead Driver v nd h) (λ d. refl)
  spared ev ahead s = left_by ev ahead refl (λ h. h) (λ h nd. h) (λ d. refl)

pub open_leaves : (g : Setting) (x : Play) (ev : Event) (a : Actor) → x.now ≡ None → x.live ≡ x.past → Spares ev a
    → Leaves x (happen g x (Opens ev)) a
open_leaves g x ev a none live s =
    subst (λ p. Leaves (record x { live = p }) (happen g x (Opens ev)) a) (sym live)
    (spared g x a ev (λ xs. opened_ahead g (record x { live = x.past }) ev xs none) s)

-- ---- an event ends

pub refuse_leaves : (g : Setting) (x : Play) (f : EventFault) (a : Actor) → x.now ≡ None → x.live ≡ x.past
    → Leaves x (happen g x (Refuses f)) a
refuse_leaves g x f a none live =
    subst (λ p. Leaves (record x { live = p }) (happen g x (Refuses f)) a) (sym live)
    (record {
      journal = refl;
      running = refl;
      idle = λ h. h;
      dead = λ h nd. h;
      commit = λ d. refl;
      ahead = λ xs. refused_ahead g
          (record x { live = x.past }) f xs none;
    })

pub close_leaves : (g : Setting) (x : Play) (end : EventEnd) (a : Actor) → MayClose g x end → Leaves x (happen g x (Closes end)) a
close_leaves g x end a ok =
    let fine = not_refused g.script x.past.state ok.event end _ ok.turns in
    let ahead : (xs : List EventEnd) → Ahead (happen g x (Closes end)) xs → Ahead x xs = λ xs. closed_ahead g x end xs fine in
    assumption (ahead)
