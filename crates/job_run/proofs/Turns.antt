-- The result of a turn of a busy actor.
use Rattle.text_and_lists.proofs.Members.{false_true, nat_true, same_or_not as same_number, some_is}
use Rattle.job_actor.specs.Acts.{ActLaws}
use Rattle.job_model.specs.JobScript.{Script}
use Rattle.job_model.specs.Known.{Known}
use Rattle.job_model.specs.declared.ends.ActorEnd.{ActorEnd}
use Rattle.job_model.specs.declared.ends.OpEnd.{OpEnd}
use Rattle.job_model.specs.declared.ends.OpEnd.TheVariants.{NoMemory}
use Rattle.job_model.specs.declared.ends.Pick.{Pick}
use Rattle.job_protocol.specs.Operations.{Running, Setting}
use Rattle.job_run.proofs.Finishes.{has_hand}
use Rattle.job_run.proofs.Places.{own_at}
use Rattle.job_run.proofs.Weights.{Lighter, lighter}
use Rattle.job_run.specs.Holds.{AreOf, Going, Holds, IsOver, Same, actor_or, all_sound, is_busy_at, is_mine, same_laws, seen_by, table_of}
use Rattle.job_run.specs.inner.Posts.{Around, FellAt, IsWorking, RaisedBy, Wrote}
use Rattle.job_run.specs.Sending.{Asks, hand_end}
use Rattle.job_run.specs.declared.body.Body.{Body}
use Rattle.job_run.specs.declared.hands.Hand.{Hand}
use Rattle.job_spec.specs.Eyes.{in_eyes}
use Rattle.job_spec.specs.States.{actors}
use Rattle.job_spec.specs.Turns.{is_memory, is_own, of_event}
use Rattle.job_states.specs.Stands.{Kept}
use Rattle.job_states.specs.Turning.{Beside, Ending, Sending, Table, Turned}
use Rattle.job_states.specs.declared.actors.Turn.{Turn}
use Rattle.job_states.specs.declared.actors.Turn.TheVariants.{Died, Ended, GoesOn}
use Rattle.s3_types.specs.Store.{Scene}
use Rattle.s3_types.specs.declared.journal.Entry.{Entry}
use Rattle.s3_types.specs.declared.journal.Outcome.{Outcome}
use Rattle.s3_types.specs.declared.request.Actor.{Actor}
use Rattle.s3_types.specs.declared.request.Request.{Request}
use Rattle.std.proofs.Common.{Bool, Global, IsSome, List, None, Option, Some, Vec, ap, append-nil, arith, cond, inl, inr, length}
use Rattle.std.proofs.Common.{length-append, nat_eq, not, refl, rules, slice_get, subst, sym, true, vec_capacity, vec_len, ℕ, [], ◌&&◌}
use Rattle.std.proofs.Common.{◌++◌, ◌+◌, ◌-◌, ◌<◌, ◌∙◌, ◌∷◌, ◌≡◌, ◌≤◌}
use Rattle.std.proofs.lemmas.List.Elements.{filter-append}
use Rattle.std.specs.List.{filter}
use Rattle.std.specs.Prelude.{is_some}

-- ---- entries

pub event_kept : (n : ℕ) (es : List Entry) (e : Entry) → is_own e.actor ≡ true → e.event ≡ n
    → of_event n (es ++ e ∷ []) ≡ of_event n es ++ e ∷ []
event_kept n es e own number =
    let p : Entry → Bool = λ x. is_own x.actor && nat_eq x.event n in
    let holds : p e ≡ true = ap (λ b. b && nat_eq e.event n) own ∙ nat_true e.event n number in
    filter-append p es (e ∷ []) ∙ ap (λ b. filter p es ++ cond b (e ∷ []) []) holds

-- ---- which actors have more to send

-- If all other busy actors have more to send,
module _ {W : Type 0} (wants : W → Option Request) (is_of : Setting → Actor → W → Type 0) (running : Known → W → Running)
    (picks_of : W → Option (List Pick)) (place : ℕ)
    (b : Body W)
    (others : (q : ℕ) (v : Hand W) → (q ≡ place → ⊥) → is_busy_at b.side.states.actors q ≡ true → slice_get b.side.hands.items q ≡ Some v
    → Asks wants v)
    (during : IsSome b.side.event) where
  -- the actor at this place has more to send too,
  pub goes : (end_of : W → Option OpEnd) → ((m : W) → is_some (wants m) ≡ not (is_some (end_of m)))
      → Holds is_of running picks_of all_sound b → IsWorking place b
      → hand_end end_of (slice_get b.side.hands.items place) ≡ None → Going wants is_of running picks_of b
  goes end_of asks holds w end = record {
    holds = holds;
    none_over = λ q v busy e. elim (same_number q place) [
      | inl is ↦
          subst (Asks wants) (some_is (sym w.1 ∙ ap (slice_get b.side.hands.items) (sym is) ∙ e))
          (asks w.0 ∙ ap (λ o. not (is_some o)) (ap (hand_end end_of) (sym w.1) ∙ end))
      | inr ne ↦ others q v ne busy e
    ];
    during = during;
  }

  -- or its operation is over.
  pub goes_over : (c : Body W) (actor : Actor) (end : OpEnd) → Holds is_of running picks_of all_sound c → IsOver place actor end b c
      → Going wants is_of running picks_of c
  goes_over c actor end holds o = record {
    holds = holds;
    none_over = λ q v busy e. elim (same_number q place) [
      | inl is ↦ absurd (false_true (ap (is_busy_at c.side.states.actors) is ∙ o.idle) busy)
      | inr ne ↦ others q v ne (sym (o.others q ne) ∙ busy) (sym (o.hands q ne) ∙ e)
    ];
    during = subst IsSome (sym o.same.event) during;
  }

module _ {W : Type 0} (wants : W → Option Request) (tells : W → Outcome → W) (fits : W → Outcome → Type 0) (end_of : W → Option OpEnd)
    (left : W → Scene → ℕ) (is_of : Setting → Actor → W → Type 0) (running : Known → W → Running) (rise : Script → ℕ)
    (picks_of : W → Option (List Pick)) (rises : W → Request → ℕ) (acts : ActLaws wants tells fits end_of left rises) where
  -- ---- tables

  seen_as : (b c : Body W) → c.side.others ≡ b.side.others → c.shared.journal.entries ≡ b.shared.journal.entries → seen_by c ≡ seen_by b
  seen_as b c others journal = ap (λ v. in_eyes (is_mine v.items) c.shared.journal.entries) others ∙ ap
      (in_eyes (is_mine b.side.others.items)) journal

  abbrev T : Body W → Table
  T b = table_of left rise b

  beside_of : (b c : Body W) (place : ℕ) → c.side.script ≡ b.side.script
      → Lighter left (rise b.side.script) place b.shared.store.scene c.shared.store.scene b.side.states.actors c.side.states.actors
      b.side.hands.items c.side.hands.items → Beside place (T b) (T c)
  beside_of b c place script l =
      record {
        actors = λ q. ap (λ (w : Script). actor_or (slice_get (actors w) q)) script;
        others = l.others;
        less =
            rw script (lighter left (rise b.side.script) place b.shared.store.scene c.shared.store.scene b.side.states.actors
            c.side.states.actors b.side.hands.items
            c.side.hands.items l);
      }

  same_entries : (b c : Body W) → c.side.ends ≡ b.side.ends → seen_by c ≡ seen_by b → (T c).entries ≡ (T b).entries
  same_entries b c ends seen = ap (λ v. of_event (length v.items + 1) (seen_by c)) ends ∙ ap (of_event (length b.side.ends.items + 1)) seen

  sending_of : (b m c : Body W) (place : ℕ) (actor : Actor) → slice_get (actors b.side.script) place ≡ Some actor → Wrote actor b m
      → c.side.ends ≡ b.side.ends → seen_by c ≡ seen_by m → Sending place (T b) (T c)
  sending_of b m c place actor here w ends seen =
      let n = length b.side.ends.items + 1 in
      let e : Entry = record { event = length b.side.ends.items + 1; actor = actor; request = w.entry.request; outcome = w.entry.outcome }
      in
      record {
        entry = e;
        by = ap actor_or (sym here);
        appended = ap (λ v. of_event (length v.items + 1) (seen_by c)) ends ∙ ap (of_event n) (seen ∙ w.seen) ∙ event_kept n (seen_by b) e
            (own_at b.side.script place actor here) refl;
      }

  room_falls : (old new : Vec ActorEnd Global) (y : ActorEnd) → new.items ≡ old.items ++ y ∷ [] → vec_capacity old ≤ vec_capacity new
      → vec_capacity old - vec_len old ≤ (vec_capacity new - vec_len new) + 1
  room_falls old new y told capacity =
      let a : vec_len old ≡ length old.items = search rules in
      let z : vec_len new ≡ length new.items = search rules in
      omega (arith, a, z, capacity, ap length told ∙ length-append old.items (y ∷ []))

  ending_of : (b m c : Body W) (place : ℕ) (actor : Actor) (end : OpEnd) → slice_get (actors b.side.script) place ≡ Some actor
      → m.side.finished ≡ b.side.finished → IsOver place actor end m c → Ending place (T b) (T c)
  ending_of b m c place actor end here finished o =
      let told : c.side.finished.items ≡ b.side.finished.items ++ record { actor = actor; end = end } ∷ [] = o.finished ∙ ap
      (λ (v : Vec ActorEnd Global). v.items ++ record { actor = actor; end = end } ∷ []) finished in
      record {
        end = end;
        told = told ∙ ap (λ a. b.side.finished.items ++ record { actor = a; end = end } ∷ []) (ap actor_or (sym here));
        idle = o.idle;
        room = room_falls b.side.finished c.side.finished (record { actor = actor; end = end }) told (rw finished at o.capacity);
      }

  -- ---- turns

  module _ (b m : Body W) (place : ℕ) (actor : Actor) (here : slice_get (actors b.side.script) place ≡ Some actor)
      (busy : is_busy_at b.side.states.actors place ≡ true)
      (g : Going wants is_of running picks_of b) (a : Around place b m) where
    -- What must hold after a turn.
    abbrev pub Leaves : Body W → Turn → Type 0
    Leaves c turn = record {
      holds : Going wants is_of running picks_of c;
      keeps : Same b c;
      turned : Turned place (table_of left rise b)
          (table_of left rise c) turn;
    }

    others_on : (q : ℕ) (v : Hand W) → (q ≡ place → ⊥) → is_busy_at m.side.states.actors q ≡ true → slice_get m.side.hands.items q ≡ Some v
        → Asks wants v
    others_on q v ne busy e = g.none_over q v (ap (λ (k : Kept). is_busy_at k.actors q) (sym a.states) ∙ busy) (sym (a.hands q ne) ∙ e)

    low : place < length b.side.hands.items
    low = has_hand is_of running picks_of all_sound b place actor g.holds here

    same_then : (part : List Entry) → m.shared.journal.entries ≡ b.shared.journal.entries ++ part → AreOf (b.shared.events + 1) part
        → Same b m
    same_then part appended are = record {
      stays = a.stays;
      ends = a.ends;
      event = a.event;
      events = a.events;
      places = a.places;
      more =
          (part, appended, are);
    }

    same_wrote : Wrote actor b m → Same b m
    same_wrote w = same_then (w.entry ∷ []) w.appended ((w.number, ap is_own w.by ∙ own_at b.side.script place actor here), tt)

    -- It sent, and has more to send.
    pub goes_on : Holds is_of running picks_of all_sound m → Wrote actor b m → RaisedBy left rise place b m.shared.store.scene
        → FellAt left place b m → IsWorking place m
        → hand_end end_of (slice_get m.side.hands.items place) ≡ None → Leaves m GoesOn
    goes_on holds w raises falls at none = record {
      holds = goes wants is_of running picks_of place m others_on (subst IsSome (sym a.event) g.during) end_of acts.goes_on holds at none;
      keeps = same_wrote w;
      turned = (
        beside_of b m place a.stays.script (record {
          places = a.places;
          within = low;
          busy = busy;
          others = λ q ne. ap (λ (k : Kept). is_busy_at k.actors q) a.states;
          hands = a.hands;
          beside = raises;
          own = inr falls;
        }),
        sending_of b m m place actor here w a.ends refl,
        ap (λ (k : Kept). is_busy_at k.actors place) a.states ∙ busy,
        ap (λ (v : Vec ActorEnd Global). v.items) a.finished,
        rw a.finished (omega arith),
      );
    }

    module _ (c : Body W) (end : OpEnd) (holds : Holds is_of running picks_of all_sound c) (o : IsOver place actor end m c) where
      beside_over : RaisedBy left rise place b m.shared.store.scene → Beside place (table_of left rise b) (table_of left rise c)
      beside_over raises = beside_of b c place (o.same.stays.script ∙ a.stays.script) (record {
        places = o.same.places ∙ a.places;
        within = low;
        busy = busy;
        others = λ q ne. o.others q ne ∙ ap (λ (k : Kept). is_busy_at k.actors q) a.states;
        hands = λ q ne. o.hands q ne ∙ a.hands q ne;
        beside = subst (λ (s : Scene). RaisedBy left rise place b s) (ap (λ v. v.scene) (sym o.store)) raises;
        own = inl o.idle;
      })

      over_then : Going wants is_of running picks_of c
      over_then = goes_over wants is_of running picks_of place m others_on (subst IsSome (sym a.event) g.during) c actor end holds o

      -- It sent, and its operation ended with that.
      pub has_ended : Wrote actor b m → RaisedBy left rise place b m.shared.store.scene → Leaves c Ended
      has_ended w raises = record {
        holds = over_then;
        keeps = same_laws.chain b m c (same_wrote w) o.same;
        turned = (
          beside_over raises,
          sending_of b m c place actor here w (o.same.ends ∙ a.ends) (seen_as m c o.same.stays.others (ap (λ v. v.entries) o.journal)),
          ending_of b m c place actor end here a.finished o,
        );
      }

      -- Memory ran out before it could send.
      pub has_died : end ≡ NoMemory → m.shared.journal.entries ≡ b.shared.journal.entries → m.shared.store.scene ≡ b.shared.store.scene
          → Leaves c Died
      unfolding ending_of
      has_died lack journal scene = record {
        holds = over_then;
        keeps = same_laws.chain b m c (same_then [] (journal ∙ sym (append-nil b.shared.journal.entries)) tt) o.same;
        turned = (
          beside_over (λ q v ne busy e. rw scene (omega arith)),
          same_entries b c (o.same.ends ∙ a.ends) (seen_as m c o.same.stays.others (ap (λ v. v.entries) o.journal) ∙ seen_as b m
              a.stays.others journal),
          (ending_of b m c place actor end here a.finished o, ap is_memory lack),
        );
      }
