-- What a send of a busy actor leaves, whatever became of it.
use Rattle.text_and_lists.proofs.Members.{false_true, nat_true, some_is}
use Rattle.job_actor.specs.Acts.{ActLaws}
use Rattle.job_actor.specs.Posting.{DueFits, Grew, Sight, sight}
use Rattle.job_actor.specs.Works.{WorkLaws}
use Rattle.job_actor.specs.declared.posting.Posted.{Posted}
use Rattle.job_actor.specs.declared.posting.Posted.TheVariants.{Broken, Heard, Unsent}
use Rattle.job_model.specs.JobScript.{Script}
use Rattle.job_model.specs.Known.{Known}
use Rattle.job_model.specs.declared.ends.OpEnd.{OpEnd}
use Rattle.job_model.specs.declared.ends.Pick.{Pick}
use Rattle.job_protocol.specs.Operations.{Running, Setting}
use Rattle.job_run.proofs.Seen.{foretold_as}
use Rattle.job_run.proofs.Sends.{eyes_own, is_at, sent_holds, sent_raises}
use Rattle.job_run.specs.Holds.{HandsAre, Holds, all_but, all_sound, hand_left, is_busy_at, is_mine, setting_of}
use Rattle.job_run.specs.inner.Posts.{Around, FellAt, PostedAt, Wrote, raised}
use Rattle.job_run.specs.Sending.{Asks}
use Rattle.job_run.specs.inner.Sending.{HandDue, HandPosted}
use Rattle.job_run.specs.declared.body.Body.{Body}
use Rattle.job_run.specs.declared.hands.Hand.{Hand}
use Rattle.job_run.specs.declared.hands.Hand.TheVariants.{At}
use Rattle.job_spec.specs.Eyes.{in_eyes}
use Rattle.job_spec.specs.States.{actors}
use Rattle.s3_types.specs.Fates.{fate_at}
use Rattle.s3_types.specs.Foretold.{AreForetold}
use Rattle.s3_types.specs.Ledger.{Ledger}
use Rattle.s3_types.specs.Moment.{effect}
use Rattle.s3_types.specs.Store.{Scene}
use Rattle.s3_types.specs.declared.journal.Outcome.{Outcome}
use Rattle.s3_types.specs.declared.request.Actor.{Actor}
use Rattle.s3_types.specs.declared.request.Request.{Request}
use Rattle.std.proofs.Common.{Bool, Global, IsSome, List, Option, Some, Vec, ap, arith, length, not, refl, slice_get, subst, sym, true, ℕ}
use Rattle.std.proofs.Common.{◌+◌, ◌<◌, ◌^◌, ◌∙◌, ◌≡◌, ◌≤◌}
use Rattle.store_link.specs.Link.{LossyLink}

-- The place that is left out is not sound.
left_out : (place : ℕ) → all_but place place ≡ true → ⊥
left_out place e = false_true (ap not (nat_true place place refl)) e

-- What a body shows of its store and journal, with the fates of all sends to come.
abbrev pub seen_of : LossyLink → Ledger → Sight
seen_of s j = sight s.scene s.requests (λ n. Some (fate_at s.fates n)) j.entries

-- Only the store, the journal and the hand at this place change.
pub posts_around : {W : Type 0} (b : Body W) (place : ℕ) (st : LossyLink) (j : Ledger) (hs : Vec (Hand W) Global)
    → ((n : ℕ) → fate_at st.fates n ≡ fate_at b.shared.store.fates n) → length hs.items ≡ length b.side.hands.items
    → ((q : ℕ) → (q ≡ place → ⊥) → slice_get hs.items q ≡ slice_get b.side.hands.items q)
    → Around place b (record b { side = record b.side { hands = hs }; shared = record b.shared { store = st; journal = j } })
posts_around b place st j hs fates places others = record {
  stays = record
      { script = refl; others = refl; shares = refl; opening = refl; fates = fates };
  ends = refl;
  event = refl;
  events = refl;
  finished =
      refl;
  states = refl;
  places = places;
  hands = others;
}

-- The store has received no more requests than the journal has entries.
pub counted : {W : Type 0} (is_of : Setting → Actor → W → Type 0) (running : Known → W → Running) (picks_of : W → Option (List Pick))
    (b : Body W) → Holds is_of running picks_of all_sound b → b.shared.store.requests ≤ length b.shared.journal.entries
counted is_of running picks_of b h = omega (arith, h.requests)

module _ {W : Type 0} (wants : W → Option Request) (tells : W → Outcome → W) (fits : W → Outcome → Type 0) (end_of : W → Option OpEnd)
    (left : W → Scene → ℕ) (is_of : Setting → Actor → W → Type 0) (running : Known → W → Running) (rise : Script → ℕ)
    (picks_of : W → Option (List Pick)) (works : WorkLaws wants tells fits end_of left is_of running rise picks_of) where
  -- A busy actor's operation accepts each outcome that S3 may give.
  pub due_fits : (b : Body W) → Holds is_of running picks_of all_sound b → length b.shared.journal.entries < 2 ^ 62
      → (place : ℕ) (actor : Actor) → slice_get (actors b.side.script) place ≡ Some actor → (h : Hand W)
      → slice_get b.side.hands.items place ≡ Some h → Asks wants h → HandDue wants fits h b.shared.store.scene
  due_fits b holds few place actor here (At m) hand asks =
      let at = is_at wants tells fits end_of left is_of running rise picks_of works b holds few place actor m here hand in
      subst (DueFits wants fits m) (sym holds.scene) (works.due (setting_of b) b.shared.opening holds.play actor m at)
  due_fits b holds few place actor here _ hand asks = asks

  module _ (rises : W → Request → ℕ) (acts : ActLaws wants tells fits end_of left rises) (b : Body W)
      (holds : Holds is_of running picks_of all_sound b) (during : IsSome b.side.event) (few : length b.shared.journal.entries < 2 ^ 62)
      (place : ℕ) (actor : Actor) (here : slice_get (actors b.side.script) place ≡ Some actor)
      (busy : is_busy_at b.side.states.actors place ≡ true) (st : LossyLink) (j : Ledger) (hs : Vec (Hand W) Global)
      (fates : (n : ℕ) → Some (fate_at st.fates n) ≡ Some (fate_at b.shared.store.fates n))
      (places : length hs.items ≡ length b.side.hands.items) (others : (q : ℕ) → (q ≡ place → ⊥) → slice_get hs.items q ≡ slice_get
      b.side.hands.items q) where
    told : (n : ℕ) → fate_at st.fates n ≡ fate_at b.shared.store.fates n
    told n = some_is (fates n)

    -- Nothing was sent.
    unsent_holds : j.entries ≡ b.shared.journal.entries → st.scene ≡ b.shared.store.scene → st.requests ≡ b.shared.store.requests
        → Holds is_of running picks_of (all_but place) (record b
        { side = record b.side { hands = hs }; shared = record b.shared { store = st; journal = j } })
    unsent_holds entries scene count =
        let turn = holds.turn during in
        let journal = ap (in_eyes (is_mine b.side.others.items)) entries ∙ holds.journal in
        let fated =
        subst (AreForetold (λ n. Some (fate_at st.fates n)) 1) (sym entries)
        (foretold_as (λ n. Some (fate_at b.shared.store.fates n)) (λ n. Some (fate_at st.fates n)) 1 b.shared.journal.entries fates
        holds.fated) in
        let low : st.scene.content.next ≤ 2 ^ 62 + st.requests = rw (count, scene) holds.few in
        let hands : HandsAre is_of running picks_of (all_but place) (setting_of b) b.shared.opening holds.play hs.items =
        λ q a v s e i. holds.hands q a v refl e (sym (others q (λ is. left_out place (ap (all_but place) (sym is) ∙ s))) ∙ i) in
        search (
          turn,
          journal,
          scene ∙ holds.scene,
          count ∙ holds.requests ∙ sym (ap length entries),
          fated,
          low,
          places ∙ holds.places,
          hands,
          holds,
        )

    module _ (m n : W) (hand : slice_get b.side.hands.items place ≡ Some (At m)) (now : slice_get hs.items place ≡ Some (At n))
        (grew : Grew (wants m) actor (b.shared.events + 1) (seen_of b.shared.store b.shared.journal) (seen_of st j)) where
      grew_holds : (sound : ℕ → Bool) → (sound place ≡ true → n ≡ tells m grew.outcome)
          → Holds is_of running picks_of sound (record b {
            side = record b.side { hands = hs };
            shared = record b.shared
                { store = st; journal = j };
          })
      grew_holds sound own =
          sent_holds wants tells fits end_of left is_of running rise picks_of works b holds few place actor m here hand busy during
          grew.request grew.outcome grew.wanted grew.honest grew.foretold st j hs sound grew.appended grew.scene grew.count told places
          others
          (λ s. now ∙ ap (λ v. Some (At v)) (own s))

      wrote : Wrote actor b (record b { side = record b.side { hands = hs }; shared = record b.shared { store = st; journal = j } })
      wrote = record {
        entry = record { event = b.shared.events + 1; actor = actor; request = grew.request; outcome = grew.outcome };
        by = refl;
        number = refl;
        appended = grew.appended;
        seen = eyes_own b actor grew.request grew.outcome during holds.turn holds.counts j.entries grew.appended;
      }

      raises : (q : ℕ) (v : Hand W) → (q ≡ place → ⊥) → is_busy_at b.side.states.actors q ≡ true → slice_get b.side.hands.items q ≡ Some v
          → hand_left left st.scene v ≤ hand_left left b.shared.store.scene v + raised (rise b.side.script) q
      raises = sent_raises wants tells fits end_of left is_of running rise picks_of works b holds few place actor m here hand busy during
          grew.request grew.outcome grew.wanted grew.honest grew.foretold st.scene grew.scene

      falls : n ≡ tells m grew.outcome → FellAt left place b (record b
          { side = record b.side { hands = hs }; shared = record b.shared { store = st; journal = j } })
      falls told v k e i =
          let at = is_at wants tells fits end_of left is_of running rise picks_of works b holds few place actor m here hand in
          let fit = subst (DueFits wants fits m) (sym holds.scene) (works.due (setting_of b) b.shared.opening holds.play actor m at)
          grew.request grew.outcome grew.wanted grew.honest in
          let low : left (tells m grew.outcome) (effect b.shared.store.scene grew.request grew.outcome) < left m b.shared.store.scene =
          acts.falls m b.shared.store.scene grew.request grew.outcome grew.wanted fit grew.honest in
          rw (sym (some_is (sym now ∙ i)), sym (some_is (sym hand ∙ e)), told, grew.scene) low

    pub posted_at : (v k : Hand W) → slice_get b.side.hands.items place ≡ Some v → slice_get hs.items place ≡ Some k → (p : Posted)
        → HandPosted wants tells end_of actor (b.shared.events + 1) v k (seen_of b.shared.store b.shared.journal) (seen_of st j) p
        → PostedAt left is_of running rise picks_of place actor b (record b
        { side = record b.side { hands = hs }; shared = record b.shared { store = st; journal = j } }) p
    posted_at (At m) (At n) hand now Unsent h = (unsent_holds h.entries h.scene h.count, h.entries, h.scene)
    posted_at (At m) (At n) hand now Broken h = (
      grew_holds m n hand now h.grew (all_but place) (λ s. absurd (left_out place s)),
      wrote m n
          hand now h.grew,
      raises m n hand now h.grew,
    )
    posted_at (At m) (At n) hand now Heard h = (
      grew_holds m n hand now h.grew all_sound (λ s. h.told),
      wrote m n hand now h.grew,
      raises m
          n hand now h.grew,
      falls m n hand now h.grew h.told,
      (n, now),
    )
    posted_at _ _ hand now p h = absurd h
