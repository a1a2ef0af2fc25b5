-- What holds after a busy actor has sent a request.
use Rattle.text_and_lists.proofs.Members.{false_true, true_or_false}
use Rattle.text_and_lists.proofs.Options.{none_is, some_of}
use Rattle.job_actor.specs.Picks.{HasPicked, LeavesPicks, is_committing, is_job_commit}
use Rattle.job_actor.specs.Plans.{IsPlanOf}
use Rattle.job_actor.specs.Works.{IsAt, WorkLaws, rise_for}
use Rattle.job_model.specs.JobScript.{Script}
use Rattle.job_model.specs.Known.{Known}
use Rattle.job_model.specs.declared.ends.OpEnd.{OpEnd}
use Rattle.job_model.specs.declared.ends.Pick.{Pick}
use Rattle.job_protocol.specs.Operations.{Running, Setting, advance}
use Rattle.job_run.proofs.Along.{carried, others_know}
use Rattle.job_run.proofs.Finishes.{hands_by}
use Rattle.job_run.proofs.PicksStay.{put_by_sent, same_picked}
use Rattle.job_run.proofs.Places.{apart, attempt_at, driver_first, there}
use Rattle.job_run.proofs.Seen.{eyes_more, foretold_as, foretold_last}
use Rattle.job_run.proofs.Standings.{busy_at}
use Rattle.job_run.specs.Holds.{HandIs, HandsAre, Holds, IsTurn, all_sound, hand_left, is_busy_at, is_mine, seen_by, setting_of}
use Rattle.job_run.specs.inner.Posts.{RaisedBy, raised}
use Rattle.job_run.specs.declared.body.Body.{Body}
use Rattle.job_run.specs.declared.hands.Hand.{Hand}
use Rattle.job_run.specs.declared.hands.Hand.TheVariants.{At, Empty, Plan}
use Rattle.job_spec.specs.Eyes.{in_eyes, number_in}
use Rattle.job_spec.specs.States.{actors}
use Rattle.script_steps.proofs.Actors.{put_here, put_other, same_or_not}
use Rattle.script_steps.proofs.Parts.{take_whole}
use Rattle.script_steps.proofs.PastMore.{busy_is}
use Rattle.script_steps.specs.Transitions.{MaySend, Play, Sends, happen, happens, hear, knows_now}
use Rattle.protocol_runs.proofs.Changes.{after_parts}
use Rattle.s3_types.specs.Answer.{answer, apply}
use Rattle.s3_types.specs.Fates.{fate_at}
use Rattle.s3_types.specs.Foretold.{AreForetold, IsForetold}
use Rattle.s3_types.specs.Ledger.{Ledger}
use Rattle.s3_types.specs.Moment.{IsHonestOutcome, after_all, effect, moment}
use Rattle.s3_types.specs.Store.{Content, Scene, opening as scene_at_first}
use Rattle.s3_types.specs.declared.fates.Fate.{Fate}
use Rattle.s3_types.specs.declared.journal.Entry.{Entry}
use Rattle.s3_types.specs.declared.journal.Outcome.{Outcome}
use Rattle.s3_types.specs.declared.journal.Outcome.TheVariants.{RequestLost, Slow}
use Rattle.s3_types.specs.declared.request.Actor.{Actor}
use Rattle.s3_types.specs.declared.request.Actor.TheVariants.{Driver}
use Rattle.s3_types.specs.declared.request.Request.{Request}
use Rattle.s3_types.specs.declared.request.Request.TheVariants.{ClusterDelete, ClusterGet, ClusterList, ClusterPut, ClusterRename}
use Rattle.std.proofs.Common.{Bool, Global, IsSome, List, None, Option, Some, Vec, ap, arith, false, inl, inr, length, length-append, refl}
use Rattle.std.proofs.Common.{slice_get, subst, suc, sym, true, zero, ℕ, [], ◌++◌, ◌+◌, ◌<◌, ◌^◌, ◌∙◌, ◌∷◌, ◌≡◌, ◌≤◌}
use Rattle.std.proofs.lemmas.Option.{slice_get_within}
use Rattle.store_link.proofs.Ids.{next_store}
use Rattle.store_link.specs.Link.{LossyLink}

-- ---- scenes

-- A request draws at most one upload id.
next_of : (s : Scene) (r : Request) → (apply s r).content.next ≤ s.content.next + 1
next_of s (ClusterPut p b) = omega arith
next_of s (ClusterRename a b) = omega arith
next_of s (ClusterGet p) = omega arith
next_of s (ClusterDelete p) = omega arith
next_of s (ClusterList p) = omega arith
next_of s r = next_store s.content r

next_after : (s : Scene) (r : Request) (o : Outcome) → (effect s r o).content.next ≤ s.content.next + 1
next_after s r Slow = omega arith
next_after s r RequestLost = omega arith
next_after s r _ = next_of s r

pub scene_on : (opening : Content) (es : List Entry) (e : Entry)
    → moment opening (es ++ e ∷ []) (length (es ++ e ∷ [])) ≡ effect (moment opening es (length es)) e.request e.outcome
scene_on opening es e =
    ap (after_all (scene_at_first opening)) (take_whole (es ++ e ∷ [])) ∙ after_parts (scene_at_first opening) es (e ∷ [])
    ∙ ap (λ fs. effect (after_all (scene_at_first opening) fs) e.request e.outcome) (sym (take_whole es))

-- The job reads an entry of its event in progress as its own, under its own number.
pub eyes_own : {W : Type 0} (b : Body W) (actor : Actor) (r : Request) (o : Outcome) → IsSome b.side.event
    → (IsSome b.side.event → IsTurn b) → number_in (is_mine b.side.others.items) b.shared.events ≡ length b.side.ends.items
    → (es : List Entry) → es ≡ b.shared.journal.entries ++ record { event = b.shared.events + 1; actor = actor; request = r; outcome = o } ∷
    []
    → in_eyes (is_mine b.side.others.items) es ≡ seen_by b ++ record {
      event = length b.side.ends.items + 1;
      actor = actor;
      request = r;
      outcome = o;
    } ∷ []
eyes_own b actor r o during turn counts es appended =
    eyes_more (is_mine b.side.others.items) b.shared.journal.entries es b.shared.events actor r o (turn during).mine appended
    ∙ ap (λ n. seen_by b ++ record { event = n + 1; actor = actor; request = r; outcome = o } ∷ []) counts

module _ {W : Type 0} (wants : W → Option Request) (tells : W → Outcome → W) (fits : W → Outcome → Type 0) (end_of : W → Option OpEnd)
    (left : W → Scene → ℕ) (is_of : Setting → Actor → W → Type 0) (running : Known → W → Running) (rise : Script → ℕ)
    (picks_of : W → Option (List Pick)) (works : WorkLaws wants tells fits end_of left is_of running rise picks_of) where
  abbrev Keeps : (ℕ → Bool) → Body W → Type 0
  Keeps sound b = Holds is_of running picks_of sound b

  abbrev Here : Setting → Content → Play → Actor → Hand W → Type 0
  Here g opening x a h = HandIs is_of running picks_of g opening x a h

  pub is_at : (b : Body W) → (h : Keeps all_sound b) → length b.shared.journal.entries < 2 ^ 62 → (q : ℕ) (a : Actor) (m : W)
      → slice_get (actors b.side.script) q ≡ Some a → slice_get b.side.hands.items q ≡ Some (At m)
      → IsAt is_of running (setting_of b) b.shared.opening h.play a m
  is_at b h few q a m e i =
      let low = subst (λ (s : Scene). s.content.next ≤ 2 ^ 64) h.scene (let low : b.shared.store.scene.content.next ≤ 2 ^ 64 = omega
      (arith, h.requests, h.few) in low) in
      assumption (low, h.hands q a (At m) refl e i, h)

  -- ---- picks

  no_picks : (k : Known) (m : W) → is_job_commit (running k m).operation ≡ false → picks_of m ≡ None
  no_picks k m e = none_is (picks_of m) (works.has_picks k m ∙ e)

  module _ (b : Body W) (h : Keeps all_sound b) (few : length b.shared.journal.entries < 2 ^ 62) (place : ℕ) (actor : Actor) (m : W)
      (here : slice_get (actors b.side.script) place ≡ Some actor) (hand : slice_get b.side.hands.items place ≡ Some (At m)) where
    abbrev g : Setting
    g = setting_of b

    abbrev x : Play
    x = h.play

    abbrev o_now : Known
    o_now = knows_now g x actor

    at : IsAt is_of running (setting_of b) b.shared.opening h.play actor m
    at = is_at b h few place actor m here hand

    leaves : (e : Entry) → e.actor ≡ actor → MaySend (setting_of b) b.shared.opening h.play e → is_committing (h.play.running actor) ≡ false
        → LeavesPicks (setting_of b) b.shared.opening h.play e
    leaves e is may c = works.leaves g b.shared.opening x actor m at (no_picks o_now m (sym (ap is_committing at.at) ∙ c)) e is may

    driver_leaves : (e : Entry) → e.actor ≡ actor → MaySend (setting_of b) b.shared.opening h.play e
        → is_committing (h.play.running Driver) ≡ false → LeavesPicks (setting_of b) b.shared.opening h.play e
    driver_leaves e is may c = leaves e is may (elim (same_or_not actor Driver) [
      | inl is ↦ ap (λ a. is_committing (x.running a)) is ∙ c
      | inr ne ↦ (carried g b.shared.opening x h.happened).whose actor ne
    ])

    -- ---- the request may be sent

    module _ (busy : is_busy_at b.side.states.actors place ≡ true) (during : IsSome b.side.event) (r : Request) (o : Outcome)
        (asked : wants m ≡ Some r) (honest : IsHonestOutcome o (answer b.shared.store.scene r))
        (fated : IsForetold (Some (fate_at b.shared.store.fates (b.shared.store.requests + 1))) o) where
      abbrev e : Entry
      e = record { event = length b.side.ends.items + 1; actor = actor; request = r; outcome = o }

      abbrev y : Play
      y = happen g x (Sends e)

      pub may : MaySend (setting_of b) b.shared.opening h.play (record
          { event = length b.side.ends.items + 1; actor = actor; request = r; outcome = o })
      may =
          let ev = some_of b.side.event during in
          let moment : b.side.event ≡ h.play.now = h.now in
          let life = busy_is (x.live.state actor).life (sym (busy_at b.side.script b.side.states x.live h.stands place actor here) ∙ busy)
          in
          let asked_then = sym (works.asks g b.shared.opening x actor m at) ∙ asked in
          let honest_then = subst (λ (s : Scene). IsHonestOutcome o (answer s r)) h.scene honest in
          search (sym moment ∙ ev.1, ap (λ (v : List _). length v + 1) h.ends, life, at.at, asked_then, honest_then, at.few)

      own_running : (happen (setting_of b) h.play (Sends (record
          { event = length b.side.ends.items + 1; actor = actor; request = r; outcome = o }))).running actor ≡ Some
          (advance (setting_of b) actor (running (knows_now (setting_of b) h.play actor) m) o)
      own_running = put_here x.running actor (hear g actor (x.running actor) e) actor refl ∙ ap (λ v. hear g actor v e) at.at

      -- ---- hands

      own_hand : Here (setting_of b) b.shared.opening (happen (setting_of b) h.play
          (Sends (record { event = length b.side.ends.items + 1; actor = actor; request = r; outcome = o }))) actor (At (tells m o))
      own_hand =
          let goes = works.goes g b.shared.opening x actor m at r asked o (subst (λ (s : Scene). IsHonestOutcome o (answer s r)) h.scene
          honest) in
          let adv = advance g actor (running o_now m) o in
          let known : adv.known ≡ knows_now g y actor = (carried g b.shared.opening y (happens x (Sends e) h.happened may)).known actor adv
          own_running in
          let now : running (knows_now g y actor) (tells m o) ≡ adv = ap (λ k. running k (tells m o)) (sym known) ∙ goes.1 in (
            goes.0,
            (
              own_running ∙ ap Some (sym now),
              works.picks g b.shared.opening x actor m at
                  (h.hands place actor (At m) refl here hand).1.1 e refl may,
            ),
          )

      -- The operation in another hand has the picks that it had.
      other_picks : (a : Actor) (n : W) → (a ≡ actor → ⊥) → Here (setting_of b) b.shared.opening h.play a (At n)
          → HasPicked (setting_of b) b.shared.opening (happen (setting_of b) h.play
          (Sends (record { event = length b.side.ends.items + 1; actor = actor; request = r; outcome = o }))) (picks_of n)
      other_picks a n ne i = elim (true_or_false (is_committing (x.running actor))) [
        | inl c ↦
            let mine : (actor ≡ Driver → ⊥) → ⊥ = λ no. false_true ((carried g b.shared.opening x h.happened).whose actor no) c in
            let not_it : a ≡ Driver → ⊥ = λ d. mine (λ s. ne (d ∙ sym s)) in
            let none : picks_of n ≡ None = no_picks (knows_now g x a) n (sym (ap is_committing i.1.0) ∙
            (carried g b.shared.opening x h.happened).whose a not_it) in
            subst (HasPicked g b.shared.opening y) (sym none) tt
        | inr c ↦ same_picked g b.shared.opening x e (leaves e refl may c) (picks_of n) i.1.1
      ]

      still : (a : Actor) → (a ≡ actor → ⊥) → (happen (setting_of b) h.play (Sends
          (record { event = length b.side.ends.items + 1; actor = actor; request = r; outcome = o }))).running a ≡ h.play.running a
      still a ne = put_other x.running actor (hear g actor (x.running actor) e) a ne

      other_hand : (a : Actor) (v : Hand W) → (a ≡ actor → ⊥) → Here (setting_of b) b.shared.opening h.play a v
          → Here (setting_of b) b.shared.opening (happen (setting_of b) h.play
          (Sends (record { event = length b.side.ends.items + 1; actor = actor; request = r; outcome = o }))) a v
      other_hand a (Plan p) ne i = (i.0, subst (λ k. IsPlanOf g a k p) (sym (others_know g b.shared.opening x e a ne)) i.1, i.2)
      other_hand a (At n) ne i = (
        i.0,
        (
          still a ne ∙ i.1.0 ∙ ap (λ k. Some (running k n)) (sym (others_know g b.shared.opening x e a ne)),
          other_picks a n ne i,
        ),
      )
      other_hand a Empty ne (inl l) = inl (record {
        idle = l.idle;
        wanting = λ d c. l.wanting d
            (sym (ap is_committing (still Driver (λ s. ne (d ∙ s)))) ∙ c);
        dead = l.dead;
      })
      other_hand a Empty ne (inr n) = inr (n.0, still Driver (λ s. ne (n.0 ∙ s)) ∙ n.1)

      -- ---- the job

      module _ (st : LossyLink) (j : Ledger) (hs : Vec (Hand W) Global) where
        pub sent_holds : (sound : ℕ → Bool) → j.entries ≡ b.shared.journal.entries ++ record
            { event = b.shared.events + 1; actor = actor; request = r; outcome = o } ∷ [] → st.scene ≡ effect b.shared.store.scene r o
            → st.requests ≡ b.shared.store.requests + 1 → ((n : ℕ) → fate_at st.fates n ≡ fate_at b.shared.store.fates n)
            → length hs.items ≡ length b.side.hands.items
            → ((q : ℕ) → (q ≡ place → ⊥) → slice_get hs.items q ≡ slice_get b.side.hands.items q)
            → (sound place ≡ true → slice_get hs.items place ≡ Some (At (tells m o)))
            → Keeps sound (record b { side = record b.side { hands = hs }; shared = record b.shared { store = st; journal = j } })
        sent_holds sound appended scene count fates places others own =
            let draws : (effect b.shared.store.scene r o).content.next ≤ b.shared.store.scene.content.next + 1 = next_after
            b.shared.store.scene r o in
            let low : b.shared.store.scene.content.next ≤ 2 ^ 62 + b.shared.store.requests = h.few in
            let more : (effect b.shared.store.scene r o).content.next ≤ 2 ^ 62 + (b.shared.store.requests + 1) = omega (arith, draws, low)
            in
            let turn = h.turn during in
            let journal = eyes_own b actor r o during h.turn h.counts j.entries appended ∙ ap (λ es. es ++ e ∷ []) h.journal in
            let now = scene ∙ ap (λ s. effect s r o) h.scene ∙ sym (scene_on b.shared.opening x.journal e) in
            let requests =
            count ∙ ap (λ n. n + 1) h.requests ∙ sym (length-append b.shared.journal.entries
            (record { event = b.shared.events + 1; actor = actor; request = r; outcome = o } ∷ []))
            ∙ sym (ap length appended) in
            let picks = put_by_sent g b.shared.opening x e b.side.picks may (driver_leaves e refl may) h.picks in
            let told : ℕ → Option Fate = λ n. Some (fate_at b.shared.store.fates n) in
            let number : b.shared.store.requests + 1 ≡ 1 + length b.shared.journal.entries = omega (arith, h.requests) in
            let fated_now =
            subst (AreForetold (λ n. Some (fate_at st.fates n)) 1) (sym appended)
            (foretold_as told (λ n. Some (fate_at st.fates n)) 1 (b.shared.journal.entries ++ record
            { event = b.shared.events + 1; actor = actor; request = r; outcome = o } ∷ [])
            (λ n. ap (λ f. Some f) (fates n))
            (foretold_last told 1 b.shared.journal.entries (record { event = b.shared.events + 1; actor = actor; request = r; outcome = o })
            h.fated
            (subst (λ n. IsForetold (told n) o) number fated))) in
            let few_now : st.scene.content.next ≤ 2 ^ 62 + st.requests = rw (count, scene) more in
            search (
              happens x (Sends e) h.happened may,
              turn,
              journal,
              now,
              requests,
              fated_now,
              few_now,
              places ∙ h.places,
              hands,
              picks,
              h,
            )
          where
            hands : HandsAre is_of running picks_of sound (setting_of b) b.shared.opening
                (happen (setting_of b) h.play (Sends (record
                { event = length b.side.ends.items + 1; actor = actor; request = r; outcome = o }))) hs.items
            hands =
                hands_by is_of running picks_of (setting_of b) b.shared.opening
                (happen (setting_of b) h.play (Sends (record
                { event = length b.side.ends.items + 1; actor = actor; request = r; outcome = o }))) sound place actor (At (tells m o))
                hs.items here own own_hand
                (λ q a v ne s i u. other_hand a v (apart b.side.script h.legal place q actor a ne here i)
                (h.hands q a v refl i (sym (others q ne) ∙ u)))

      -- ---- what the other actors have left

      rise_at : (q : ℕ) (a : Actor) (n : ℕ) → slice_get (actors b.side.script) q ≡ Some a → rise_for n a ≡ raised n q
      rise_at zero a n i = ap (rise_for n) (driver_first b.side.script a i)
      rise_at (suc q) a n i = let d = attempt_at b.side.script q a i in ap (rise_for n) (sym d.2)

      applied : (q : ℕ) (a : Actor) (v : Hand W) → (q ≡ place → ⊥) → slice_get (actors b.side.script) q ≡ Some a
          → slice_get b.side.hands.items q ≡ Some v
          → hand_left left (apply b.shared.store.scene r) v ≤ hand_left left b.shared.store.scene v + raised (rise b.side.script) q
      applied q a (Plan p) ne i u = omega arith
      applied q a Empty ne i u = omega arith
      applied q a (At n) ne i u =
          let low = works.beside g b.shared.opening x a actor n m (is_at b h few q a n i u) at
          (apart b.side.script h.legal place q actor a ne here i) r asked in
          rw (sym (rise_at q a (rise b.side.script) i), h.scene) low

      effected : (p : Outcome) (q : ℕ) (a : Actor) (v : Hand W) → (q ≡ place → ⊥) → slice_get (actors b.side.script) q ≡ Some a
          → slice_get b.side.hands.items q ≡ Some v
          → hand_left left (effect b.shared.store.scene r p) v ≤ hand_left left b.shared.store.scene v + raised (rise b.side.script) q
      effected Slow q a v ne i u = omega arith
      effected RequestLost q a v ne i u = omega arith
      effected _ q a v ne i u = applied q a v ne i u

      pub sent_raises : (s : Scene) → s ≡ effect b.shared.store.scene r o → RaisedBy left rise place b s
      sent_raises s scene q v ne busy u =
          let low = slice_get_within b.side.hands.items q v u in
          let fits_in : q < length (actors b.side.script) = let e = h.places in omega arith in
          let a = there (actors b.side.script) q fits_in in
          rw scene (effected o q a.0 v ne a.1 u)
