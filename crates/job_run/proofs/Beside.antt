-- An event of the other job leaves what a job keeps between its own events.
use Rattle.job_actor.proofs.Staying.{picks_stay}
use Rattle.job_actor.specs.Picks.{ArePicksOf, HasPicked}
use Rattle.job_actor.specs.Plans.{IsPlanOf}
use Rattle.job_invariant.specs.Told.{strange_entry}
use Rattle.job_model.specs.Attempts.{Who, actor_of}
use Rattle.job_model.specs.Known.{Drawn, Known}
use Rattle.job_model.specs.declared.ends.EventEnd.{EventEnd}
use Rattle.job_model.specs.declared.ends.Pick.{Pick}
use Rattle.job_protocol.specs.Knowledge.{knows}
use Rattle.job_protocol.specs.Operations.{Running, Setting, who}
use Rattle.job_run.proofs.Moments.{never}
use Rattle.job_run.proofs.Places.{own_at}
use Rattle.job_run.proofs.Sends.{scene_on}
use Rattle.job_run.specs.Beside.{AreForeign, RestsBeside}
use Rattle.job_run.specs.Events.{knows_of}
use Rattle.job_run.specs.Holds.{HandIs, HandsAre, IsTurn, PutBy, Quiet, all_sound, is_mine, setting_of}
use Rattle.job_run.specs.declared.body.JobRun.{JobRun}
use Rattle.job_run.specs.declared.hands.Hand.{Hand}
use Rattle.job_run.specs.declared.hands.Hand.TheVariants.{At, Empty, Plan}
use Rattle.job_spec.specs.Eyes.{entry_in, in_eyes, number_in}
use Rattle.job_spec.specs.Promise.{ArePicked, all_picks}
use Rattle.job_spec.specs.Turns.{by_actor, is_own}
use Rattle.job_states.specs.Stands.{Stands}
use Rattle.script_steps.proofs.Parts.{by_own}
use Rattle.script_steps.specs.Running.{Ahead}
use Rattle.script_steps.specs.Transitions.{Play, Reachable, Strays, happen, happens, knows_now, scene_of}
use Rattle.s3_types.specs.Moment.{after_all, effect}
use Rattle.s3_types.specs.Store.{Content, Scene}
use Rattle.s3_types.specs.declared.journal.Entry.{Entry}
use Rattle.s3_types.specs.declared.journal.Outcome.{Outcome}
use Rattle.s3_types.specs.declared.request.Actor.{Actor}
use Rattle.s3_types.specs.declared.request.Actor.TheVariants.{Shell}
use Rattle.s3_types.specs.declared.request.Request.{Request}
use Rattle.std.proofs.Common.{Bool, List, None, Option, Some, ap, append-nil, append_assoc, arith, cond, false, inl, inr, length, map, refl}
use Rattle.std.proofs.Common.{subst, suc, sym, true, ℕ, [], ◌++◌, ◌+◌, ◌∙◌, ◌∷◌, ◌≡◌}
use Rattle.std.proofs.lemmas.List.{map-append}

-- ---- the journal as the job reads it

number_same : (mine : ℕ → Bool) (n : ℕ) → mine (n + 1) ≡ false → number_in mine (n + 1) ≡ number_in mine n
number_same mine n h =
    let e : n + 1 ≡ suc n = omega arith in
    ap (number_in mine) e ∙ ap (λ b. cond b (number_in mine n + 1) (number_in mine n)) (ap mine (sym e) ∙ h)

abbrev strange : ℕ → Entry → Entry
strange n e = strange_entry n e.request e.outcome

-- ---- one request of a stranger

module _ (g : Setting) (opening : Content) (x : Play) (r : Request) (o : Outcome) where
  abbrev y : Play
  y = happen g x (Strays r o)

  knows_kept : (a : Actor) → is_own a ≡ true → knows_now g (happen g x (Strays r o)) a ≡ knows_now g x a
  knows_kept a own = ap (knows g.script (who a)) (by_own a own x.journal (length x.ends) r o)

  drawn_kept : ◌≡◌ {A = Who → List Drawn} (λ a. (knows_now g (happen g x (Strays r o)) (actor_of a)).drawn)
      (λ a. (knows_now g x (actor_of a)).drawn)
  drawn_kept = λ i a. (knows_kept (actor_of a) refl i).drawn

  scene_kept : scene_of opening (happen g x (Strays r o)) ≡ effect (scene_of opening x) r o
  scene_kept = scene_on opening x.journal (strange_entry (length x.ends) r o)

  ahead_kept : (xs : List EventEnd) → Ahead (happen g x (Strays r o)) xs → Ahead x xs
  ahead_kept xs a = record { rest = a.rest; is = a.is; going = a.going }

  all_kept : (xs : List EventEnd) → all_picks g.script opening (x.journal ++ strange_entry (length x.ends) r o ∷ []) xs ≡ all_picks g.script
      opening x.journal xs
  all_kept xs = picks_stay g.script opening x.journal (strange_entry (length x.ends) r o) xs (λ s. refl)

  picks_kept : (ps : List Pick) → ArePicksOf g opening x ps → ArePicksOf g opening (happen g x (Strays r o)) ps
  picks_kept ps h xs a = h xs (ahead_kept xs a) ∙ sym (all_kept xs)

  picked_kept : (q : Option (List Pick)) → HasPicked g opening x q → HasPicked g opening (happen g x (Strays r o)) q
  picked_kept None h = tt
  picked_kept (Some ps) h = picks_kept ps h

  put_by_kept : (ps : List Pick) → PutBy g opening x ps → PutBy g opening (happen g x (Strays r o)) ps
  put_by_kept ps h = record {
    none = h.none;
    first = λ c xs a. subst (ArePicked ps) (sym (all_kept xs)) (h.first c xs (ahead_kept xs a));
    all = λ c fine. picks_kept ps (h.all c fine);
  }

  module _ {W : Type 0} (is_of : Setting → Actor → W → Type 0) (running : Known → W → Running) (picks_of : W → Option (List Pick)) where
    hand_kept : (a : Actor) → is_own a ≡ true → (h : Hand W) → HandIs is_of running picks_of g opening x a h
        → HandIs is_of running picks_of g opening (happen g x (Strays r o)) a h
    hand_kept a own (Plan p) i = (i.0, subst (λ k. IsPlanOf g a k p) (sym (knows_kept a own)) i.1, i.2)
    hand_kept a own (At m) i = (i.0, (i.1.0 ∙ ap (λ k. Some (running k m)) (sym (knows_kept a own)), picked_kept (picks_of m) i.1.1))
    hand_kept a own Empty (inl lost) = inl (record { idle = lost.idle; wanting = lost.wanting; dead = lost.dead })
    hand_kept a own Empty (inr n) = inr n

-- ---- all requests of the event

module _ (g : Setting) (opening : Content) where
  abbrev strayed : Play → List Entry → Play
  strayed x [] = x
  strayed x (e ∷ es) = strayed (happen g x (Strays e.request e.outcome)) es

  happened_all : (n : ℕ) (es : List Entry) (x : Play) → Reachable g opening x → x.now ≡ None
      → AreForeign g.script (λ a. (knows_now g x (actor_of a)).drawn) n (scene_of opening x) es → Reachable g opening (strayed x es)
  happened_all n [] x h idle f = h
  happened_all n (e ∷ es) x h idle f =
      happened_all n es (happen g x (Strays e.request e.outcome)) (happens x (Strays e.request e.outcome) h
      (record { idle = idle; foreign = f.1; honest = f.2 })) idle
      (subst (λ (d : Who → List Drawn). AreForeign g.script d n (scene_of opening (happen g x (Strays e.request e.outcome))) es)
      (sym (drawn_kept g opening x e.request e.outcome))
      (subst (λ (s : Scene). AreForeign g.script (λ a. (knows_now g x (actor_of a)).drawn) n s es)
      (sym (scene_kept g opening x e.request e.outcome)) f.3))

  journal_all : (es : List Entry) (x : Play) → (strayed x es).journal ≡ x.journal ++ map (strange (length x.ends)) es
  journal_all [] x = sym (append-nil x.journal)
  journal_all (e ∷ es) x = journal_all es (happen g x (Strays e.request e.outcome)) ∙ append_assoc x.journal
      (strange (length x.ends) e ∷ []) (map (strange (length x.ends)) es)

  scene_all : (es : List Entry) (x : Play) → scene_of opening (strayed x es) ≡ after_all (scene_of opening x) es
  scene_all [] x = refl
  scene_all (e ∷ es) x = scene_all es (happen g x (Strays e.request e.outcome)) ∙ ap (λ s. after_all s es)
      (scene_kept g opening x e.request e.outcome)

  -- What a stranger's requests leave of a play as it was, besides the operations.
  record IsLeft (x y : Play) : Type 0 where
    ends : y.ends ≡ x.ends
    now : y.now ≡ x.now
    live : y.live ≡ x.live
    finished : y.finished ≡ x.finished

  -- What one such request keeps, all of them keep.
  strayed_keeps : (P : Play → Type 0) → ((x : Play) (r : Request) (o : Outcome) → P x → P (happen g x (Strays r o)))
      → (es : List Entry) (x : Play) → P x → P (strayed x es)
  strayed_keeps P one [] x h = h
  strayed_keeps P one (e ∷ es) x h = strayed_keeps P one es (happen g x (Strays e.request e.outcome)) (one x e.request e.outcome h)

eyes_strange : (mine : ℕ → Bool) (n k : ℕ) → mine n ≡ false → number_in mine n ≡ k
    → (w : _) (drawn : Who → List Drawn) (s : Scene) (es : List Entry) → AreForeign w drawn n s es → in_eyes mine es ≡ map (strange k) es
eyes_strange mine n k theirs number w drawn s [] f = refl
eyes_strange mine n k theirs number w drawn s (e ∷ es) f =
    (λ i. record { event = number_in mine (f.0 i); actor = cond (mine (f.0 i)) e.actor Shell; request = e.request; outcome = e.outcome } ∷
    in_eyes mine es)
    ∙ (λ i. record { event = number i; actor = cond (theirs i) e.actor Shell; request = e.request; outcome = e.outcome } ∷ eyes_strange mine
    n k theirs number w drawn
    (effect s e.request e.outcome) es f.3 i)

-- ---- a job

pub rests_beside : {W : Type 0} (wants : W → Option Request) (is_of : Setting → Actor → W → Type 0) (running : Known → W → Running)
    (picks_of : W → Option (List Pick)) → RestsBeside wants is_of running picks_of
rests_beside {W = W} wants is_of running picks_of b c q beside = subst (Quiet wants is_of running picks_of) (sym is) quiet
  where
    is : c ≡ record { side = b.side; shared = record c.shared { opening = b.shared.opening } }
    is = ap (λ (s : JobRun W). record { side = s; shared = c.shared }) beside.side ∙ ap
        (λ (o : Content). record { side = b.side; shared = record c.shared { opening = o } }) beside.opening

    idle : q.holds.play.now ≡ None
    idle = sym q.holds.now ∙ q.idle

    same : number_in (is_mine b.side.others.items) (b.shared.events + 1) ≡ length b.side.ends.items
    same = number_same (is_mine b.side.others.items) b.shared.events beside.theirs ∙ q.holds.counts

    foreign : AreForeign b.side.script (λ a. (knows_now (setting_of b) q.holds.play (actor_of a)).drawn) (b.shared.events + 1)
        (scene_of b.shared.opening q.holds.play) beside.part
    foreign =
        subst (λ (es : List Entry). AreForeign b.side.script (λ a.
        (knows b.side.script (who (actor_of a)) (by_actor (actor_of a) es)).drawn) (b.shared.events + 1)
        (scene_of b.shared.opening q.holds.play) beside.part) q.holds.journal
        (subst (λ (s : Scene). AreForeign b.side.script (λ a. (knows_of b (actor_of a)).drawn) (b.shared.events + 1) s beside.part)
        q.holds.scene beside.foreign)

    left : IsLeft (setting_of b) b.shared.opening q.holds.play (strayed (setting_of b) b.shared.opening q.holds.play beside.part)
    left =
        strayed_keeps (setting_of b) b.shared.opening (IsLeft (setting_of b) b.shared.opening q.holds.play)
        (λ x r o l. record { ends = l.ends; now = l.now; live = l.live; finished = l.finished }) beside.part q.holds.play
        (record { ends = refl; now = refl; live = refl; finished = refl })

    journal : in_eyes (is_mine b.side.others.items) c.shared.journal.entries ≡
        (strayed (setting_of b) b.shared.opening q.holds.play beside.part).journal
    journal =
        ap (in_eyes (is_mine b.side.others.items)) beside.appended ∙ map-append (entry_in (is_mine b.side.others.items))
        b.shared.journal.entries beside.part
        ∙ ap (λ es. es ++ in_eyes (is_mine b.side.others.items) beside.part) q.holds.journal
        ∙ ap (λ es. q.holds.play.journal ++ es) (eyes_strange (is_mine b.side.others.items) (b.shared.events + 1) (length q.holds.play.ends)
        beside.theirs (same ∙ ap length q.holds.ends) b.side.script _ b.shared.store.scene beside.part beside.foreign)
        ∙ sym (journal_all (setting_of b) b.shared.opening beside.part q.holds.play)

    quiet : Quiet wants is_of running picks_of (record { side = b.side; shared = record c.shared { opening = b.shared.opening } })
    quiet =
        let happened = happened_all (setting_of b) b.shared.opening (b.shared.events + 1) beside.part q.holds.play q.holds.happened idle
        foreign in
        let counts = ap (number_in (is_mine b.side.others.items)) beside.events ∙ same in
        let turn = never (IsTurn (record { side = b.side; shared = record c.shared { opening = b.shared.opening } })) b.side.event q.idle in
        let scene = beside.scene ∙ ap (λ s. after_all s beside.part) q.holds.scene ∙ sym
        (scene_all (setting_of b) b.shared.opening beside.part q.holds.play) in
        let stands = subst (Stands b.side.script b.side.states) (sym left.live) q.holds.stands in
        let then = strayed (setting_of b) b.shared.opening q.holds.play beside.part in
        let hands : HandsAre is_of running picks_of all_sound (setting_of b) b.shared.opening then b.side.hands.items =
        λ p a k s at hand. strayed_keeps (setting_of b) b.shared.opening (λ x. HandIs is_of running picks_of (setting_of b) b.shared.opening
        x a k)
        (λ x r o. hand_kept (setting_of b) b.shared.opening x r o is_of running picks_of a (own_at b.side.script p a at) k) beside.part
        q.holds.play
        (q.holds.hands p a k refl at hand) in
        let picks =
        strayed_keeps (setting_of b) b.shared.opening (λ x. PutBy (setting_of b) b.shared.opening x b.side.picks)
        (λ x r o. put_by_kept (setting_of b) b.shared.opening x r o b.side.picks) beside.part q.holds.play q.holds.picks in
        let ends = q.holds.ends ∙ sym left.ends in
        let now = q.holds.now ∙ sym left.now in
        let finished = q.holds.finished ∙ sym left.finished in
        search (happened, journal, ends, counts, turn, now, finished, scene, beside, stands, hands, picks, q)
