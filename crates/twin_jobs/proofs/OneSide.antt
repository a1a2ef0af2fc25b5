-- What a side between its events says of its job's run, and what an event of the other side leaves of it.
use Rattle.job_model.specs.Attempts.{Who, actor_of}
use Rattle.job_model.specs.JobScript.{Script}
use Rattle.job_model.specs.Known.{Drawn, Known}
use Rattle.job_model.specs.declared.ends.EventEnd.{EventEnd}
use Rattle.job_model.specs.declared.ends.Pick.{Pick}
use Rattle.job_protocol.specs.Knowledge.{knows}
use Rattle.job_protocol.specs.Operations.{Running, Setting, who}
use Rattle.job_safety.proofs.Ending.{ahead_none}
use Rattle.job_run.proofs.Beside.{rests_beside}
use Rattle.job_run.specs.Beside.{AreForeign}
use Rattle.job_run.specs.Events.{knows_of}
use Rattle.job_run.specs.Holds.{AreOf, Quiet, is_mine, setting_of}
use Rattle.job_run.specs.declared.body.Body.{Body}
use Rattle.job_run.specs.declared.body.Shared.{Shared}
use Rattle.job_spec.specs.Entries.{AreOwn}
use Rattle.job_spec.specs.Eyes.{in_eyes}
use Rattle.job_spec.specs.States.{times}
use Rattle.job_spec.specs.Turns.{by_actor}
use Rattle.script_steps.proofs.Parts.{take_whole}
use Rattle.script_steps.proofs.Running.{is_run}
use Rattle.script_steps.specs.Transitions.{Play}
use Rattle.protocol_runs.proofs.Changes.{after_parts, moment_scene}
use Rattle.protocol_runs.specs.Runs.{IsOpening, Runs, Stand}
use Rattle.s3_types.specs.Moment.{after_all}
use Rattle.s3_types.specs.Store.{Content, Scene}
use Rattle.s3_types.specs.declared.journal.Entry.{Entry}
use Rattle.s3_types.specs.declared.request.Actor.{Actor}
use Rattle.s3_types.specs.declared.request.Request.{Request}
use Rattle.std.proofs.Common.{Bool, List, None, Option, Some, ap, arith, false, length, not, refl, slice_get, subst, sym, true, ℕ, [], ◌++◌}
use Rattle.std.proofs.Common.{◌+◌, ◌∙◌, ◌∷◌, ◌≡◌, ◌≤◌}
use Rattle.std.proofs.lemmas.Option.{slice_get_within}
use Rattle.std.specs.List.{AllByRecursion}
use Rattle.twin_facts.specs.Sides.{IsTwinOpening, TwinRun, eyes}
use Rattle.twin_facts.specs.TwinLaws.{MayBeTwins}
use Rattle.twin_jobs.proofs.Eyes.{AreApart, actors, after_eyes, appended, by_first, first_eyes, foreign_by, own_on, second_eyes}
use Rattle.twin_jobs.proofs.Numbers.{mine_at, opposite, same_self}
use Rattle.twin_jobs.specs.Order.{other_of}
use Rattle.twin_jobs.specs.inner.Pairs.{IsAmong, RestsOne, RestsShared, over}
use Rattle.twin_jobs.specs.Worlds.{both_of, mine, setting}
use Rattle.twin_script.specs.declared.turns.Side.{Side}
use Rattle.s3_types.specs.Store as store
use Rattle.job_run.specs.declared.body.JobRun as body
use Rattle.twin_facts.specs.Sides as two
use Rattle.twin_facts.specs.Joined as joined
use Rattle.twin_facts.proofs.Joining as joining

-- ---- what both share

-- Two scripts that may share a destination may do so in the other order.
pub twins_turned : (w v : Script) → MayBeTwins w v → MayBeTwins v w
twins_turned w v m = record {
  first = m.second;
  second = m.first;
  twins = record
      { dest = sym m.twins.dest; jobs = λ e. m.twins.jobs (sym e) };
  keeps_first = m.keeps_second;
  keeps_second = m.keeps_first;
}

-- Each entry of an event that was played is of one side.
pub apart : (name : Side) (sides : List Side) (n : ℕ) (es : List Entry) → n ≤ length sides → AllByRecursion (IsAmong n) es
    → AreApart (mine sides name) (mine sides (other_of name)) es
apart name sides n [] few h = tt
apart name sides n (e ∷ es) few h = (opposite name e.event sides h.0.0 (omega (arith, h.0.1, few)), apart name sides n es few h.1)

pub among_more : (n : ℕ) (es fs : List Entry) → AllByRecursion (IsAmong n) es → AreOf (n + 1) fs
    → AllByRecursion (IsAmong (n + 1)) (es ++ fs)
among_more n [] [] h g = tt
among_more n [] (f ∷ fs) h g = ((omega (arith, g.0.0), omega (arith, g.0.0)), among_more n [] fs tt g.1)
among_more n (e ∷ es) fs h g = ((h.0.0, omega (arith, h.0.1)), among_more n es fs h.1 g)

-- What both sides share still holds after an event was played.
pub shared_more : (sides : List Side) (name : Side) (s t : Shared) (part : List Entry) → RestsShared sides s
    → slice_get sides s.events ≡ Some name → t.events ≡ s.events + 1 → t.journal.entries ≡ s.journal.entries ++ part
    → AreOf (s.events + 1) part → RestsShared sides t
shared_more sides name s t part r turn events more are = record {
  own = subst AreOwn (sym more) (own_on (s.events + 1) s.journal.entries part r.own are);
  among = subst (λ n. AllByRecursion (IsAmong n) t.journal.entries) (sym events)
      (subst (AllByRecursion (IsAmong (s.events + 1))) (sym more) (among_more s.events s.journal.entries part r.among are));
  few = omega (arith, events, slice_get_within sides s.events name turn);
  short = r.short;
}

module _ {W : Type 0} (wants : W → Option Request) (is_of : Setting → Actor → W → Type 0) (running : Known → W → Running)
    (picks_of : W → Option (List Pick)) where
  -- The store is as the whole journal leaves it.
  pub plain_scene : (b : Body W) → Quiet wants is_of running picks_of b
      → b.shared.store.scene ≡ after_all (store.opening b.shared.opening) b.shared.journal.entries
  plain_scene b q =
      q.holds.scene ∙ ap (after_all (store.opening b.shared.opening)) (take_whole q.holds.play.journal ∙ sym q.holds.journal)
      ∙ after_eyes (is_mine b.side.others.items) (store.opening b.shared.opening) b.shared.journal.entries

  -- ---- a side as a run of its job

  -- The run of a side's job, as the side reads the journal.
  pub record SideRun (sides : List Side) (name : Side) (s : body.JobRun W) (shared : Shared) : Type 0 where
    pub stand : Stand
    pub runs : Runs (setting s.script shared.opening) (times s.script s.ends.items) shared.opening
        (in_eyes (mine sides name) shared.journal.entries) stand
    pub scene : shared.store.scene ≡ stand.seen.scene
    pub drawn : ◌≡◌ {A = Who → List Drawn} (λ a. (knows_of (over s shared) (actor_of a)).drawn) stand.told.drawn

  -- A property of the play, said of the body.
  pub in_words : (P : Setting → List Entry → List EventEnd → Type 0) (sides : List Side) (name : Side) (s : body.JobRun W) (shared : Shared)
      (r : RestsOne wants is_of running picks_of sides name s shared)
      → P (setting_of (over s shared)) r.quiet.holds.play.journal r.quiet.holds.play.ends
      → P (setting s.script shared.opening) (in_eyes (mine sides name) shared.journal.entries) s.ends.items
  in_words P sides name s shared r h =
      let g : Bool → Setting = λ b. record { script = s.script; minimum = shared.opening.minimum; shared = b } in
      let es = shared.journal.entries in
      subst (λ b. P (g b) (in_eyes (mine sides name) es) s.ends.items) r.shares
      (subst (λ os. P (g s.shares) (in_eyes (is_mine os) es) s.ends.items) r.others
      (subst (λ l. P (g s.shares) l s.ends.items) (sym r.quiet.holds.journal)
      (subst (λ xs. P (g s.shares) r.quiet.holds.play.journal xs) (sym r.quiet.holds.ends) h)))

  pub idle : (b : Body W) (q : Quiet wants is_of running picks_of b) → q.holds.play.now ≡ None
  idle b q = sym q.holds.now ∙ q.idle

  pub side_run : (sides : List Side) (name : Side) (s : body.JobRun W) (shared : Shared)
      → RestsOne wants is_of running picks_of sides name s shared → SideRun sides name s shared
  side_run sides name s shared r =
      let q = r.quiet in
      let g : Setting = setting_of (over s shared) in
      let x : Play = q.holds.play in
      let run = is_run g shared.opening q.holds.legal q.holds.opens x q.holds.happened x.ends (ahead_none x (idle (over s shared) q)) in
      record {
        stand = run.stand;
        runs = in_words (λ g es xs. Runs g (times s.script xs) shared.opening es run.stand) sides name s shared r run.runs;
        scene = q.holds.scene ∙ moment_scene g (times s.script x.ends) shared.opening q.holds.legal q.holds.opens x.journal run.stand
            run.runs;
        drawn = λ i a. ((ap (λ es. knows s.script (who (actor_of a)) (by_actor (actor_of a) es)) q.holds.journal ∙ run.knows a) i).drawn;
      }

  -- ---- both sides as one run of two jobs

  opens_both : (w v : Script) (c : Content) → IsOpening (setting w c) c → IsTwinOpening (setting w c) (setting v c) c
  opens_both w v c o = record { shared_first = refl; shared_second = refl; first = refl; second = refl; fresh = o.fresh }

  opens_of : (sides : List Side) (name : Side) (s : body.JobRun W) (shared : Shared)
      → RestsOne wants is_of running picks_of sides name s shared → IsOpening (setting s.script shared.opening) shared.opening
  opens_of sides name s shared r = subst (λ b. IsOpening (record { script = s.script; minimum = shared.opening.minimum; shared = b })
      shared.opening) r.shares r.quiet.holds.opens

  pub twin_opening : (sides : List Side) (s t : body.JobRun W) (shared : Shared) (name : Side)
      → RestsOne wants is_of running picks_of sides name s shared
      → IsTwinOpening (setting s.script shared.opening) (setting t.script shared.opening) shared.opening
  twin_opening sides s t shared name r = opens_both s.script t.script shared.opening (opens_of sides name s shared r)

  module _ (sides : List Side) (name : Side) where
    abbrev own : ℕ → Bool
    own = mine sides name

    abbrev theirs : ℕ → Bool
    theirs = mine sides (other_of name)

    pub twin_run : (s t : body.JobRun W) (shared : Shared) → RestsShared sides shared
        → (a : SideRun sides name s shared) (b : SideRun sides (other_of name) t shared)
        → TwinRun (setting s.script shared.opening) (setting t.script shared.opening) (times s.script s.ends.items)
        (times t.script t.ends.items) shared.opening (both_of (mine sides name) (mine sides (other_of name)) shared.journal.entries)
        a.stand b.stand
    twin_run s t shared r a b =
        let g = setting s.script shared.opening in
        let h = setting t.script shared.opening in
        let es = shared.journal.entries in
        joining.joined g h (times s.script s.ends.items) (times t.script t.ends.items) shared.opening (both_of own theirs es)
        (actors own theirs es r.own) a.stand b.stand
        (subst (λ l. Runs g (times s.script s.ends.items) shared.opening l a.stand) (sym (first_eyes own theirs es)) a.runs)
        (subst (λ l. Runs h (times t.script t.ends.items) shared.opening l b.stand)
        (sym (second_eyes own theirs es (apart name sides shared.events es r.few r.among))) b.runs)

    -- ---- an event of the other side

    -- What one side sent in its event is foreign to the other side.
    pub foreign_to : (s s1 t : body.JobRun W) (old new : Shared) (part : List Entry) → MayBeTwins s1.script t.script → RestsShared sides new
        → RestsShared sides old → new.opening ≡ old.opening → new.journal.entries ≡ old.journal.entries ++ part
        → AreOf (old.events + 1) part → mine sides name (old.events + 1) ≡ true
        → (a : SideRun sides name s1 new) (opens : IsTwinOpening (setting s1.script old.opening) (setting t.script old.opening) old.opening)
        (b : SideRun sides (other_of name) t old)
        → AreForeign t.script (λ a. (knows_of (over t old) (actor_of a)).drawn) (old.events + 1) old.store.scene part
    foreign_to s s1 t old new part twins rn ro opening more are turn a opens b =
        let g = setting s1.script old.opening in
        let h = setting t.script old.opening in
        let k = times s1.script s1.ends.items in
        let l = times t.script t.ends.items in
        let es = old.journal.entries in
        let both : both_of own theirs (es ++ part) ≡ both_of own theirs es ++ both_of own theirs part = appended own theirs es part in
        let all = actors own theirs (es ++ part) (own_on (old.events + 1) es part ro.own are) in
        let moved : Runs g k old.opening (in_eyes own (es ++ part)) a.stand =
        subst (λ fs. Runs g k old.opening (in_eyes own fs) a.stand) more (subst
        (λ (c : Content). Runs (setting s1.script c) k c (in_eyes own new.journal.entries) a.stand) opening a.runs) in
        let mine_run = subst (λ q. Runs g k old.opening q a.stand) (sym (first_eyes own theirs (es ++ part))) moved in
        let their_run = subst (λ q. Runs h l old.opening q b.stand) (sym
        (second_eyes own theirs es (apart name sides old.events es ro.few ro.among))) b.runs in
        let f = joining.foreign_on g h twins k l old.opening opens (both_of own theirs es) (both_of own theirs part)
        (subst joined.AreActors both all) (by_first own theirs (old.events + 1) turn part are) a.stand b.stand
        (subst (λ q. Runs g k old.opening (eyes two.First q) a.stand) both mine_run) their_run in
        subst (λ (d : Who → List Drawn). AreForeign t.script d (old.events + 1) old.store.scene part) (sym b.drawn)
        (subst (λ (c : Scene). AreForeign t.script b.stand.told.drawn (old.events + 1) c part) (sym b.scene)
        (foreign_by own theirs t.script b.stand.told.drawn (old.events + 1) b.stand.seen.scene part are f))

    -- So what the other side keeps between its events stays.
    pub stays_beside : (s s1 t : body.JobRun W) (old new : Shared) (part : List Entry) → MayBeTwins s1.script t.script
        → RestsShared sides new
        → RestsShared sides old → new.opening ≡ old.opening → new.events ≡ old.events + 1
        → new.journal.entries ≡ old.journal.entries ++ part → AreOf (old.events + 1) part → slice_get sides old.events ≡ Some name
        → Quiet wants is_of running picks_of (over s old) → RestsOne wants is_of running picks_of sides name s1 new
        → RestsOne wants is_of running picks_of sides (other_of name) t old → Quiet wants is_of running picks_of (over t new)
    stays_beside s s1 t old new part twins rn ro opening events more are turn q a b =
        let own_turn : mine sides name (old.events + 1) ≡ true = mine_at name name old.events sides turn ∙ same_self name in
        let inside = slice_get_within sides old.events name turn in
        let some : 1 ≤ old.events + 1 = omega arith in
        let few : old.events + 1 ≤ length sides = omega (arith, inside) in
        let not_theirs : mine sides (other_of name) (old.events + 1) ≡ false = opposite name (old.events + 1) sides some few ∙ ap not
        own_turn in
        let n = a.quiet.holds in
        let theirs_not = ap (λ os. is_mine os (old.events + 1)) b.others ∙ not_theirs in
        let opens = opens_both s1.script t.script old.opening (subst (λ (c : Content). IsOpening (setting s1.script c) c) opening
        (opens_of sides name s1 new a)) in
        let foreign = foreign_to s s1 t old new part twins rn ro opening more are own_turn (side_run sides name s1 new a) opens
        (side_run sides (other_of name) t old b) in
        let scene =
        plain_scene (over s1 new) a.quiet ∙ ap (λ (c : Content). after_all (store.opening c) new.journal.entries) opening ∙ ap
        (after_all (store.opening old.opening)) more
        ∙ after_parts (store.opening old.opening) old.journal.entries part ∙ ap (λ c. after_all c part) (sym (plain_scene (over s old) q))
        in
        rests_beside wants is_of running picks_of (over t old) (over t new) b.quiet
        (search (opening, theirs_not, events, more, foreign, scene, n))
