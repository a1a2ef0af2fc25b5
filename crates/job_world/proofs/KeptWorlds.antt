-- A world keeps, between its events, what is promised of its job.
use Rattle.job_model.specs.JobScript.{Script}
use Rattle.job_model.specs.Known.{Known}
use Rattle.job_model.specs.declared.ends.EventEnd.{EventEnd}
use Rattle.job_model.specs.declared.ends.Pick.{Pick}
use Rattle.job_model.specs.declared.events.Event.{Event}
use Rattle.job_protocol.specs.Operations.{Running, Setting}
use Rattle.job_safety.proofs.Facts.{runs_hold_facts}
use Rattle.job_safety.proofs.Kept.{runs_are_kept}
use Rattle.job_safety.specs.RunsKeep.{FactsHold}
use Rattle.job_run.proofs.KeptSides.{AreTold, HasPicks, told as told_of}
use Rattle.job_run.proofs.Moments.{stands_of}
use Rattle.job_run.proofs.Seen.{foretold_as}
use Rattle.job_run.specs.Events.{Grown, IsAsBefore, picks_in}
use Rattle.job_run.specs.Firsts.{IsFirstShared, IsFirstSide}
use Rattle.job_run.specs.Holds.{AreOf, IsTurn, Quiet, all_sound, is_mine, setting_of}
use Rattle.job_run.specs.declared.body.Body.{Body}
use Rattle.job_run.specs.declared.body.Shared.{Shared}
use Rattle.job_soundness.proofs.Safe.{runs_are_safe}
use Rattle.job_soundness.specs.Safe.{ReadersSafe}
use Rattle.job_spec.proofs.Told.{alone}
use Rattle.job_spec.specs.Entries.{AreOwn}
use Rattle.job_spec.specs.Eyes.{in_eyes, number_in}
use Rattle.job_spec.specs.Promise.{Finished, Promised, Sent, all_picks, lacked_memory}
use Rattle.job_spec.specs.States.{Past, past}
use Rattle.job_states.specs.Stands.{Stands}
use Rattle.script_steps.proofs.Played.{happenings_play}
use Rattle.script_steps.specs.StepsPlay.{IsPlayed}
use Rattle.script_steps.specs.Transitions.{Play}
use Rattle.job_world.specs.inner.Alone.{IsAlone, Rests}
use Rattle.job_world.specs.Worlds.{Keeps, Run, WentOn, begun, run_of}
use Rattle.s3_types.specs.Fates.{fate_at}
use Rattle.s3_types.specs.Moment.{IsHonest, moment}
use Rattle.s3_types.specs.Store.{Content}
use Rattle.s3_types.specs.declared.journal.Entry.{Entry}
use Rattle.s3_types.specs.declared.request.Actor.{Actor}
use Rattle.s3_types.specs.declared.request.Request.{Request}
use Rattle.std.proofs.Common.{Bool, List, None, Option, Some, ap, arith, false, length, refl, slice_get, subst, suc, sym, true, zero, ℕ, []}
use Rattle.std.proofs.Common.{◌++◌, ◌+◌, ◌∙◌, ◌∷◌, ◌≡◌}
use Rattle.std.proofs.lemmas.Option.{slice_get_within}
use Rattle.std.specs.List.{AllByRecursion}
use Rattle.std.specs.Prelude.{Err, Ok, OnErr, OnOk, Result}

number_alone : (n : ℕ) → number_in (λ m. true) n ≡ n
number_alone zero = refl
number_alone (suc n) = let h : number_in (λ m. true) n ≡ n = number_alone n in omega arith

module _ {W : Type 0} (wants : W → Option Request) (is_of : Setting → Actor → W → Type 0) (running : Known → W → Running)
    (picks_of : W → Option (List Pick)) (b : Body W) (r : Rests wants is_of running picks_of b) where
  abbrev q : Quiet wants is_of running picks_of b
  q = r.quiet

  abbrev play : Play
  play = q.holds.play

  idle : play.now ≡ None
  idle = sym q.holds.now ∙ q.idle

  played : IsPlayed (setting_of b) b.shared.opening play
  played = happenings_play (setting_of b) b.shared.opening play q.holds.legal q.holds.happened idle

  -- The journal as the job reads it is the journal itself.
  journal_is : b.shared.journal.entries ≡ q.holds.play.journal
  journal_is = sym (ap (λ os. in_eyes (is_mine os) b.shared.journal.entries) r.alone.others ∙ alone b.shared.journal.entries) ∙
      q.holds.journal

  pub scene_is : b.shared.store.scene ≡ moment b.shared.opening b.shared.journal.entries (length b.shared.journal.entries)
  scene_is = q.holds.scene ∙ ap (λ es. moment b.shared.opening es (length es)) (sym journal_is)

  -- As many events were played as have their ends.
  pub counts_is : b.shared.events ≡ length b.side.ends.items
  counts_is = sym (ap (λ os. number_in (is_mine os) b.shared.events) r.alone.others ∙ number_alone b.shared.events) ∙ q.holds.counts

  pub its_turn : (ev : Event) → slice_get b.side.script.events (length b.side.ends.items) ≡ Some ev → IsTurn b
  its_turn ev next =
      let within = slice_get_within b.side.script.events (length b.side.ends.items) ev next in
      let few = q.holds.legal.few_events in
      let same = counts_is in
      record { mine = ap (λ os. is_mine os (b.shared.events + 1)) r.alone.others; few = omega arith }

  -- The states in the play are those that follow from the ends.
  past_is : play.live ≡ past b.side.script b.side.ends.items
  past_is = played.live ∙ played.past ∙ ap (past b.side.script) (sym q.holds.ends)

  pub state_is : {S : Type 0} (read : Past → S) (result : S) → ((p : Past) → Stands b.side.script b.side.states p → result ≡ read p)
      → result ≡ read (past b.side.script b.side.ends.items)
  state_is read result h = h (past b.side.script b.side.ends.items) (stands_of is_of running picks_of all_sound b q.holds q.idle)

  module _ (has : HasPicks running picks_of) where
    told : AreTold q.holds.play (all_picks b.side.script b.shared.opening q.holds.play.journal q.holds.play.ends)
        (picks_in picks_of b.side.picks (slice_get b.side.hands.items 0))
    told = told_of wants is_of running picks_of b q has

    promised : Promised b.side.script b.shared.opening b.shared.journal.entries
        (picks_in picks_of b.side.picks (slice_get b.side.hands.items 0)) b.side.ends.items
    promised =
        let ps : List Pick = picks_in picks_of b.side.picks (slice_get b.side.hands.items 0) in
        subst (λ es. Promised b.side.script b.shared.opening es ps b.side.ends.items) (sym journal_is)
        (subst (λ xs. Promised b.side.script b.shared.opening play.journal ps xs) (sym q.holds.ends)
        (runs_are_kept (setting_of b) r.alone.shares b.shared.opening play q.holds.legal q.holds.opens q.holds.happened idle ps told.first))

    sent : Sent b.side.script b.shared.opening b.shared.journal.entries
    sent = record {
      honest = subst (IsHonest b.shared.opening) (sym journal_is) played.honest;
      fated = foretold_as (λ n. Some (fate_at b.shared.store.fates n)) (λ n. Some (fate_at b.side.script.fates n)) 1
          b.shared.journal.entries (λ n. ap (λ f. Some f) (sym (r.alone.fates n))) q.holds.fated;
    }

    own : AreOwn b.shared.journal.entries
    own = r.alone.own

    facts : FactsHold b.side.script b.shared.opening b.shared.journal.entries b.side.ends.items
    facts =
        subst (λ es. FactsHold b.side.script b.shared.opening es b.side.ends.items) (sym journal_is)
        (subst (λ xs. FactsHold b.side.script b.shared.opening play.journal xs) (sym q.holds.ends)
        (runs_hold_facts (setting_of b) b.shared.opening play q.holds.legal q.holds.opens q.holds.happened idle))

    readers_safe : ReadersSafe b.side.script b.shared.opening b.shared.journal.entries b.side.ends.items
    readers_safe =
        subst (λ es. ReadersSafe b.side.script b.shared.opening es b.side.ends.items) (sym journal_is)
        (subst (λ xs. ReadersSafe b.side.script b.shared.opening play.journal xs) (sym q.holds.ends)
        (runs_are_safe (setting_of b) b.shared.opening play q.holds.legal q.holds.opens q.holds.happened idle))

    whole : lacked_memory (past b.side.script b.side.ends.items).commit ≡ false
        → picks_in picks_of b.side.picks (slice_get b.side.hands.items 0) ≡ all_picks b.side.script b.shared.opening
        b.shared.journal.entries b.side.ends.items
    whole l =
        told.whole (ap (λ (p : Past). lacked_memory p.commit) past_is ∙ l)
        ∙ ap (λ es. all_picks b.side.script b.shared.opening es play.ends) (sym journal_is)
        ∙ ap (all_picks b.side.script b.shared.opening b.shared.journal.entries) (sym q.holds.ends)

    pub keeps : (stuck : Bool) → Keeps (run_of picks_of b stuck)
    keeps stuck = record { promised = promised; whole = whole; own = own; sent = sent; facts = facts; readers_safe = readers_safe }

    pub finished : length b.side.ends.items ≡ length b.side.script.events
        → Finished b.side.script b.shared.opening b.shared.journal.entries (picks_in picks_of b.side.picks (slice_get b.side.hands.items 0))
        b.side.ends.items
    finished e = record { promised = promised; sent = sent; events = e; picks = whole }

-- ---- an event

own_more : (n : ℕ) (es fs : List Entry) → AreOwn es → AreOf n fs → AreOwn (es ++ fs)
own_more n [] [] h g = tt
own_more n [] (f ∷ fs) h g = (g.0.1, own_more n [] fs tt g.1)
own_more n (e ∷ es) fs h g = (h.0, own_more n es fs h.1 g)

numbered : (n m : ℕ) (es : List Entry) → n ≡ m → AreOf n es → AllByRecursion (λ e. e.event ≡ m) es
numbered n m [] same h = tt
numbered n m (e ∷ es) same h = (h.0.0 ∙ same, numbered n m es same h.1)

module _ {W : Type 0} (picks_of : W → Option (List Pick)) (b c : Body W) where
  pub went_on : (stuck : Bool) → b.shared.events ≡ length b.side.ends.items → Grown b c
      → WentOn (run_of picks_of b stuck) (run_of picks_of c stuck)
  went_on stuck counts g = record {
    script = g.stays.script;
    opening = g.stays.opening;
    end = g.end;
    ends = g.ends;
    more = (g.more.0, g.more.1, numbered (b.shared.events + 1) (length b.side.ends.items + 1) g.more.0 (ap (λ n. n + 1) counts) g.more.2);
    stuck = refl;
  }

  pub still_alone : IsAlone b → Grown b c → IsAlone c
  still_alone a g = record {
    others = ap (λ v. v.items) g.stays.others ∙ a.others;
    shares = g.stays.shares ∙ a.shares;
    own = subst AreOwn (sym g.more.1) (own_more (b.shared.events + 1) b.shared.journal.entries g.more.0 a.own g.more.2);
    fates = λ n. g.stays.fates n ∙ a.fates n ∙ ap (λ (w : Script). fate_at w.fates n) (sym g.stays.script);
  }

  pub alone_before : IsAlone b → IsAsBefore b c → IsAlone c
  alone_before a h = record {
    others = ap (λ v. v.items) h.others ∙ a.others;
    shares = h.shares ∙ a.shares;
    own = subst (λ (v : Shared). AreOwn v.journal.entries) (sym h.shared) a.own;
    fates = λ n. ap (λ (v : Shared). fate_at v.store.fates n) h.shared ∙ a.fates n ∙ ap (λ (w : Script). fate_at w.fates n) (sym h.script);
  }

  pub alone_after : {T E : Type 0} (r : Result T E) → IsAlone b → OnOk r (Grown b c) → OnErr r (IsAsBefore b c) → IsAlone c
  alone_after (Ok x) a grown err = still_alone a grown
  alone_after (Err e) a grown err = alone_before a err

-- ---- nothing has happened

abbrev run_with : Script → Content → List Entry → List Pick → List EventEnd → Run
run_with w c es ps xs = record { script = w; opening = c; journal = es; picks = ps; ends = xs; stuck = false }

pub seen : {W : Type 0} (picks_of : W → Option (List Pick)) (w : Script) (c : Content) (b : Body W) → b.side.script ≡ w
    → b.shared.opening ≡ c → IsFirstSide c.minimum b.side → IsFirstShared b.side.script b.shared → run_of picks_of b false ≡ begun w c
seen picks_of w c b script opening side shared =
    let hand : picks_in picks_of b.side.picks (slice_get b.side.hands.items 0) ≡ b.side.picks = ap
    (λ hs. picks_in picks_of b.side.picks (slice_get hs 0)) side.hands in
    ap (λ v. run_with v b.shared.opening b.shared.journal.entries (picks_in picks_of b.side.picks (slice_get b.side.hands.items 0))
    b.side.ends.items) script
    ∙ ap (λ v. run_with w v b.shared.journal.entries (picks_in picks_of b.side.picks (slice_get b.side.hands.items 0)) b.side.ends.items)
    opening
    ∙ ap (λ es. run_with w c es (picks_in picks_of b.side.picks (slice_get b.side.hands.items 0)) b.side.ends.items) shared.journal
    ∙ ap (λ ps. run_with w c [] ps b.side.ends.items) (hand ∙ side.picks)
    ∙ ap (run_with w c [] []) side.ends

pub first_alone : {W : Type 0} (b : Body W) → b.side.others.items ≡ [] → b.side.shares ≡ false → IsFirstShared b.side.script b.shared
    → IsAlone b
first_alone b others shares shared = record {
  others = others;
  shares = shares;
  own = subst AreOwn (sym shared.journal) tt;
  fates = λ n. ap
      (λ s. fate_at s.fates n) shared.store;
}
