-- What the driver has picked when it begins another operation.
use Rattle.text_and_lists.proofs.Members.{false_true, true_or_false}
use Rattle.job_actor.specs.Picks.{ArePicksOf, HasPicked, PicksGo, is_committing, is_job_commit}
use Rattle.job_model.specs.Known.{Known}
use Rattle.job_model.specs.Legal.{IsLegal}
use Rattle.job_model.specs.declared.ends.EventEnd.{EventEnd}
use Rattle.job_model.specs.declared.ends.Pick.{Pick}
use Rattle.job_model.specs.declared.events.Event.{Event}
use Rattle.job_model.specs.declared.events.Event.TheVariants.{Do, Start}
use Rattle.job_model.specs.declared.events.Op.{Op}
use Rattle.job_protocol.proofs.Begun.{clean_of_so, commit_of_so}
use Rattle.job_protocol.specs.Operations.{Reports, Running, Setting, start_of}
use Rattle.job_safety.proofs.Ending.{ahead_none}
use Rattle.job_run.proofs.Kept.{begins_by, picks_of_kept}
use Rattle.job_run.specs.Events.{picks_in}
use Rattle.job_run.specs.inner.Events.{BeginsBy}
use Rattle.job_run.specs.Holds.{HandIs, PutBy}
use Rattle.job_run.specs.declared.hands.Hand.{Hand}
use Rattle.job_run.specs.declared.hands.Hand.TheVariants.{At, Empty, Plan}
use Rattle.job_spec.specs.Promise.{ArePicked, all_picks, lacked_memory}
use Rattle.job_spec.specs.States.{Decided, Past, begins_commit, commit_begun, open_event, reports}
use Rattle.script_steps.proofs.Actors.{put_here}
use Rattle.script_steps.proofs.Running.{opened_ahead}
use Rattle.script_steps.specs.Running.{Ahead}
use Rattle.script_steps.specs.Transitions.{MayOpen, Opens, Play, Reachable, begun, happen, knows_now, open_running}
use Rattle.protocol_runs.specs.Runs.{IsOpening}
use Rattle.s3_types.specs.Store.{Content}
use Rattle.s3_types.specs.declared.request.Actor.{Actor}
use Rattle.s3_types.specs.declared.request.Actor.TheVariants.{Attempt, Driver}
use Rattle.std.proofs.Common.{List, None, Option, Some, ap, append-nil, false, inl, inr, refl, subst, sym, true, [], ◌++◌, ◌∙◌, ◌∷◌, ◌≡◌}
use Rattle.std.specs.Prelude.{is_some, unwrap_or}
use Rattle.job_model.specs.declared.events.Op.TheVariants as ops

-- The operation that an actor has begun then.
pub begun_running : (g : Setting) (x : Play) (ev : Event) (a : Actor) (op : Op) → BeginsBy ev a op
    → open_running g x ev a ≡ begun (start_of g a op (reports g.script x.past.reported) (knows_now g x a)) (knows_now g x a)
begun_running g x =
    begins_by (λ ev a op. open_running g x ev a ≡ begun (start_of g a op (reports g.script x.past.reported) (knows_now g x a))
    (knows_now g x a))
    (λ a op. put_here x.running a _ a refl) (λ a op. put_here x.running a _ a refl)

-- Only the driver's commit is the job's commit.
pub commit_begins : (g : Setting) (a : Actor) (op : Op) (m : Reports) (k l : Known) → is_committing (begun (start_of g a op m k) l) ≡ true
    → (a ≡ Driver) × (op ≡ ops.Commit)
commit_begins g Driver ops.Commit m k l h = (refl, refl)
commit_begins g Driver ops.Abort m k l h = absurd (false_true (clean_of_so g (λ o. is_job_commit o ≡ false) refl refl) h)
commit_begins g Driver ops.Clean m k l h = absurd (false_true (clean_of_so g (λ o. is_job_commit o ≡ false) refl refl) h)
commit_begins g (Attempt t n) ops.Setup m k l h = absurd (false_true refl h)
commit_begins g _ _ m k l h = absurd (false_true refl h)

pub begins_it : (ev : Event) (a : Actor) (op : Op) → BeginsBy ev a op → a ≡ Driver → op ≡ ops.Commit → begins_commit ev ≡ true
begins_it =
    begins_by (λ ev a op. a ≡ Driver → op ≡ ops.Commit → begins_commit ev ≡ true) (λ a op d c. λ i. begins_commit (Do (d i) (c i)))
    (λ a op d c. λ i. begins_commit (Start (d i) (c i)))

-- Another operation of the driver changes nothing about what became of the commit.
not_committing : (g : Setting) (op : Op) (m : Reports) (k l : Known) → is_committing (begun (start_of g Driver op m k) l) ≡ false
    → (d : Decided) → commit_begun Driver op d ≡ d
not_committing g ops.Commit m k l h d = absurd (false_true h (commit_of_so g (λ o. is_job_commit o ≡ true) (λ t. refl) (λ t. refl) m))
not_committing g _ m k l h d = refl

opened_commit : (g : Setting) (p : Past) (ev : Event) (op : Op) → BeginsBy ev Driver op
    → (open_event g.script p ev).commit ≡ commit_begun Driver op p.commit
opened_commit g p ev op = begins_by (λ ev a op. (open_event g.script p ev).commit ≡ commit_begun a op p.commit) (λ a op. refl)
    (λ a op. refl) ev Driver op

none_of : (ps all : List Pick) → ArePicked ps all → all ≡ [] → ps ≡ []
none_of [] all h e = refl
none_of (p ∷ ps) all h e = absurd (no_pick p (ps ++ h.0) (h.1 ∙ e))
  where
    no_pick : (p : Pick) (qs : List Pick) → p ∷ qs ≡ [] → ⊥
    no_pick p qs k = cc

module _ (g : Setting) (opening : Content) (x : Play) (ev : Event) (idle : x.now ≡ None) where
  abbrev y : Play
  y = happen g x (Opens ev)

  pub later_picks : (ps : List Pick) → ArePicksOf g opening x ps → ArePicksOf g opening y ps
  later_picks ps h = picks_of_kept g opening x y refl (λ xs. opened_ahead g x ev xs idle) ps h

-- ---- what the driver has picked between events

module _ (g : Setting) (opening : Content) (x : Play) where
  -- These picks are as those put by must be if the driver is running another operation than the commit.
  pub record Put (qs : List Pick) : Type 0 where
    pub first : (xs : List EventEnd) → Ahead x xs → ArePicked qs (all_picks g.script opening x.journal xs)
    pub all : lacked_memory x.live.commit ≡ false → ArePicksOf g opening x qs

  module _ {W : Type 0} (is_of : Setting → Actor → W → Type 0) (running : Known → W → Running) (picks_of : W → Option (List Pick))
      (has_picks : (k : Known) (work : W) → is_some (picks_of work) ≡ is_job_commit (running k work).operation) (ps : List Pick)
      (old : PutBy g opening x ps) where
    -- The driver was running another operation.
    other_put : is_committing (x.running Driver) ≡ false → Put ps
    other_put f = record { first = old.first f; all = old.all f }

    pub hand_put : (h : Hand W) → HandIs is_of running picks_of g opening x Driver h → Put (picks_in picks_of ps (Some h))
    hand_put (Plan p) k = absurd (k.2 refl)
    hand_put (At m) k = (elim (picks_of m) as (λ o. picks_of m ≡ o → HasPicked g opening x o → Put (unwrap_or o ps)) [
      | Some qs ↦ λ e picked. record { first = λ xs a. ([], append-nil qs ∙ picked xs a); all = λ m. picked }
      | None ↦ λ e picked. other_put (ap is_committing k.1.0 ∙ sym (has_picks (knows_now g x Driver) m) ∙ ap
          (λ (o : Option (List Pick)). is_some o) e)
    ]) refl k.1.1
    hand_put Empty (inl lost) = elim (true_or_false (is_committing (x.running Driver))) [
      | inl t ↦
          record {
            first = λ xs a. (
              all_picks g.script opening x.journal xs,
              ap (λ qs. qs ++ all_picks g.script opening x.journal xs)
                  (old.none t),
            );
            all = λ m. absurd (false_true m (lost.wanting refl t));
          }
      | inr f ↦ other_put f
    ]
    hand_put Empty (inr k) = other_put (ap is_committing k.1)

module _ {W : Type 0} (is_of : Setting → Actor → W → Type 0) (running : Known → W → Running) (picks_of : W → Option (List Pick))
    (has_picks : (k : Known) (work : W) → is_some (picks_of work) ≡ is_job_commit (running k work).operation)
    (go : PicksGo) (g : Setting) (opening : Content) (x : Play) (legal : IsLegal g.script) (opens : IsOpening g opening)
    (run : Reachable g opening x) (ev : Event) (may : MayOpen g x ev None) (live : x.live ≡ x.past) where
  idle : x.now ≡ None
  idle = may.idle

  pub nothing_before : begins_commit ev ≡ true → ArePicksOf g opening x []
  nothing_before begins = go.none_before g opening x legal opens run ev begins may

  -- A commit that begins has picked nothing, and the journal shows no pick then.
  pub picked_then : (a : Actor) (op : Op) (work : W) (k : Known) → BeginsBy ev a op
      → (happen g x (Opens ev)).running a ≡ Some (running k work) → ((ps : List Pick) → picks_of work ≡ Some ps → ps ≡ [])
      → HasPicked g opening (happen g x (Opens ev)) (picks_of work)
  picked_then a op work k begins at nothing = by (picks_of work) refl
    where
      by : (o : Option (List Pick)) → picks_of work ≡ o → HasPicked g opening (happen g x (Opens ev)) o
      by None e = tt
      by (Some ps) e =
          let committing : is_committing ((happen g x (Opens ev)).running a) ≡ true = ap is_committing at ∙ sym (has_picks k work) ∙ ap
          (λ (o : Option (List Pick)). is_some o) e in
          let it = commit_begins g a op (reports g.script x.past.reported) (knows_now g x a) (knows_now g x a)
          (sym (ap is_committing (begun_running g x ev a op begins)) ∙ committing) in
          subst (ArePicksOf g opening (happen g x (Opens ev))) (sym (nothing ps e))
          (later_picks g opening x ev idle [] (nothing_before (begins_it ev a op begins it.0 it.1)))

  -- ---- the picks put by when the driver begins an operation

  module _ (op : Op) (begins : BeginsBy ev Driver op) (ps : List Pick) (old : PutBy g opening x ps) where
    committing_is : is_committing ((happen g x (Opens ev)).running Driver) ≡ is_committing
        (begun (start_of g Driver op (reports g.script x.past.reported) (knows_now g x Driver)) (knows_now g x Driver))
    committing_is = ap is_committing (begun_running g x ev Driver op begins)

    put_then : (qs : List Pick) → Put g opening x qs → PutBy g opening (happen g x (Opens ev)) qs
    put_then qs put = record {
      none = λ t.
          let it = commit_begins g Driver op (reports g.script x.past.reported) (knows_now g x Driver) (knows_now g x Driver)
          (sym committing_is ∙ t) in
          none_of qs _ (put.first x.ends (ahead_none x idle)) (sym
          (nothing_before (begins_it ev Driver op begins refl it.1) x.ends (ahead_none x idle)));
      first = λ f xs a. put.first xs (opened_ahead g x ev xs idle a);
      all = λ f m.
          let same : x.live.commit ≡ (happen g x (Opens ev)).live.commit = ap (λ (p : Past). p.commit) live ∙ sym
          (opened_commit g x.past ev op begins ∙ not_committing g op _ _ _ (sym committing_is ∙ f) x.past.commit) in
          later_picks g opening x ev idle qs (put.all (ap lacked_memory same ∙ m));
    }

    pub put_by_driver : (h : Hand W) → HandIs is_of running picks_of g opening x Driver h
        → PutBy g opening (happen g x (Opens ev)) (picks_in picks_of ps (Some h))
    put_by_driver h k = put_then (picks_in picks_of ps (Some h)) (hand_put g opening x is_of running picks_of has_picks ps old h k)
