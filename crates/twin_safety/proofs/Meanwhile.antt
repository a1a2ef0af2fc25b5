-- While the driver's abort or clean goes on, and after its end until the event is over, what happens in the run is an abort or clean that
-- goes on request by request.
use Rattle.text_and_lists.proofs.Members.{none_some, some_is, true_or_false}
use Rattle.text_and_lists.proofs.Naturals.{at_most_is, at_most_not}
use Rattle.job_invariant.specs.Foreign.{IsForeign}
use Rattle.job_invariant.specs.Told.{driver_entry, strange_entry}
use Rattle.job_model.specs.Legal.{IsLegal}
use Rattle.job_model.specs.declared.ends.EventEnd.{EventEnd}
use Rattle.job_model.specs.declared.ends.EventEnd.TheVariants.{Refused}
use Rattle.job_model.specs.declared.events.Event.{Event}
use Rattle.job_model.specs.declared.events.Op.{Op}
use Rattle.job_protocol.specs.Cleanups.{clean_start}
use Rattle.job_protocol.specs.Operations.{Setting, TheClean, TheSparing, asks, clean_of, tells, who}
use Rattle.job_protocol.specs.Seen.{Times, is_begun}
use Rattle.job_protocol.specs.Sparing.{Sparing, sparing_after, sparing_start}
use Rattle.job_safety.proofs.History.{Began, IsBegin, Later, Meanwhile, at_once, had_strayed, later, nothing_since, was_sent, was_silent}
use Rattle.job_safety.proofs.Timed.{begins_at}
use Rattle.job_spec.specs.States.{Doing, is_new, needs_set, times}
use Rattle.job_spec.specs.Turns.{AllBy, AllUpTo, is_own, own, until}
use Rattle.script_steps.proofs.Actors.{put_here}
use Rattle.script_steps.proofs.Parts.{until_all, until_late, up_to_last, up_to_more}
use Rattle.script_steps.proofs.Running.{carried, is_run, number, sent_ahead, strayed_ahead}
use Rattle.script_steps.proofs.RunningAlong.{told_known}
use Rattle.script_steps.proofs.RunningNumbers.{begun_at}
use Rattle.script_steps.proofs.RunningStages.{IsTimed}
use Rattle.script_steps.proofs.Told.{told_all}
use Rattle.script_steps.specs.Running.{Ahead, IsRun, operation_of}
use Rattle.script_steps.specs.Transitions.{Closes, Finishes, MaySend, MayStray, Opens, Play, Reachable, Refuses, Sends, Strays, happen}
use Rattle.script_steps.specs.Transitions.{hear}
use Rattle.script_steps.specs.Transitions.{open_running}
use Rattle.protocol_runs.proofs.Changes.{moment_scene}
use Rattle.protocol_runs.specs.Runs.{BeginClean, IsOpening, IsTimely, Runs, Stand, actor_begins, begin, is_set, nothing_learnt, saw, strays}
use Rattle.retries.specs.Retries.{Retried, fresh, step}
use Rattle.s3_types.specs.Answer.{answer}
use Rattle.s3_types.specs.Moment.{IsHonestOutcome, moment}
use Rattle.s3_types.specs.Store.{Content, Scene}
use Rattle.s3_types.specs.declared.journal.Entry.{Entry}
use Rattle.s3_types.specs.declared.journal.Outcome.{Outcome}
use Rattle.s3_types.specs.declared.request.Actor.TheVariants.{Driver, Shell}
use Rattle.s3_types.specs.declared.request.Request.{Request}
use Rattle.std.proofs.Common.{List, Some, ap, arith, cond, false, inl, inr, length, length-append, nat_le, refl, subst, sym, true, ℕ, []}
use Rattle.std.proofs.Common.{◌++◌, ◌+◌, ◌<◌, ◌^◌, ◌∙◌, ◌∷◌, ◌≡◌, ◌≤◌, ◌⊎◌}
use Rattle.twin_facts.proofs.OneSide.{goes_on}
use Rattle.twin_facts.specs.Sides.{driver_saw}
use Rattle.twin_facts.specs.Spared.{SparesOn, it_sends, other_sends, spares_begin}
use Rattle.job_model.specs.declared.events.Op.TheVariants as ops
use Rattle.twin_facts.specs.Sides as sides

-- ---- the actors of these entries

-- If all of the job's own entries are the driver's, so is the last one, if it is the job's.
own_last : (es : List Entry) (e : Entry) → AllBy Driver (own (es ++ e ∷ [])) → AllBy Driver (own es)
    × (is_own e.actor ≡ true → e.actor ≡ Driver)
own_last [] e all = (tt, λ mine. (subst (λ b. AllBy Driver (cond b (e ∷ []) [])) mine all).0)
own_last (x ∷ es) e all =
    (elim (is_own x.actor) as (λ b. AllBy Driver (cond b (x ∷ own (es ++ e ∷ [])) (own (es ++ e ∷ [])))
    → AllBy Driver (cond b (x ∷ own es) (own es)) × (is_own e.actor ≡ true → e.actor ≡ Driver)) [
      | true ↦ λ both. let r = own_last es e both.1 in ((both.0, r.0), r.1)
      | false ↦ own_last es e
    ]) all

-- ---- it goes on

module _ (g : Setting) (shared : g.shared ≡ true) (opening : Content) (j : IsLegal g.script) (is_opening : IsOpening g opening)
    (xs : List EventEnd) where
  abbrev k : Times
  k = times g.script xs

  abbrev first : Retried Sparing
  first = fresh g.script.retries (sparing_start g.script.committer)

  pub clean_shared : clean_of g ≡ TheSparing first
  clean_shared = ap (λ b. cond b (TheSparing first) (TheClean (fresh g.script.retries clean_start))) shared

  -- An abort or clean that began in this state, in a run that goes on from there.
  pub record Spares (from : Stand) (journal : List Entry) (t : Retried Sparing) : Type 0 where
    pub stand : Stand
    pub on : SparesOn g k (begin g from BeginClean) stand
    pub runs : Runs g k opening journal stand
    pub driver : stand.driver ≡ Some (TheSparing t)

  -- The driver is running it.
  pub record Going (from : Stand) (y : Play) : Type 0 where
    pub at : Retried Sparing
    pub spares : Spares from y.journal at
    pub running : operation_of (y.running Driver) ≡ Some (TheSparing at)

  -- A stranger sends.
  strayed : (from : Stand) (y : Play) (r : Request) (o : Outcome) (t : Retried Sparing) → MayStray g opening y r o → Spares from y.journal t
      → Spares from (y.journal ++ strange_entry (length y.ends) r o ∷ []) t
  strayed from y r o t may s = record {
    stand = saw g k s.stand (strange_entry (length y.ends) r o);
    on = other_sends s.stand (length y.ends) r o s.on foreign;
    runs = strays y.journal s.stand (length y.ends) r o s.runs foreign;
    driver = s.driver;
  }
    where
      foreign : IsForeign g.script s.stand.told.drawn r
      foreign = subst (λ v. IsForeign g.script v r) (λ i a. (sym (told_known g opening k j is_opening y.journal s.stand s.runs a) i).drawn)
          may.foreign

  -- The driver sends.
  sent : (from : Stand) (y : Play) (e : Entry) → Reachable g opening y → MaySend g opening y e → Ahead y xs → e.actor ≡ Driver
      → Going from y → Going from (happen g y (Sends e))
  sent from y e past may ahead is s =
      let t = s.at in
      let u = s.spares.stand in
      let here : y.running Driver ≡ Some may.at = ap y.running (sym is) ∙ may.is_at in
      let op_is : may.at.operation ≡ TheSparing t = some_is (sym (ap operation_of here) ∙ s.running) in
      let asked : asks g (who Driver) nothing_learnt (TheSparing t) ≡ Some e.request = ap (λ v. asks g (who e.actor) may.at.known v)
      (sym op_is) ∙ may.asked in
      let n = number y.now (length y.ends) in
      let now : e.event ≡ n = may.number ∙ sym (ap (λ o. number o (length y.ends)) may.during) in
      let timed : IsTimed (begun_at k n) (Some (TheSparing t)) = subst (IsTimed (begun_at k n)) s.running
      (carried g opening j is_opening y past xs ahead).along.timed in
      let timely : IsTimely k e.event (TheSparing t) = ap (is_begun k.clean) now ∙ timed in
      let scene : moment opening y.journal (length y.journal) ≡ u.seen.scene = moment_scene g k opening j is_opening y.journal u
      s.spares.runs in
      let few : u.seen.scene.content.next ≤ 2 ^ 64 = subst (λ (v : Scene). v.content.next ≤ 2 ^ 64) scene may.few in
      let honest : IsHonestOutcome e.outcome (answer u.seen.scene e.request) = subst (λ v. IsHonestOutcome e.outcome (answer v e.request))
      scene may.honest in
      let one = driver_entry e.event e.request e.outcome in
      let next : Stand = driver_saw g k u (TheSparing t) e.event e.request e.outcome in
      let sends : sides.Sends g k u one next = sides.driver_sends u (TheSparing t) e.event e.request e.outcome s.spares.driver asked timely
      few honest in
      let after : Retried Sparing = step g.script.retries (sparing_after g.script) t e.outcome in
      let heard : (happen g y (Sends e)).running Driver ≡ hear g e.actor (Some may.at) e = put_here y.running e.actor
      (hear g e.actor (y.running e.actor) e) Driver (sym is) ∙ ap (λ m. hear g e.actor m e) may.is_at in
      record {
        at = after;
        spares = record {
          stand = next;
          on = it_sends u next t one s.spares.on s.spares.driver refl sends;
          runs = subst (λ v. Runs g k opening (y.journal ++ v ∷ []) next) (λ i. record
              { event = e.event; actor = sym is i; request = e.request; outcome = e.outcome })
              (goes_on g k opening y.journal u next one s.spares.runs sends);
          driver = refl;
        };
        running = ap operation_of heard ∙ ap (λ v. Some (tells g (who e.actor) v e.outcome)) op_is;
      }

  -- One more send of the job is the driver's.
  is_own_then : (y : Play) (e : Entry) → Reachable g opening y → MaySend g opening y e → Ahead y xs → is_own e.actor ≡ true
  is_own_then y e past may ahead =
      (elim e.actor as (λ a. y.running a ≡ Some may.at → is_own a ≡ true) [
        | Shell ↦ λ at. absurd
            (none_some (carried g opening j is_opening y past xs ahead).along.nobody at)
        | _ ↦ λ at. refl
      ]) may.is_at

  -- While nothing else begins, and of the job only the driver sends.
  pub going : (from : Stand) (first_play y : Play) (es : List Entry) → Going from first_play → Meanwhile g opening Driver first_play es y
      → Ahead y xs → AllBy Driver (own es) → Going from y
  going from first_play y es start (nothing_since) ahead all = start
  going from first_play y es start (was_silent es2 x z m same at back) ahead all =
      let s = going from first_play x es2 start m (back xs ahead) all in
      let o = s.spares in
      record {
        at = s.at;
        spares = record {
          stand = o.stand;
          on = o.on;
          runs = subst (λ l. Runs g k opening l o.stand) (sym same) o.runs;
          driver = o.driver;
        };
        running = ap operation_of at ∙ s.running;
      }
  going from first_play y es start (was_sent es2 x e past m may) ahead all =
      let before = sent_ahead g x e xs ahead in
      let parts = own_last es2 e all in
      sent from x e past may before (parts.1 (is_own_then x e past may before)) (going from first_play x es2 start m before parts.0)
  going from first_play y es start (had_strayed es2 x r o past m may) ahead all =
      let s = going from first_play x es2 start m (strayed_ahead g x r o xs ahead) (own_last es2 (strange_entry (length x.ends) r o) all).0
      in
      record { at = s.at; spares = strayed from x r o s.at may s.spares; running = s.running }

  -- ---- it begins

  module _ (y : Play) (d : Doing) (b : Began g opening y Driver d) (ahead : Ahead b.at xs) (sort : (d.op ≡ ops.Abort) ⊎ (d.op ≡ ops.Clean))
    where
      -- The run when it began.
      pub run_from : IsRun g opening b.at (times g.script xs)
      run_from = is_run g opening j is_opening b.at b.happened xs ahead

      needs_so : needs_set Driver d.op ≡ true
      needs_so = elim sort [ inl a ↦ ap (needs_set Driver) a | inr c ↦ ap (needs_set Driver) c ]

      not_new : is_new (b.at.live.state Driver).stage ≡ false
      not_new = grind (arith, told_all, needs_so, begins_at)

      pub set_from : is_set run_from.stand.driver ≡ true
      set_from = run_from.set_up not_new

      opened_as : (ev : Event) (op : Op) → IsBegin ev Driver op → (op ≡ ops.Abort) ⊎ (op ≡ ops.Clean)
          → operation_of (open_running g b.at ev Driver) ≡ Some (clean_of g)
      opened_as ev op h g = grind arith

      pub goes_from : Going run_from.stand (happen g b.at (Opens b.event))
      goes_from = record {
        at = first;
        spares = record {
          stand = begin g run_from.stand BeginClean;
          on = spares_begin;
          runs = actor_begins b.at.journal run_from.stand
              BeginClean run_from.runs set_from;
          driver = ap (λ op. Some op) clean_shared;
        };
        running = opened_as b.event d.op b.begins sort ∙ ap (λ op. Some op) clean_shared;
      }

  -- ---- after its end, until the event is over

  spares_as : (from : Stand) (t : Retried Sparing) (a b : List Entry) → a ≡ b → Spares from a t → Spares from b t
  spares_as from t a b e s = subst (λ l. Spares from l t) e s

  module _ (from : Stand) (t : Retried Sparing) (i : ℕ) (z : Play) (end : EventEnd) (count : length z.ends ≡ i)
      (up_to : AllUpTo (i + 1) z.journal) (at_end : Spares from z.journal t) where
    pub record Rest (y : Play) : Type 0 where
      pub spares : Spares from (until (i + 1) y.journal) t
      pub behind : i + 1 ≤ length y.ends

    further : (ends : List EventEnd) (last : EventEnd) → i + 1 ≤ length ends → i + 1 ≤ length (ends ++ last ∷ [])
    further ends last h = let l : length (ends ++ last ∷ []) ≡ length ends + 1 = length-append ends (last ∷ []) in omega arith

    -- One more entry of a later event.
    passed : (y : Play) (e : Entry) → Rest y → i + 1 < e.event → Spares from (until (i + 1) (y.journal ++ e ∷ [])) t
    passed y e o late = spares_as from t (until (i + 1) y.journal) (until (i + 1) (y.journal ++ e ∷ []))
        (sym (until_late (i + 1) y.journal e late)) o.spares

    strayed_rest : (y : Play) (r : Request) (o : Outcome) → Reachable g opening y → MayStray g opening y r o → Rest y
        → Spares from (until (i + 1) (y.journal ++ strange_entry (length y.ends) r o ∷ [])) t
    strayed_rest y r o past may old =
        let e = strange_entry (length y.ends) r o in
        elim (true_or_false (nat_le (length y.ends) (i + 1))) [
          | inr high ↦ passed y e old (at_most_not (length y.ends) (i + 1) high)
          | inl so ↦
              let low = at_most_is (length y.ends) (i + 1) so in
              let all : AllUpTo (i + 1) y.journal = up_to_more (length y.ends) (i + 1) y.journal low
              ((told_all g opening y past).closed may.idle).1 in
              spares_as from t (y.journal ++ e ∷ []) (until (i + 1) (y.journal ++ e ∷ []))
              (sym (until_all (i + 1) (y.journal ++ e ∷ []) (up_to_last (i + 1) y.journal e all low)))
              (strayed from y r o t may (spares_as from t (until (i + 1) y.journal) y.journal (until_all (i + 1) y.journal all) old.spares))
        ]

    pub rest : (y : Play) → Later g opening (happen g z (Closes end)) y → Rest y
    rest y (at_once) =
        let over : i + 1 ≤ length z.ends + 1 = omega arith in
        record {
          spares = spares_as from t z.journal (until (i + 1) z.journal) (sym (until_all (i + 1) z.journal up_to)) at_end;
          behind =
              subst (λ n. i + 1 ≤ n) (sym (length-append z.ends (end ∷ []))) over;
        }
    rest y (later x (Refuses f) past l may) = let o = rest x l in record { spares = o.spares; behind = further x.ends (Refused f) o.behind }
    rest y (later x (Opens ev) past l may) = let o = rest x l in record { spares = o.spares; behind = o.behind }
    rest y (later x (Sends e) past l may) =
        let o = rest x l in
        let n : e.event ≡ length x.ends + 1 = may.number in
        let far : i + 1 ≤ length x.ends = o.behind in
        record { spares = passed x e o (omega arith); behind = far }
    rest y (later x (Finishes v) past l may) = let o = rest x l in record { spares = o.spares; behind = o.behind }
    rest y (later x (Closes v) past l may) = let o = rest x l in record { spares = o.spares; behind = further x.ends v o.behind }
    rest y (later x (Strays r o) past l may) = let old = rest x l in record {
      spares = strayed_rest x r o past may old;
      behind = old.behind;
    }
