-- A run of allowed steps is one of the job's runs, by each kind of step.
use Rattle.text_and_lists.proofs.Members.{none_some}
use Rattle.job_invariant.proofs.Whose.{attempt}
use Rattle.job_model.specs.JobScript.{Script}
use Rattle.job_model.specs.Legal.{IsEvent, IsLegal}
use Rattle.job_model.specs.declared.ends.ActorEnd.{ActorEnd}
use Rattle.job_model.specs.declared.ends.EventEnd.{EventEnd}
use Rattle.job_model.specs.declared.ends.EventEnd.TheVariants.{Refused}
use Rattle.job_model.specs.declared.ends.EventFault.{EventFault}
use Rattle.job_model.specs.declared.ends.OpEnd.{OpEnd}
use Rattle.job_model.specs.declared.events.Event.{Event}
use Rattle.job_model.specs.declared.events.Event.TheVariants.{Do, Kill, Recover, Restart, Start}
use Rattle.job_model.specs.declared.events.Op.{Op}
use Rattle.job_model.specs.declared.states.ActorState.{ActorState}
use Rattle.job_model.specs.declared.states.Life.TheVariants.{Busy}
use Rattle.job_protocol.specs.Operations.{Running, Setting, advance, over, wants}
use Rattle.job_protocol.specs.Seen.{Times, is_begun}
use Rattle.job_spec.specs.States.{begins_clean, begins_commit, dead, ended, idle, is_refused, open_event, put, refusal, reports, restarted}
use Rattle.job_spec.specs.States.{times}
use Rattle.job_spec.specs.Turns.{Turns, is_memory}
use Rattle.script_steps.proofs.PastMore.{event_at}
use Rattle.script_steps.proofs.RunningAlong.{ActorAt, Along, actor_dies, actor_ends, at_of, attempt_sent, busy_at, driver_sent, set_up}
use Rattle.script_steps.proofs.RunningAlong.{state_so, strays_on, told_known}
use Rattle.script_steps.proofs.RunningNumbers.{begun_at, begun_next, unbegun}
use Rattle.script_steps.proofs.RunningStages.{Begun, begins_so, driver_restarts, may_end, memory_dies, restarted_new, still_begun}
use Rattle.script_steps.proofs.RunningStages.{with_event}
use Rattle.script_steps.proofs.RunningSteps.{begins, still}
use Rattle.script_steps.specs.Running.{Ahead, IsRun, operation_of}
use Rattle.script_steps.specs.Transitions.{Closes, Finishes, MayClose, MayFinish, MayOpen, MaySend, Opens, Play, Reachable, Refuses, Sends}
use Rattle.script_steps.specs.Transitions.{Strays, happen, happens, hear, nothing_happened, nothing_played, open_running}
use Rattle.protocol_runs.specs.Runs.{IsOpening, first_stand, run_begins}
use Rattle.s3_types.specs.Answer.{answer}
use Rattle.s3_types.specs.Moment.{IsHonestOutcome, moment}
use Rattle.s3_types.specs.Store.{Content}
use Rattle.s3_types.specs.declared.journal.Entry.{Entry}
use Rattle.s3_types.specs.declared.journal.Outcome.{Outcome}
use Rattle.s3_types.specs.declared.request.Actor.{Actor}
use Rattle.s3_types.specs.declared.request.Actor.TheVariants.{Attempt, Driver, Shell}
use Rattle.s3_types.specs.declared.request.Request.{Request}
use Rattle.std.proofs.Common.{List, None, Option, Some, ap, append_assoc, arith, false, inl, inr, length, length-append, not, refl, subst}
use Rattle.std.proofs.Common.{sym, true, ℕ, [], ◌++◌, ◌+◌, ◌^◌, ◌||◌, ◌∙◌, ◌∷◌, ◌≡◌, ◌≤◌, ◌⊎◌}
use Rattle.std.proofs.Math.Bool.{and-false}

-- The number of the event in progress, or of the last one.
abbrev pub number : Option Event → ℕ → ℕ
number None n = n
number (Some ev) n = n + 1

-- What each step keeps.
pub record Carried (g : Setting) (opening : Content) (k : Times) (x : Play) : Type 0 where
  pub along : Along g opening k (begun_at k (number x.now (length x.ends))) x.journal x.running x.live.state
  pub rest : x.now ≡ None → x.live.state ≡ x.past.state

-- ---- the ends of a longer run are those of a shorter one

pub sent_ahead : (g : Setting) (x : Play) (e : Entry) (ends : List EventEnd) → Ahead (happen g x (Sends e)) ends → Ahead x ends
sent_ahead g x e ends h = record { rest = h.rest; is = h.is; going = h.going }

pub finished_ahead : (g : Setting) (x : Play) (y : ActorEnd) (ends : List EventEnd) → Ahead (happen g x (Finishes y)) ends → Ahead x ends
finished_ahead g x y ends h = record { rest = h.rest; is = h.is; going = h.going }

pub opened_ahead : (g : Setting) (x : Play) (ev : Event) (ends : List EventEnd) → x.now ≡ None → Ahead (happen g x (Opens ev)) ends
    → Ahead x ends
opened_ahead g x ev ends idle h = record { rest = h.rest; is = h.is; going = λ v e. absurd (none_some idle e) }

pub strayed_ahead : (g : Setting) (x : Play) (r : Request) (o : Outcome) (ends : List EventEnd) → Ahead (happen g x (Strays r o)) ends
    → Ahead x ends
strayed_ahead g x r o ends h = record { rest = h.rest; is = h.is; going = h.going }

pub refused_ahead : (g : Setting) (x : Play) (f : EventFault) (ends : List EventEnd) → x.now ≡ None → Ahead (happen g x (Refuses f)) ends
    → Ahead x ends
refused_ahead g x f ends idle h = record {
  rest = Refused f ∷ h.rest;
  is = h.is ∙ append_assoc x.ends (Refused f ∷ []) h.rest;
  going = λ v
      e. absurd (none_some idle e);
}

-- An event that was opened does not end as refused.
pub not_refused : (w : Script) (st : Actor → ActorState) (ev : Event) (end : EventEnd) (es : List Entry) → Turns w st ev end es
    → is_refused end ≡ false
not_refused w st ev end es h = grind arith

pub closed_ahead : (g : Setting) (x : Play) (end : EventEnd) (ends : List EventEnd) → is_refused end ≡ false
    → Ahead (happen g x (Closes end)) ends → Ahead x ends
closed_ahead g x end ends fine h = record {
  rest = end ∷ h.rest;
  is = h.is ∙ append_assoc x.ends (end ∷ []) h.rest;
  going = λ v e.
      (end, h.rest, refl, fine);
}

module _ (g : Setting) (opening : Content) (j : IsLegal g.script) (is_opening : IsOpening g opening) where
  abbrev w : Script
  w = g.script

  -- ---- an event begins

  start_same : (b : Begun) (a : Actor) (op : Op) → with_event true b (Do a op) ≡ with_event true b (Start a op)
  start_same b a op = grind arith

  killed : (k : Times) {b : Begun} {es : List Entry} {r : Actor → Option Running} {st : Actor → ActorState}
      (h : Along g opening k b es r st) (a : Actor)
      → Along g opening k b es r (put st a (dead (st a).stage))
  killed k {r = r} {st = st} h a =
      state_so g opening k j is_opening h a (dead (st a).stage) (actor_dies a (st a).stage (st a).life (operation_of (r a))
      (at_of g opening k j is_opening h a)) (λ is n. n)

  begun_so : (k : Times) (b : Begun) (x : Play) → Along g opening k b x.journal x.running x.past.state → (ev : Event)
      → refusal x.past.state ev ≡ None → IsEvent w.attempts ev
      → Along g opening k (with_event true b ev) x.journal (open_running g x ev) (open_event w x.past ev).state
  begun_so k b x h (Do a op) e legal =
      begins g opening k j is_opening h a op (reports w x.past.reported) (begins_so (x.past.state Driver).stage a op (x.past.state a).life
      (x.past.state a).stage e) legal.0 legal.1
  begun_so k b x h (Start a op) e legal =
      subst (λ c. Along g opening k c x.journal (open_running g x (Start a op)) (open_event w x.past (Start a op)).state)
      (start_same b a op)
      (begins g opening k j is_opening h a op (reports w x.past.reported) (begins_so (x.past.state Driver).stage a op (x.past.state a).life
      (x.past.state a).stage e) legal.0 legal.1)
  begun_so k b x h (Kill a) e legal = still g opening k j is_opening (killed k h a)
  begun_so k b x h Restart e legal =
      let s = x.past.state Driver in
      still g opening k j is_opening (state_so g opening k j is_opening h Driver (idle (restarted s.stage))
      (driver_restarts s.stage s.life (operation_of (x.running Driver)) h.driver_at) (λ is. restarted_new s.stage))
  begun_so k b x h (Recover a) e legal = absurd cc
  begun_so k b x h _ e legal = still g opening k j is_opening h

  -- Between two events, by the number of the last one and the states then.
  between : (k : Times) (x : Play) → Carried g opening k x → x.now ≡ None
      → Along g opening k (begun_at k (length x.ends)) x.journal x.running x.past.state
  between k x h idle =
      subst (λ s. Along g opening k (begun_at k (length x.ends)) x.journal x.running s) (h.rest idle)
      (subst (λ o. Along g opening k (begun_at k (number o (length x.ends))) x.journal x.running x.live.state) idle h.along)

  opens : (x : Play) (ev : Event) (ends : List EventEnd) → Ahead (happen g x (Opens ev)) ends → MayOpen g x ev None
      → Carried g opening (times w ends) x → Carried g opening (times w ends) (happen g x (Opens ev))
  opens x ev ends ahead may h =
      let k = times w ends in
      let o = ahead.going ev refl in
      let is : ends ≡ x.ends ++ o.0 ∷ o.1 = ahead.is ∙ ap (λ v. x.ends ++ v) o.2 in
      let next : begun_at k (length x.ends + 1) ≡ with_event true (begun_at k (length x.ends)) ev =
      subst (λ v. begun_at (times w v) (length x.ends + 1) ≡ with_event true (begun_at (times w v) (length x.ends)) ev) (sym is)
      (begun_next w x.ends o.0 o.1 ev may.next true (ap not o.3)) in
      record {
        along = subst (λ c. Along g opening k c x.journal (open_running g x ev) (open_event w x.past ev).state) (sym next)
            (begun_so k (begun_at k (length x.ends)) x (between k x h may.idle) ev may.refusal_is
            (event_at w.attempts w.events (length x.ends) ev j.events may.next));
        rest = λ e. absurd (none_some e refl);
      }

  -- ---- an event is refused

  none_begun : (b : Begun) (ev : Event) → with_event false b ev ≡ still_begun b
  none_begun b ev = λ i. record { commit = b.commit || and-false (begins_commit ev) i; clean = b.clean || and-false (begins_clean ev) i }

  longer : (front : List EventEnd) (end : EventEnd) → length (front ++ end ∷ []) ≡ length front + 1
  longer front end = length-append front (end ∷ [])

  refuses : (x : Play) (f : EventFault) (ev : Event) (ends : List EventEnd) → Ahead (happen g x (Refuses f)) ends → MayOpen g x ev (Some f)
      → Carried g opening (times w ends) x → Carried g opening (times w ends) (happen g x (Refuses f))
  refuses x f ev ends ahead may h =
      let k = times w ends in
      let is : ends ≡ x.ends ++ Refused f ∷ ahead.rest = ahead.is ∙ append_assoc x.ends (Refused f ∷ []) ahead.rest in
      let next : begun_at k (length x.ends + 1) ≡ still_begun (begun_at k (length x.ends)) =
      subst (λ v. begun_at (times w v) (length x.ends + 1) ≡ still_begun (begun_at (times w v) (length x.ends))) (sym is)
      (begun_next w x.ends (Refused f) ahead.rest ev may.next false refl ∙ none_begun
      (begun_at (times w (x.ends ++ Refused f ∷ ahead.rest)) (length x.ends)) ev) in
      record {
        along = subst (λ c. Along g opening k c x.journal x.running x.past.state) (sym (ap (begun_at k) (longer x.ends (Refused f)) ∙ next))
            (still g opening k j is_opening (between k x h may.idle));
        rest = λ e. refl;
      }

  -- ---- an event is over

  closes : (k : Times) (x : Play) (end : EventEnd) → MayClose g x end → Carried g opening k x
      → Carried g opening k (happen g x (Closes end))
  closes k x end may h = record {
    along = subst (λ n. Along g opening k (begun_at k n) x.journal x.running x.live.state)
        (ap (λ o. number o (length x.ends)) may.during ∙ sym (longer x.ends end)) h.along;
    rest = λ e. refl;
  }

  -- ---- an actor sends a request

  sent : (k : Times) {b : Begun} {es : List Entry} {r : Actor → Option Running} {st : Actor → ActorState} (h : Along g opening k b es r st)
      (n : ℕ) (a : Actor) (q : Request) (o : Outcome) (m : Running)
      → begun_at k n ≡ b → (st a).life ≡ Busy → r a ≡ Some m → wants g a m ≡ Some q
      → IsHonestOutcome o (answer (moment opening es (length es)) q) → (moment opening es (length es)).content.next ≤ 2 ^ 64
      → Along g opening k b (es ++ record { event = n; actor = a; request = q; outcome = o } ∷ []) (put r a (Some (advance g a m o))) st
  sent k h n Driver q o m begun busy is asked honest few = driver_sent g opening k j is_opening h n q o m begun busy is asked honest few
  sent k h n (Attempt t i) q o m begun busy is asked honest few = attempt_sent g opening k j is_opening h (attempt t i) n q o m busy is
      asked honest
  sent k h n Shell q o m begun busy is asked honest few = absurd (none_some h.nobody is)

  sends : (k : Times) (x : Play) (e : Entry) → MaySend g opening x e → Carried g opening k x → Carried g opening k (happen g x (Sends e))
  sends k x e may h =
      let n = number x.now (length x.ends) in
      let here : e.event ≡ n = may.number ∙ sym (ap (λ o. number o (length x.ends)) may.during) in
      let heard : hear g e.actor (x.running e.actor) e ≡ Some (advance g e.actor may.at e.outcome) = ap (λ m. hear g e.actor m e) may.is_at
      in
      record {
        along = subst (λ v. Along g opening k (begun_at k n) (x.journal ++ e ∷ []) (put x.running e.actor v) x.live.state) (sym heard)
            (sent k h.along e.event e.actor e.request e.outcome may.at (ap (begun_at k) here) may.busy may.is_at may.asked may.honest
            may.few);
        rest = h.rest;
      }

  -- ---- an operation ends

  end_of : (k : Times) {b : Begun} {es : List Entry} {r : Actor → Option Running} {st : Actor → ActorState}
      (h : Along g opening k b es r st) (a : Actor) (e : OpEnd) → (st a).life ≡ Busy
      → (is_memory e ≡ true) ⊎ ((m : Running) × (r a ≡ Some m) × (over m.operation ≡ Some e))
      → Along g opening k b es r (put st a (ended e (st a).stage))
  end_of k {b = b} {es = es} {r = r} {st = st} h a e busy (inl memory) = subst (λ v. Along g opening k b es r (put st a v))
      (sym (memory_dies e (st a).stage memory)) (killed k h a)
  end_of k {st = st} h a e busy (inr end) =
      let v = ended e (st a).stage in
      let after = actor_ends a (st a).stage (end.0).operation e (busy_at g opening k j is_opening h a end.0 busy end.1) end.2 in
      state_so g opening k j is_opening h a v (subst (λ o. ActorAt a v.stage v.life (operation_of o)) (sym end.1) after.0) after.1

  finishes : (k : Times) (x : Play) (y : ActorEnd) → MayFinish x y → Carried g opening k x → Carried g opening k (happen g x (Finishes y))
  finishes k x y may h = record {
    along = end_of k h.along y.actor y.end may.busy (may_end x y may);
    rest = λ e. absurd (none_some e may.during);
  }

  -- ---- all steps

  first : (k : Times) → (is_begun k.commit 0 ≡ false) × (is_begun k.clean 0 ≡ false) → Carried g opening k nothing_played
  first k e = record {
    along = record {
      stand = first_stand opening k.clean;
      ran = record {
        runs = run_begins;
        cleans = refl;
        driver = refl;
        attempts = λ a. refl;
        last = λ a m y. absurd (none_some refl y);
        nobody = refl;
      };
      timed = e;
      driver_at = tt;
      unset = λ n a. refl;
      attempt_at = λ a. refl;
    };
    rest = λ e. refl;
  }

  pub carried : (x : Play) → Reachable g opening x → (ends : List EventEnd) → Ahead x ends → Carried g opening (times w ends) x
  carried x (nothing_happened) ends ahead = first (times w ends) (unbegun w ends)
  carried x (happens y (Refuses f) past may) ends ahead = refuses y f may.0 ends ahead may.1
      (carried y past ends (refused_ahead g y f ends may.1.idle ahead))
  carried x (happens y (Opens ev) past may) ends ahead = opens y ev ends ahead may
      (carried y past ends (opened_ahead g y ev ends may.idle ahead))
  carried x (happens y (Sends e) past may) ends ahead = sends (times w ends) y e may (carried y past ends (sent_ahead g y e ends ahead))
  carried x (happens y (Finishes z) past may) ends ahead = finishes (times w ends) y z may
      (carried y past ends (finished_ahead g y z ends ahead))
  carried x (happens y (Closes end) past may) ends ahead = closes (times w ends) y end may
      (carried y past ends (closed_ahead g y end ends (not_refused w y.past.state may.event end _ may.turns) ahead))
  carried x (happens y (Strays r o) past may) ends ahead =
      let h = carried y past ends (strayed_ahead g y r o ends ahead) in record
      { along = strays_on g opening (times w ends) j is_opening h.along (length y.ends) r o may.foreign; rest = h.rest }

  pub is_run : (x : Play) → Reachable g opening x → (ends : List EventEnd) → Ahead x ends → IsRun g opening x (times w ends)
  is_run x past ends ahead =
      let h = (carried x past ends ahead).along in
      record {
        stand = h.stand;
        runs = h.runs;
        cleans = h.cleans;
        driver = h.driver;
        attempts = h.attempts;
        knows = λ a. sym (told_known g opening (times w ends) j is_opening x.journal h.stand h.runs a);
        last = h.last;
        set_up = λ n. set_up g opening (times w ends) j is_opening h n;
      }
