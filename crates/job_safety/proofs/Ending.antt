-- An operation that ended in an event of a run, in the state right before that event was over.
use Rattle.text_and_lists.proofs.Members.{none_some, some_is}
use Rattle.job_model.specs.JobScript.{Script}
use Rattle.job_model.specs.declared.ends.ActorEnd.{ActorEnd}
use Rattle.job_model.specs.declared.ends.EventEnd.{EventEnd}
use Rattle.job_model.specs.declared.ends.OpEnd.{OpEnd}
use Rattle.job_model.specs.declared.events.Event.{Event}
use Rattle.job_protocol.specs.Operations.{Operation, Running, Setting, advance, over, start_of, wants}
use Rattle.job_safety.proofs.History.{Closed, closed_at}
use Rattle.job_safety.proofs.Strange.{AreStrange, own_back, own_part, strange_by, strange_none, strange_until}
use Rattle.job_spec.specs.Ends.{EndedIn}
use Rattle.job_spec.specs.Entries.{AreOwn}
use Rattle.job_spec.specs.Follows.{known_then}
use Rattle.job_spec.specs.States.{Doing, after_event, count, is_refused, past, same_actor, told}
use Rattle.job_spec.specs.Turns.{AllFrom, AllUpTo, by_actor, is_memory, is_own, own, since, until}
use Rattle.script_steps.proofs.Parts.{take_whole, until_all}
use Rattle.script_steps.proofs.PastMore.{after_is, turns_refused}
use Rattle.script_steps.proofs.RunningStages.{memory_or}
use Rattle.script_steps.proofs.Told.{told_all}
use Rattle.script_steps.specs.Running.{Ahead}
use Rattle.script_steps.specs.Transitions.{Play, Reachable}
use Rattle.retries.specs.Operation.{Follows, run}
use Rattle.s3_types.specs.Store.{Content}
use Rattle.s3_types.specs.declared.journal.Entry.{Entry}
use Rattle.s3_types.specs.declared.request.Actor.{Actor}
use Rattle.std.proofs.Common.{List, None, Some, ap, append-nil, append_assoc, arith, false, inl, inr, length, nat_le, slice_get, subst, sym}
use Rattle.std.proofs.Common.{take, true, ℕ, [], ◌++◌, ◌+◌, ◌∙◌, ◌∷◌, ◌≡◌, ◌≤◌, ◌⊎◌}
use Rattle.std.proofs.lemmas.List.{take-append-le}
use Rattle.std.proofs.lemmas.List.Elements.{filter-append}

-- What is known of an operation that ended: how its event came to its end, and how its own entries led to its end.
pub record Ending (g : Setting) (opening : Content) (x : Play) (j : ℕ) (a : Actor) (d : Doing) (end : OpEnd) (es : List Entry) : Type 0
  where
    pub event_end : EventEnd
    pub closed : Closed g opening x j event_end
    pub place : ℕ
    pub finished : slice_get closed.at.finished place ≡ Some (record { actor = a; end = end })
    pub doing : closed.at.live.doing a ≡ Some d
    pub from_then : d.since ≤ j + 1
    pub up_to : AllUpTo (j + 1) closed.at.journal
    pub entries_are : es ≡ since d.since (by_actor a closed.at.journal)
    pub op : Operation
    pub begun_is : start_of g a d.op d.reports (known_then g a d (by_actor a closed.at.journal)) ≡ Some op
    pub follows : Follows (wants g a) (advance g a) (record { operation = op; known = known_then g a d (by_actor a closed.at.journal) }) es
    pub running : closed.at.running a ≡ Some (run (advance g a) (record
        { operation = op; known = known_then g a d (by_actor a closed.at.journal) }) es)
    pub ended : (is_memory end ≡ true) ⊎ (over (run (advance g a) (record
        { operation = op; known = known_then g a d (by_actor a closed.at.journal) }) es).operation ≡ Some end)

-- A refused event ends no operation.
told_fine : (ev : Event) (end : EventEnd) (i : ℕ) (y : ActorEnd) → slice_get (told ev end) i ≡ Some y → is_refused end ≡ false
told_fine ev end i y h = grind arith

-- Between two events, the ends of a run are its own.
pub ahead_none : (x : Play) → x.now ≡ None → Ahead x x.ends
ahead_none x idle = record { rest = []; is = sym (append-nil x.ends); going = λ ev e. absurd (none_some idle e) }

module _ (g : Setting) (opening : Content) (x : Play) (run_x : Reachable g opening x) (idle : x.now ≡ None) where
  abbrev w : Script
  w = g.script

  module _ (j : ℕ) (end : EventEnd) (c : Closed g opening x j end) where
    abbrev z : Play
    z = c.at

    -- The ends before that event.
    ends_before : take j x.ends ≡ z.ends
    ends_before =
        let h = c.ahead x.ends (ahead_none x idle) in
        let parts : x.ends ≡ z.ends ++ (end ∷ [] ++ h.rest) = h.is ∙ append_assoc z.ends (end ∷ []) h.rest in
        let short : length z.ends ≤ length z.ends = omega arith in
        ap (λ n. take n x.ends) (sym c.count) ∙ ap (take (length z.ends)) parts ∙ take-append-le (length z.ends) z.ends (end ∷ [] ++ h.rest)
        short ∙ take_whole z.ends

    -- The operation that an actor began last, before the event was over.
    doing_is : (a : Actor) (ev : Event) (d : Doing) → c.may.event ≡ ev → (after_event w (past w (take j x.ends)) ev end).doing a ≡ Some d
        → z.live.doing a ≡ Some d
    doing_is a ev d h g = grind (arith, told_all, ends_before, after_is, turns_refused)

    -- Up to the end of the event, the job sent nothing after it.
    pub journal_until : until (j + 1) x.journal ≡ z.journal ++ until (j + 1) c.entries
    journal_until = grind (arith, told_all, filter-append, until_all)

    pub until_strange : AreStrange (until (j + 1) c.entries)
    until_strange = let two : j + 2 ≡ j + 1 + 1 = omega arith in strange_until (j + 1) c.entries
        (subst (λ n. AllFrom n (own c.entries)) two c.own_after)

  -- If no stranger sends, the entries up to the event's end are the journal then.
  pub until_own : AreOwn x.journal → (j : ℕ) (end : EventEnd) (c : Closed g opening x j end) → until (j + 1) x.journal ≡ c.at.journal
  until_own mine j end c =
      let none = strange_none (until (j + 1) c.entries) (own_part (λ e. nat_le e.event (j + 1)) c.entries
      (own_back c.at.journal c.entries (subst AreOwn c.all mine))) (until_strange j end c) in
      journal_until j end c ∙ ap (λ l. c.at.journal ++ l) none ∙ append-nil c.at.journal

  pub ending : (j : ℕ) (a : Actor) → is_own a ≡ true → (d : Doing) (end : OpEnd) (es : List Entry) → EndedIn w x.ends x.journal j a d end es
      → Ending g opening x j a d end es
  ending j a mine d end es h =
      let c = closed_at g opening x run_x j h.event_end h.has_ended (told_fine h.event h.event_end h.place _ h.told_there) in
      let z = c.at in
      let t = told_all g opening z c.happened in
      let same : c.may.event ≡ h.event = some_is (sym (t.opened c.may.event c.may.during).next ∙ ap (slice_get w.events) c.count ∙
      h.is_event) in
      let told_so : told h.event h.event_end ≡ z.finished = ap (λ v. told v h.event_end) (sym same) ∙ c.may.told_is in
      let finished : slice_get z.finished h.place ≡ Some (record { actor = a; end = end }) = ap (λ l. slice_get l h.place) (sym told_so) ∙
      h.told_there in
      let doing = doing_is j h.event_end c a h.event d same h.doing in
      let runs = t.runs a d doing in
      let f = t.finish h.place (record { actor = a; end = end }) finished in
      let parts : es ≡ since d.since (by_actor a z.journal) =
      h.entries_are ∙ ap (since d.since) (ap (by_actor a) (journal_until j h.event_end c) ∙ filter-append (λ e. same_actor e.actor a)
      z.journal (until (j + 1) c.entries)
      ∙ ap (λ l. by_actor a z.journal ++ l) (strange_by a mine (until (j + 1) c.entries) (until_strange j h.event_end c)) ∙ append-nil
      (by_actor a z.journal)) in
      let first : Running = record { operation = runs.led.op; known = known_then g a d (by_actor a z.journal) } in
      let at : z.running a ≡ Some (run (advance g a) first es) = runs.led.at ∙ ap (λ l. Some (run (advance g a) first l)) (sym parts) in
      record {
        event_end = h.event_end;
        closed = c;
        place = h.place;
        finished = finished;
        doing = doing;
        from_then = subst (λ n. d.since ≤ n + 1) c.count runs.from_then;
        up_to = subst (λ n. AllUpTo (n + 1) z.journal) c.count t.up_to;
        entries_are = parts;
        op = runs.led.op;
        begun_is = runs.led.begun_is;
        follows = subst (Follows (wants g a) (advance g a) first) (sym parts) runs.led.follows;
        running = at;
        ended = elim (memory_or a f.doing.op end f.end) [
          | inl memory ↦ inl memory
          | inr q ↦ inr
              (ap (λ (m : Running). over m.operation) (some_is (sym at ∙ q.1)) ∙ q.2)
        ];
      }
