-- The facts of one job hold of what happened in its run, at each moment from the end of its set-up on.
use Rattle.text_and_lists.proofs.Bools.{not_so}
use Rattle.text_and_lists.proofs.Members.{false_true}
use Rattle.job_invariant.specs.Facts.{Hold}
use Rattle.job_invariant.specs.Told.{Told, nothing_told, strange_entry, tell_all}
use Rattle.job_model.specs.JobScript.{Script}
use Rattle.job_model.specs.Legal.{IsLegal}
use Rattle.job_model.specs.declared.ends.EventEnd.{EventEnd}
use Rattle.job_model.specs.declared.ends.EventEnd.TheVariants.{Refused}
use Rattle.job_model.specs.declared.ends.OpEnd.{OpEnd}
use Rattle.job_model.specs.declared.events.Event.{Event}
use Rattle.job_model.specs.declared.events.Event.TheVariants.{Do, Kill, Mix, Recover, Restart, Run, Start, Step}
use Rattle.job_model.specs.declared.events.Op.{Op}
use Rattle.job_model.specs.declared.states.ActorStage.{ActorStage}
use Rattle.job_model.specs.declared.states.ActorState.{ActorState}
use Rattle.job_model.specs.declared.states.Life.TheVariants.{Busy}
use Rattle.job_protocol.specs.Operations.{Running, Setting, over}
use Rattle.job_protocol.specs.Seen.{Seen, nothing_seen, see_all}
use Rattle.job_safety.proofs.Ending.{ahead_none}
use Rattle.job_safety.specs.RunsKeep.{RunsHoldFacts}
use Rattle.job_spec.specs.States.{Past, clean_event, dead, ended, is_new, open_event, past, put, restarted, stage_begun, times}
use Rattle.job_spec.specs.Turns.{is_memory, until}
use Rattle.script_steps.proofs.Parts.{until_all, up_to_more}
use Rattle.script_steps.proofs.Running.{carried, closed_ahead, finished_ahead, is_run, not_refused, opened_ahead, refused_ahead, sent_ahead}
use Rattle.script_steps.proofs.Running.{strayed_ahead}
use Rattle.script_steps.proofs.RunningAlong.{actor_ends, busy_at}
use Rattle.script_steps.proofs.RunningStages.{may_end, memory_dies, restarted_new}
use Rattle.script_steps.proofs.Told.{told_all}
use Rattle.script_steps.specs.Running.{Ahead}
use Rattle.script_steps.specs.Transitions.{Closes, Finishes, MayFinish, Opens, Play, Reachable, Refuses, Sends, Strays, happen, happens}
use Rattle.script_steps.specs.Transitions.{nothing_happened}
use Rattle.protocol_runs.proofs.Entries.{late_now, sees, take_all, tells_so}
use Rattle.protocol_runs.specs.Runs.{IsOpening}
use Rattle.s3_types.specs.Store.{Content}
use Rattle.s3_types.specs.declared.journal.Entry.{Entry}
use Rattle.s3_types.specs.declared.request.Actor.{Actor}
use Rattle.s3_types.specs.declared.request.Actor.TheVariants.{Attempt, Driver, Shell}
use Rattle.std.proofs.Common.{Bool, List, None, Some, ap, arith, false, inl, inr, length, length-append, nat_le, refl, slice_get, subst}
use Rattle.std.proofs.Common.{sym, take, true, ℕ, [], ◌++◌, ◌+◌, ◌<◌, ◌∙◌, ◌∷◌, ◌≡◌, ◌≤◌, ◌⊎◌}
use Rattle.std.proofs.lemmas.Bool.{cases_lt}
use Rattle.std.proofs.lemmas.List.{take-append-le, take_all as taken}
use Rattle.std.proofs.lemmas.List.Elements.{filter-append}
use Rattle.std.specs.Prelude.{suc, zero}
use Rattle.job_model.specs.declared.events.Op.TheVariants as ops

-- ---- the driver never is new again

still_false : (a b : Bool) → (a ≡ true → b ≡ true) → b ≡ false → a ≡ false
still_false true b f h = absurd (false_true h (f refl))
still_false false b f h = refl

-- The driver is not new any more.
abbrev IsBehind : (Actor → ActorState) → Type 0
IsBehind st = is_new (st Driver).stage ≡ false

begun_behind : (a : Actor) (op : Op) (st : Actor → ActorState) → IsBehind st
    → IsBehind (put st a (record { life = Busy; stage = stage_begun a op (st a).stage }))
begun_behind Driver ops.Setup st h = h
begun_behind Driver ops.Write st h = refl
begun_behind Driver ops.Commit st h = refl
begun_behind Driver ops.Abort st h = refl
begun_behind Driver ops.Clean st h = h
begun_behind (Attempt t n) op st h = h
begun_behind Shell op st h = h

killed_behind : (a : Actor) (st : Actor → ActorState) → IsBehind st → IsBehind (put st a (dead (st a).stage))
killed_behind Driver st h = h
killed_behind (Attempt t n) st h = h
killed_behind Shell st h = h

opened_behind : (w : Script) (p : Past) (ev : Event) → IsBehind p.state → IsBehind (open_event w p ev).state
opened_behind w p (Do a op) h = begun_behind a op p.state h
opened_behind w p (Start a op) h = begun_behind a op p.state h
opened_behind w p (Kill a) h = killed_behind a p.state h
opened_behind w p Restart h =
    still_false (is_new (restarted (p.state Driver).stage)) (is_new (p.state Driver).stage) (restarted_new (p.state Driver).stage) h
opened_behind w p _ h = h

module _ (g : Setting) (opening : Content) (j : IsLegal g.script) (is_opening : IsOpening g opening) where
  abbrev w : Script
  w = g.script

  ended_behind : (x : Play) (ends : List EventEnd) → Reachable g opening x → Ahead x ends → (a : Actor) (e : OpEnd)
      → (x.live.state a).life ≡ Busy
      → (is_memory e ≡ true) ⊎ ((m : Running) × (x.running a ≡ Some m) × (over m.operation ≡ Some e))
      → IsBehind x.live.state → IsBehind (put x.live.state a (ended e (x.live.state a).stage))
  ended_behind x ends past ahead Driver e busy (inl memory) h =
      ap (λ (s : ActorState). is_new s.stage) (memory_dies e (x.live.state Driver).stage memory) ∙ h
  ended_behind x ends past ahead Driver e busy (inr end) h =
      let s = (x.live.state Driver).stage in
      let along = (carried g opening j is_opening x past ends ahead).along in
      let at = busy_at g opening (times w ends) j is_opening along Driver end.0 busy end.1 in
      still_false (is_new (ended e s).stage) (is_new s) ((actor_ends Driver s end.0.operation e at end.2).1 refl) h
  ended_behind x ends past ahead (Attempt t n) e busy end h = h
  ended_behind x ends past ahead Shell e busy end h = h

  -- Between two events, the states that follow from the ends say so.
  behind_now : (x : Play) → Reachable g opening x → x.now ≡ None → IsBehind (past w x.ends).state → IsBehind x.live.state
  behind_now x run idle h =
      let t = told_all g opening x run in
      ap (λ (p : Past). is_new (p.state Driver).stage) ((t.closed idle).0 ∙ t.past_is) ∙ h

  -- It was not new after the first i events.
  abbrev WasBehind : List EventEnd → ℕ → Type 0
  WasBehind xs i = IsBehind (past w (take i xs)).state

  never_first : (i : ℕ) → WasBehind [] i → ⊥
  never_first zero h = false_true h refl
  never_first (suc i) h = false_true h refl

  -- The first i ends are those before the last one, or all.
  shorter : (xs : List EventEnd) (end : EventEnd) (i : ℕ) → i ≤ length xs → WasBehind (xs ++ end ∷ []) i → WasBehind xs i
  shorter xs end i few h = subst (λ ys. IsBehind (past w ys).state) (take-append-le i xs (end ∷ []) few) h

  all_of : (xs : List EventEnd) (end : EventEnd) (i : ℕ) → length xs < i → length (xs ++ end ∷ []) ≤ i
  all_of xs end i more = omega (arith, length-append xs (end ∷ []))

  whole : (xs : List EventEnd) (i : ℕ) → length xs ≤ i → WasBehind xs i → IsBehind (past w xs).state
  whole xs i all h = subst (λ ys. IsBehind (past w ys).state) (taken i xs all) h

  behind : (x : Play) → Reachable g opening x → (ends : List EventEnd) → Ahead x ends → (i : ℕ) → WasBehind x.ends i → IsBehind x.live.state
  behind x (nothing_happened) ends ahead i h = absurd (never_first i h)
  behind x (happens y (Sends e) run may) ends ahead i h = behind y run ends (sent_ahead g y e ends ahead) i h
  behind x (happens y (Strays r o) run may) ends ahead i h = behind y run ends (strayed_ahead g y r o ends ahead) i h
  behind x (happens y (Opens ev) run may) ends ahead i h =
      let old = behind y run ends (opened_ahead g y ev ends may.idle ahead) i h in
      opened_behind w y.past ev (ap (λ (p : Past). is_new (p.state Driver).stage) (sym ((told_all g opening y run).closed may.idle).0)
      ∙ old)
  behind x (happens y (Finishes z) run may) ends ahead i h =
      let before = finished_ahead g y z ends ahead in
      ended_behind y ends run before z.actor z.end may.busy (may_end y z may) (behind y run ends before i h)
  behind x (happens y (Closes end) run may) ends ahead i h = elim (cases_lt (length y.ends) i) [
    | inl more ↦ behind_now (happen g y (Closes end)) (happens y (Closes end) run may) refl
        (whole (y.ends ++ end ∷ []) i (all_of y.ends end i more) h)
    | inr few ↦ behind y run ends (closed_ahead g y end ends (not_refused w y.past.state may.event end _ may.turns) ahead) i
        (shorter y.ends end i few h)
  ]
  behind x (happens y (Refuses f) run may) ends ahead i h = elim (cases_lt (length y.ends) i) [
    | inl more ↦ behind_now (happen g y (Refuses f)) (happens y (Refuses f) run may) refl
        (whole (y.ends ++ Refused f ∷ []) i (all_of y.ends (Refused f) i more) h)
    | inr few ↦
        ap (λ (p : Past). is_new (p.state Driver).stage) (sym ((told_all g opening y run).closed may.1.idle).0)
        ∙ behind y run ends (refused_ahead g y f ends may.1.idle ahead) i (shorter y.ends (Refused f) i few h)
  ]

  -- ---- the facts, of all that was sent so far

  abbrev Holds : List EventEnd → List Entry → Type 0
  Holds ends es =
      Hold w opening.minimum (see_all w (times w ends) (nothing_seen opening) es) (tell_all w (nothing_told (clean_event w ends)) es)

  hold_now : (x : Play) → Reachable g opening x → (ends : List EventEnd) → Ahead x ends → IsBehind x.live.state → Holds ends x.journal
  hold_now x run ends ahead set =
      let k = times w ends in
      let r = is_run g opening j is_opening x run ends ahead in
      let hold = (late_now g k opening j is_opening x.journal r.stand r.runs (r.set_up set)).hold in
      subst (λ (n : ℕ). Hold w n (see_all w k (nothing_seen opening) x.journal) (tell_all w (nothing_told (clean_event w ends)) x.journal))
      (sym is_opening.least)
      (subst (λ (s : Seen). Hold w g.minimum s (tell_all w (nothing_told (clean_event w ends)) x.journal))
      (sees g k opening j is_opening x.journal r.stand r.runs)
      (subst (λ (m : Told). Hold w g.minimum r.stand.seen m)
      (tells_so g k opening j is_opening x.journal r.stand r.runs ∙ ap (λ c. tell_all w (nothing_told c) x.journal) r.cleans) hold))

  -- ---- and at each moment

  abbrev HoldFrom : Play → List EventEnd → Type 0
  HoldFrom x ends = (i m : ℕ) → WasBehind x.ends i → length (until i x.journal) ≤ m → m ≤ length x.journal → Holds ends (take m x.journal)

  -- One more entry.
  entry_more : (y : Play) (e : Entry) (ends : List EventEnd) → HoldFrom y ends
      → ((i : ℕ) → WasBehind y.ends i → Holds ends (y.journal ++ e ∷ []))
      → (i m : ℕ) → WasBehind y.ends i → length (until i (y.journal ++ e ∷ [])) ≤ m → m ≤ length (y.journal ++ e ∷ []) → Holds ends
      (take m (y.journal ++ e ∷ []))
  entry_more y e ends old now i m h from to = elim (cases_lt (length y.journal) m) [
    | inl more ↦
        let all : length (y.journal ++ e ∷ []) ≤ m = omega (arith, length-append y.journal (e ∷ [])) in
        subst (Holds ends) (sym (taken m (y.journal ++ e ∷ []) all)) (now i h)
    | inr few ↦
        let parts : length (until i (y.journal ++ e ∷ [])) ≡ length (until i y.journal) + length (until i (e ∷ [])) =
        ap length (filter-append (λ x. nat_le x.event i) y.journal (e ∷ [])) ∙ length-append (until i y.journal) (until i (e ∷ [])) in
        let from_then : length (until i y.journal) ≤ m = omega arith in
        subst (Holds ends) (sym (take-append-le m y.journal (e ∷ []) few)) (old i m h from_then few)
  ]

  -- One more end.
  end_more : (y : Play) (end : EventEnd) (x : Play) (ends : List EventEnd) → x.ends ≡ y.ends ++ end ∷ [] → x.journal ≡ y.journal
      → x.now ≡ None → Reachable g opening x → Ahead x ends
      → HoldFrom y ends → HoldFrom x ends
  end_more y end x ends ends_are same idle run ahead old i m h from to = elim (cases_lt (length y.ends) i) [
    | inl more ↦
        let all : length x.ends ≤ i = subst (λ xs. length xs ≤ i) (sym ends_are) (all_of y.ends end i more) in
        let up = up_to_more (length x.ends) i x.journal all ((told_all g opening x run).closed idle).1 in
        let late : length x.journal ≤ m = subst (λ es. length es ≤ m) (until_all i x.journal up) from in
        subst (Holds ends) (sym (taken m x.journal late)) (hold_now x run ends ahead (behind_now x run idle (whole x.ends i all h)))
    | inr few ↦
        subst (λ es. Holds ends (take m es)) (sym same)
        (old i m (shorter y.ends end i few (subst (λ xs. WasBehind xs i) ends_are h)) (subst (λ es. length (until i es) ≤ m) same from)
        (subst (λ es. m ≤ length es) same to))
  ]

  holds : (x : Play) → Reachable g opening x → (ends : List EventEnd) → Ahead x ends → HoldFrom x ends
  holds x (nothing_happened) ends ahead = λ i m h from to. absurd (never_first i h)
  holds x (happens y (Sends e) run may) ends ahead =
      let z = happen g y (Sends e) in
      let after : Reachable g opening z = happens y (Sends e) run may in
      entry_more y e ends (holds y run ends (sent_ahead g y e ends ahead))
      (λ i h. hold_now z after ends ahead (behind z after ends ahead i h))
  holds x (happens y (Strays r o) run may) ends ahead =
      let z = happen g y (Strays r o) in
      let after : Reachable g opening z = happens y (Strays r o) run may in
      entry_more y (strange_entry (length y.ends) r o) ends (holds y run ends (strayed_ahead g y r o ends ahead))
      (λ i h. hold_now z after ends ahead (behind z after ends ahead i h))
  holds x (happens y (Opens ev) run may) ends ahead = holds y run ends (opened_ahead g y ev ends may.idle ahead)
  holds x (happens y (Finishes z) run may) ends ahead = holds y run ends (finished_ahead g y z ends ahead)
  holds x (happens y (Closes end) run may) ends ahead =
      end_more y end (happen g y (Closes end)) ends refl refl refl (happens y (Closes end) run may) ahead
      (holds y run ends (closed_ahead g y end ends (not_refused w y.past.state may.event end _ may.turns) ahead))
  holds x (happens y (Refuses f) run may) ends ahead =
      end_more y (Refused f) (happen g y (Refuses f)) ends refl refl refl (happens y (Refuses f) run may) ahead
      (holds y run ends (refused_ahead g y f ends may.1.idle ahead))

pub runs_hold_facts : RunsHoldFacts
runs_hold_facts g opening x legal is_opening run idle j m set from to =
    holds g opening legal is_opening x run x.ends (ahead_none x idle) j m
    (not_so (is_new ((past g.script (take j x.ends)).state Driver).stage) set) from to
