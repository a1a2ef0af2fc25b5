-- How a shelf keeps up with a run, step by step.
use Rattle.durable_job.specs.Moves.{Adds, Stepped}
use Rattle.durable_job.specs.inner.Moves.{Stays, left_of}
use Rattle.durable_job.specs.Pace.{Behind, InPace, Lacks}
use Rattle.durable_job.specs.Played.{Counts}
use Rattle.job_model.specs.JobScript.{Script}
use Rattle.job_model.specs.declared.events.Event.{Event}
use Rattle.job_world.specs.Worlds.{FoundNone, Run, WentOn}
use Rattle.journal_log.proofs.Journals.{changes_append, changes_none}
use Rattle.journal_log.proofs.Leaving.{on_and_on, started}
use Rattle.journal_log.proofs.Standing.{begins_all, begins_more, holds_more, holds_none, short, some}
use Rattle.journal_log.proofs.Steps.{answered_then, some_grown, stops_of}
use Rattle.journal_log.specs.Appends.{AreAnswered, Stopped}
use Rattle.journal_log.specs.inner.Appends.{Appended}
use Rattle.journal_log.specs.Changes.{Begins, changes}
use Rattle.journal_log.specs.Crashes.{IsBetween, WhereTold}
use Rattle.journal_log.specs.Kept.{Holds, HoldsPart, IsMoment}
use Rattle.s3_types.specs.Store.{Content}
use Rattle.s3_types.specs.declared.journal.Entry.{Entry}
use Rattle.s3_types.specs.declared.request.Request.{Request}
use Rattle.devices.specs.Devices.{Rose}
use Rattle.devices.specs.Logged.{CrashesLeave, Holding, IsDurable, IsTimed, Sight, Stored}
use Rattle.devices.specs.declared.kept.ShelfStop.{ShelfStop}
use Rattle.devices.specs.declared.kept.ShelfStop.TheVariants.{Failed, NoMemory}
use Rattle.std.proofs.Common.{Bool, Err, IsErrOf, List, None, Ok, OnErr, OnOk, Option, Result, Some, ap, append-nil, append_assoc, arith}
use Rattle.std.proofs.Common.{drop, false, inl, inr, length, length-append, refl, slice_get, subst, sym, true, ℕ, [], ◌++◌, ◌+◌, ◌-◌, ◌<◌}
use Rattle.std.proofs.Common.{◌^◌, ◌∙◌, ◌∷◌, ◌≡◌, ◌≤◌, ◌⊎◌}
use Rattle.std.proofs.lemmas.List.{drop_at}
use Rattle.std.proofs.lemmas.Option.{slice_get_cases, slice_get_within}

-- ---- a step of a world

-- The event has its end.
module _ (r s : Run) (e : Event) (next : slice_get r.script.events (length r.ends) ≡ Some e) (w : WentOn r s) where
  one_end : length s.ends ≡ length r.ends + 1
  one_end = ap length w.ends ∙ length-append r.ends (w.end ∷ [])

  one_less : left_of r ≡ left_of s + 1
  one_less =
      let events : length s.script.events ≡ length r.script.events = ap (λ (v : Script). length v.events) w.script in
      let few : length r.ends < length r.script.events = slice_get_within r.script.events (length r.ends) e next in
      omega (arith, one_end)

  pub stepped : (part : List Entry) × Adds r.journal s.journal part × (left_of r ≡ left_of s + 1)
  stepped = (w.more.0, record { journal = w.more.1; number = length r.ends + 1; event = w.more.2 }, one_less)

  pub stays : Stays r s
  stays =
      let count : length s.ends + left_of s ≡ length r.ends + left_of r = omega (arith, one_end, one_less) in
      record { script = w.script; count = count }

-- The event did not happen.
pub stays_so : (r s : Run) → FoundNone r s → Stays r s
stays_so r s f =
    let events : length s.script.events ≡ length r.script.events = ap (λ (v : Script). length v.events) f.script in
    let ends : length s.ends ≡ length r.ends = ap length f.ends in
    let count : length s.ends + left_of s ≡ length r.ends + left_of r = omega arith in
    record { script = f.script; count = count }

-- Then the event is left.
pub left_so : (r s : Run) (e : Event) → slice_get r.script.events (length r.ends) ≡ Some e → FoundNone r s → 0 < left_of s
left_so r s e next f =
    let events : length s.script.events ≡ length r.script.events = ap (λ (v : Script). length v.events) f.script in
    let ends : length s.ends ≡ length r.ends = ap length f.ends in
    let few : length r.ends < length r.script.events = slice_get_within r.script.events (length r.ends) e next in
    let some : 0 < left_of s = omega arith in
    some

-- No event is left.
pub none_left : (r : Run) → slice_get r.script.events (length r.ends) ≡ None → left_of r ≡ 0
none_left r none =
    let cases = slice_get_cases r.script.events (length r.ends) in
    elim cases.1 [
      | inl h ↦ let bad : Some h.0 ≡ None = sym h.2 ∙ none in absurd (cc)
      | inr h ↦ let past : left_of r ≡ 0 = omega (arith, h.0) in past
    ]

-- ---- a step

module _ {M : Type 0} (sent : M → List Entry) (left : M → ℕ) (old new : M) (more : Bool) (step : Stepped sent left old new more) where
  -- A step was played.
  module _ (is : more ≡ true) where
    played : Stepped sent left old new true
    played = subst (Stepped sent left old new) is step

    pub falls : left new < left old
    falls =
        let less : left old ≡ left new + 1 = played.2 in
        omega arith

    pub adds_rest : (all : List Entry) (from : ℕ) → from ≡ length (sent old) → all ≡ sent new → Adds (sent old) (sent new) (drop from all)
    adds_rest all from first same =
        let rest : drop from all ≡ played.0 = ap (drop from) (same ∙ played.1.journal) ∙ drop_at (sent old) played.0 from (sym first) in
        subst (Adds (sent old) (sent new)) (sym rest) played.1

    pub within : (all : List Entry) (from : ℕ) → from ≡ length (sent old) → all ≡ sent new → from ≤ length all
    within all from first same =
        let longer : length all ≡ length (sent old) + length played.0 = ap length (same ∙ played.1.journal) ∙ length-append (sent old)
        played.0 in
        omega arith

  -- No step was left.
  module _ (is : more ≡ false) where
    ended : Stepped sent left old new false
    ended = subst (Stepped sent left old new) is step

    pub sent_same : sent new ≡ sent old
    sent_same = ap sent ended.1

    pub left_none : left new ≡ 0
    left_none = ap left ended.1 ∙ ended.0

-- ---- all entries so far

module _ {S : Type 0} (F : Sight S) (c : Content) where
  -- There are none yet.
  pub pace_begins : (es : List Entry) (s : S) → es ≡ [] → Holds (F.held s) c [] → IsTimed F → IsDurable (F.held s) (F.may_leave s)
      → InPace F c es s s
  pace_begins es s none holds timed durable = subst (λ (l : List Entry). InPace F c l s s) (sym none) (record {
    holds = subst (Holds (F.held s) c) (sym changes_none) holds;
    durable = durable;
    answered = subst (λ (rs : List Request). AreAnswered F rs s s) (sym changes_none) refl;
    leaves = started F s (λ h. WhereTold (F.held s) (IsMoment c [] h)) (λ h left. here (F.held s) holds durable h
        (timed.only_now s h left));
  })
    where
      here : (o : Option Stored) → Holds o c [] → IsDurable o (F.may_leave s) → (h : Holding) → F.may_leave s h
          → WhereTold o (IsMoment c [] h)
      here None holds durable h left = tt
      here (Some x) holds durable h left = subst (IsMoment c []) (sym (durable h left ∙ holds)) (some c [] [] (changes [], refl))

  -- The shelf took the entries of one more step.
  pub pace_on : (es fs part : List Entry) (first mid new : S) → InPace F c es first mid → Adds es fs part
      → Appended F (changes part) mid new → CrashesLeave F mid new (IsBetween (F.held mid) (changes part)) → InPace F c fs first new
  pace_on es fs part first mid new p a appended leaves = subst (λ (l : List Entry). InPace F c l first new) (sym a.journal) (record {
    holds = subst (Holds (F.held new) c) (sym both) (holds_more c (F.held mid) (F.held new) (changes es) (changes part) p.holds
        appended.grown);
    durable = appended.durable;
    answered = subst (λ (rs : List Request). AreAnswered F rs first new) (sym both)
        (answered_then F (changes es) (changes part) first mid new p.answered appended.answered);
    leaves = on_and_on F c es part first mid new p.holds (changes part, begins_all (changes part), appended.grown) p.leaves leaves;
  })
    where
      both : changes (es ++ part) ≡ changes es ++ changes part
      both = changes_append es part

  -- The shelf took only the first changes of the last step.
  pub pace_ends : (es fs part : List Entry) (first mid new : S) (fault : ShelfStop) → InPace F c es first mid → Adds es fs part
      → Stopped F fault (changes part) mid new → CrashesLeave F mid new (IsBetween (F.held mid) (changes part)) → Behind F c fs first new
  pace_ends es fs part first mid new fault p a stopped leaves =
      let grew = some_grown F fault (changes part) mid new stopped in
      let stops = stops_of F fault (changes part) mid new stopped in
      subst (λ (l : List Entry). Behind F c l first new) (sym a.journal) (record {
        part = short c (F.held mid) (F.held new) es part a.number p.holds a.event grew;
        stops = record {
          front = changes es ++ stops.front;
          begins = subst (Begins (changes es ++ stops.front)) (sym (changes_append es part))
              (begins_more (changes es) stops.front (changes part) stops.begins);
          at = stops.at;
          answered = answered_then F (changes es) stops.front first mid stops.at p.answered stops.answered;
          last = stops.last;
        };
        leaves = on_and_on F c es part first mid new p.holds grew p.leaves leaves;
      })

  -- If its append ran out of memory, the shelf lacks a change.
  pub lacks_at : (es fs part : List Entry) (first mid new : S) (fault : ShelfStop) → fault ≡ NoMemory → InPace F c es first mid
      → Adds es fs part → Stopped F fault (changes part) mid new → Lacks F c fs first new
  lacks_at es fs part first mid new fault is p a stopped =
      let s : Stopped F NoMemory (changes part) mid new = subst (λ (f : ShelfStop). Stopped F f (changes part) mid new) is stopped in
      subst (λ (l : List Entry). Lacks F c l first new) (sym a.journal) (record {
        front = changes es ++ s.front;
        next = s.next;
        rest = s.rest;
        parts = changes_append es part ∙ ap (λ (rs : List Request). changes es ++ rs) s.parts
            ∙ sym (append_assoc (changes es) s.front (s.next ∷ s.rest));
        holds = subst (λ (o : Option Stored). Holds o c (changes es ++ s.front)) (sym s.left_out.0)
            (holds_more c (F.held mid) (F.held s.at) (changes es) s.front p.holds s.grown);
        at = s.at;
        answered = answered_then F (changes es) s.front first mid s.at p.answered s.answered;
        starved = s.left_out.1;
      })

  -- The run stops there.
  pub pace_stops : (es fs : List Entry) (first now : S) → InPace F c es first now → fs ≡ es → Behind F c fs first now
  pace_stops es fs first now p same = subst (λ (l : List Entry). Behind F c l first now) (sym same) (record {
    part = subst (HoldsPart (F.held now) c) (append-nil es) (short c (F.held now) (F.held now) es [] 0 p.holds tt
        ([], (changes [], refl), holds_none (F.held now)));
    stops = record { front = changes es; begins = begins_all (changes es); at = now; answered = p.answered; last = inl refl };
    leaves = p.leaves;
  })

  pub leaves_so : {A : Type 0} (result : Result A ShelfStop) (es : List Entry) (first now : S) → OnOk result (InPace F c es first now)
      → OnErr result (Behind F c es first now) → CrashesLeave F first now (λ h. WhereTold (F.held now) (IsMoment c es h))
  leaves_so (Ok x) es first now p b = p.leaves
  leaves_so (Err e) es first now p b = b.leaves

-- ---- the count of faults

-- Nothing failed.
pub counts_none : (before mid after : ℕ) → mid ≡ before → after ≡ mid → Counts None before after
counts_none before mid after first second = second ∙ first

pub counts_some : {A : Type 0} (fault : ShelfStop) (before mid after : ℕ) → mid ≡ before → before < 2 ^ 64 - 1
    → (IsErrOf {T = A} {E = ShelfStop} (Err fault) Failed → Rose mid after)
    → ((IsErrOf {T = A} {E = ShelfStop} (Err fault) Failed → ⊥) → after ≡ mid) → Counts (Some fault) before after
counts_some Failed before mid after first few rose calm = less (rose refl)
  where
    less : Rose mid after → before < after
    less (inl l) = omega (arith, l, first)
    less (inr most) = absurd (omega (arith, most, first, few))
counts_some NoMemory before mid after first few rose calm = calm (λ e. cc) ∙ first

-- ---- a step before which memory ran out

pub fault_is : {A : Type 0} (fault : ShelfStop) (r : Result A ShelfStop) → r ≡ Err fault → IsErrOf r NoMemory → fault ≡ NoMemory
fault_is fault r is none = cc
