-- Turns of one actor, one after another.
use Rattle.job_spec.specs.Turns.{AllBy, StepEnds}
use Rattle.job_states.specs.Turning.{Beside, Ending, Going, Ran, Table, Turned}
use Rattle.job_states.specs.declared.actors.Turn.TheVariants.{Died, Ended, GoesOn}
use Rattle.s3_types.specs.declared.journal.Entry.{Entry}
use Rattle.s3_types.specs.declared.request.Actor.{Actor}
use Rattle.std.proofs.Common.{Bool, List, ap, append-nil, append_assoc, arith, false, length, length-append, refl, sym, true, ℕ, [], ◌++◌}
use Rattle.std.proofs.Common.{◌+◌, ◌<◌, ◌∙◌, ◌∷◌, ◌≡◌, ◌≤◌}

pub all_by_more : (a : Actor) (es : List Entry) (e : Entry) → AllBy a es → e.actor ≡ a → AllBy a (es ++ e ∷ [])
all_by_more a [] e h is = (is, tt)
all_by_more a (x ∷ es) e h is = (h.0, all_by_more a es e h.1 is)

abbrev pub going_begins : (place : ℕ) (s : Table) → s.goes_on place ≡ true → Going place s s
going_begins place s going = record {
  part = [];
  by = tt;
  appended = sym (append-nil s.entries);
  ended = refl;
  goes_on = going;
  room = omega arith;
  actors = λ q. refl;
  others = λ q ne. refl;
}

abbrev pub goes_on : {place : ℕ} {s t u : Table} → Going place s t → Turned place t u GoesOn → Going place s u
goes_on {place = place} {s = s} {t = t} {u = u} g turn =
    let x = turn.1.entry in
    let before = g.room in
    let after = turn.4 in
    record {
      part = g.part ++ x ∷ [];
      by = all_by_more (s.actor place) g.part x g.by (turn.1.by ∙ g.actors place);
      appended = turn.1.appended ∙ ap (λ es. es ++ x ∷ []) g.appended ∙ append_assoc s.entries g.part (x ∷ []);
      ended = turn.3 ∙ g.ended;
      goes_on = turn.2;
      room = omega (arith, before, after);
      actors = λ q. turn.0.actors q ∙ g.actors q;
      others = λ q ne. turn.0.others q ne ∙ g.others q ne;
    }

-- The operation has ended after these entries.
abbrev ran_on : {place : ℕ} {s t u : Table} → Going place s t → Beside place t u → Ending place t u → (part : List Entry)
    → AllBy (s.actor place) part → u.entries ≡ s.entries ++ part → Ran place s u
ran_on {place = place} {s = s} {t = t} {u = u} g b e part by appended =
    let before = g.room in
    let after = e.room in
    record {
      part = part;
      by = by;
      appended = appended;
      ending = record {
        end = e.end;
        told = e.told ∙ ap (λ xs. xs ++ record { actor = t.actor place; end = e.end } ∷ []) g.ended ∙ ap
            (λ a. s.ended ++ record { actor = a; end = e.end } ∷ []) (g.actors place);
        idle = e.idle;
        room = omega (arith, before, after);
      };
      actors = λ q. b.actors q ∙ g.actors q;
      others = λ q ne. b.others q ne ∙ g.others q ne;
    }

abbrev pub has_ended : {place : ℕ} {s t u : Table} → Going place s t → Turned place t u Ended → Ran place s u
has_ended {place = place} {s = s} g turn =
    let x = turn.1.entry in
    ran_on g turn.0 turn.2 (g.part ++ x ∷ []) (all_by_more (s.actor place) g.part x g.by (turn.1.by ∙ g.actors place))
    (turn.1.appended ∙ ap (λ es. es ++ x ∷ []) g.appended ∙ append_assoc s.entries g.part (x ∷ []))

abbrev pub has_died : {place : ℕ} {s t u : Table} → Going place s t → Turned place t u Died → Ran place s u
has_died g turn = ran_on g turn.0 turn.2.0 g.part g.by (turn.1 ∙ g.appended)

pub one_more : (es : List Entry) (e : Entry) → length (es ++ e ∷ []) ≡ length es + 1
one_more es e = length-append es (e ∷ [])

-- An operation that ended with a send.
pub ends_sending : (b : Bool) (n : ℕ) (es : List Entry) (e : Entry) → length es < n → StepEnds b n (es ++ e ∷ [])
ends_sending true n es e few = let l = one_more es e in omega (arith, l, few)
ends_sending false n es e few = let l = one_more es e in (omega (arith, l), omega (arith, l, few))

-- An operation that ended because memory ran out.
pub ends_unsent : (b : Bool) (n : ℕ) (es : List Entry) → b ≡ true → length es ≤ n → StepEnds b n es
ends_unsent b n es h g = grind arith
