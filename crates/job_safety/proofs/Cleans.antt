-- How the driver's abort or clean of the job ends in a run.
use Rattle.text_and_lists.proofs.Members.{false_true, none_some, true_or_false}
use Rattle.job_model.specs.Known.{Known}
use Rattle.job_model.specs.Legal.{IsLegal}
use Rattle.job_model.specs.declared.ends.CleanEnd.{CleanEnd}
use Rattle.job_outcomes.proofs.CleanEnds.{cleans_end}
use Rattle.job_outcomes.proofs.RunEntries.{behind_last}
use Rattle.job_protocol.proofs.Begun.{clean_alone}
use Rattle.job_protocol.specs.Cleanups.{clean_start}
use Rattle.job_protocol.specs.Operations.{Operation, Setting, TheClean, advance, over, wants}
use Rattle.job_safety.proofs.Cuts.{moment_cut, since_cut}
use Rattle.job_safety.proofs.Ending.{Ending, ending, journal_until, until_strange}
use Rattle.job_safety.proofs.Sorts.{driver_clean, kind_run, memory_clean, over_kind}
use Rattle.job_safety.proofs.Spans.{early, honest, mine, scene_is, start}
use Rattle.job_safety.proofs.Strange.{strange_last}
use Rattle.job_spec.specs.Follows.{known_then}
use Rattle.job_spec.specs.OperationEnds.{Cleaned}
use Rattle.job_spec.specs.Promise.{CleansEnd}
use Rattle.job_spec.specs.States.{Doing, same_actor}
use Rattle.job_spec.specs.Turns.{AllBy, AllFrom, before, by_actor, is_memory, since, until, until_last}
use Rattle.script_steps.specs.Transitions.{Play, Reachable}
use Rattle.protocol_runs.proofs.Changes.{after_parts}
use Rattle.retries.specs.Operation.{Follows, run}
use Rattle.retries.specs.Retries.{fresh}
use Rattle.s3_types.specs.Moment.{AreHonest, after_all, effect, moment}
use Rattle.s3_types.specs.Store.{Content, Scene}
use Rattle.s3_types.specs.declared.journal.Entry.{Entry}
use Rattle.s3_types.specs.declared.request.Actor.{Actor}
use Rattle.s3_types.specs.declared.request.Actor.TheVariants.{Driver}
use Rattle.std.proofs.Common.{Bool, List, None, Some, ap, append_assoc, arith, cond, false, inl, inr, length, refl, subst, sym, true, ℕ, []}
use Rattle.std.proofs.Common.{◌++◌, ◌+◌, ◌||◌, ◌∙◌, ◌∷◌, ◌≡◌, ◌⊎◌}
use Rattle.std.specs.List.{list_any}
use Rattle.s3_types.specs.Store as store
use Rattle.job_model.specs.declared.ends.CleanEnd.TheVariants as cleans
use Rattle.job_model.specs.declared.ends.OpEnd.TheVariants as ends

-- ---- a front of entries

from_front : (n : ℕ) (es fs : List Entry) → AllFrom n (es ++ fs) → AllFrom n es
from_front n [] fs h = tt
from_front n (e ∷ es) fs h = (h.0, from_front n es fs h.1)

honest_front : (s : Scene) (es fs : List Entry) → AreHonest s (es ++ fs) → AreHonest s es
honest_front s [] fs h = tt
honest_front s (e ∷ es) fs h = (h.0, honest_front (effect s e.request e.outcome) es fs h.1)

-- ---- up to an actor's last entry

abbrev has_entry : Actor → List Entry → Bool
has_entry a es = list_any (λ e. same_actor e.actor a) es

has_more : (a : Actor) (es fs : List Entry) → has_entry a fs ≡ true → has_entry a (es ++ fs) ≡ true
has_more a [] fs h = h
has_more a (e ∷ es) fs h = by (same_actor e.actor a) (has_more a es fs h)
  where
    by : (b : Bool) → has_entry a (es ++ fs) ≡ true → (b || has_entry a (es ++ fs)) ≡ true
    by true g = refl
    by false g = g

-- It lies in the later part, if that has an entry of the actor.
last_behind : (a : Actor) (es fs : List Entry) → has_entry a fs ≡ true → until_last a (es ++ fs) ≡ es ++ until_last a fs
last_behind a [] fs h = refl
last_behind a (e ∷ es) fs h =
    ap (λ b. cond b (e ∷ until_last a (es ++ fs)) []) (has_more a (e ∷ es) fs h) ∙ ap (λ l. e ∷ l) (last_behind a es fs h)

none_of : (a : Actor) (es : List Entry) → has_entry a es ≡ false → by_actor a es ≡ []
none_of a [] h = refl
none_of a (e ∷ es) h = by (same_actor e.actor a) h (λ g. none_of a es g)
  where
    by : (b : Bool) → (b || has_entry a es) ≡ false → (has_entry a es ≡ false → by_actor a es ≡ [])
        → cond b (e ∷ by_actor a es) (by_actor a es) ≡ []
    by true g rest = absurd (false_true g refl)
    by false g rest = rest g

same_so : (e : Entry) → e.actor ≡ Driver → same_actor e.actor Driver ≡ true
same_so e is = ap (λ a. same_actor a Driver) is

-- If all entries up to the driver's last one are the driver's, they are all entries of the driver.
only_last : (es : List Entry) → AllBy Driver (until_last Driver es) → by_actor Driver es ≡ until_last Driver es
only_last [] h = refl
only_last (e ∷ es) h = by (has_entry Driver (e ∷ es)) refl h (λ all. only_last es all)
  where
    by : (b : Bool) → has_entry Driver (e ∷ es) ≡ b → AllBy Driver (cond b (e ∷ until_last Driver es) [])
        → (AllBy Driver (until_last Driver es) → by_actor Driver es ≡ until_last Driver es) → by_actor Driver (e ∷ es) ≡ cond b
        (e ∷ until_last Driver es) []
    by true is all rest = ap (λ b. cond b (e ∷ by_actor Driver es) (by_actor Driver es)) (same_so e all.0) ∙ ap (λ l. e ∷ l) (rest all.1)
    by false is all rest = none_of Driver (e ∷ es) is

module _ (g : Setting) (single : g.shared ≡ false) (opening : Content) (j : IsLegal g.script) (x : Play) (run_x : Reachable g opening x)
    (idle : x.now ≡ None) where
  module _ (i : ℕ) (d : Doing) (e : CleanEnd) (es : List Entry) (n : Ending g opening x i Driver d (ends.Clean e) es) where
    abbrev k : Known
    k = known_then g Driver d (by_actor Driver n.closed.at.journal)

    abbrev first : Operation
    first = TheClean (fresh g.script.retries clean_start)

    abbrev EndsSo : Operation → List Entry → Type 0
    EndsSo v fs = over (run (advance g Driver) (record { operation = v; known = k }) fs).operation ≡ Some (ends.Clean e)

    begun : EndsSo n.op es → n.op ≡ first
    begun o =
        let kind = sym (kind_run g Driver (record { operation = n.op; known = k }) es) ∙ over_kind _ (ends.Clean e) o in
        (driver_clean g d.op d.reports k n.op n.begun_is kind).1 ∙ clean_alone g single

    follows_so : n.op ≡ first → Follows (wants g Driver) (advance g Driver) (record { operation = first; known = k }) es
    follows_so is = subst (λ v. Follows (wants g Driver) (advance g Driver) (record { operation = v; known = k }) es) is n.follows

    -- The operation has sent something.
    has_sent : (fs : List Entry) → es ≡ by_actor Driver fs → EndsSo first es → has_entry Driver fs ≡ true
    has_sent fs mine o = elim (true_or_false (has_entry Driver fs)) [
      | inl is ↦ is
      | inr none ↦ absurd (none_some refl (subst (EndsSo first) (mine ∙ none_of Driver fs none) o))
    ]

    -- The entries up to its last one, if nobody else has sent since it began.
    module _ (done : e ≡ cleans.Done) (o : EndsSo first es)
        (follows : Follows (wants g Driver) (advance g Driver) (record { operation = first; known = k }) es) where
      abbrev s : Play
      s = (start g opening x i Driver d (ends.Clean e) es n).at

      abbrev fs : List Entry
      fs = (start g opening x i Driver d (ends.Clean e) es n).entries

      abbrev us : List Entry
      us = until_last Driver fs

      last_is : until_last Driver (until (i + 1) x.journal) ≡ s.journal ++ us
      last_is =
          ap (until_last Driver) (journal_until g opening x run_x idle i n.event_end n.closed)
          ∙ strange_last Driver refl n.closed.at.journal (until (i + 1) n.closed.entries)
          (until_strange g opening x run_x idle i n.event_end n.closed)
          ∙ ap (until_last Driver) (start g opening x i Driver d (ends.Clean e) es n).all
          ∙ last_behind Driver s.journal fs (has_sent fs (mine g opening x i Driver d (ends.Clean e) es n) o)

      parts : us ++ (behind_last Driver fs).0 ≡ fs
      parts = (behind_last Driver fs).1

      since_so : since d.since (s.journal ++ us) ≡ us
      since_so =
          let b = start g opening x i Driver d (ends.Clean e) es n in
          let late = from_front d.since us (behind_last Driver fs).0 (subst (AllFrom d.since) (sym parts) b.after) in
          subst (λ v. AllFrom v us → since v (s.journal ++ us) ≡ us) (sym b.since_is)
          (since_cut (length s.ends) s.journal us (early g opening x i Driver d (ends.Clean e) es n)) late

      journal_so : x.journal ≡ (s.journal ++ us) ++ ((behind_last Driver fs).0 ++ n.closed.entries)
      journal_so =
          let more = (behind_last Driver fs).0 in
          n.closed.all ∙ ap (λ l. l ++ n.closed.entries)
          ((start g opening x i Driver d (ends.Clean e) es n).all ∙ ap (λ l. s.journal ++ l) (sym parts) ∙ sym
          (append_assoc s.journal us more))
          ∙ append_assoc (s.journal ++ us) more n.closed.entries

      abbrev scene : Scene
      scene = after_all (store.opening opening) s.journal

      moment_so : moment opening x.journal (length (s.journal ++ us)) ≡ after_all scene us
      moment_so =
          ap (λ l. moment opening l (length (s.journal ++ us))) journal_so ∙ moment_cut opening (s.journal ++ us)
          ((behind_last Driver fs).0 ++ n.closed.entries)
          ∙ after_parts (store.opening opening) s.journal us

      left : AllBy Driver us → Cleaned g.script scene (after_all scene us)
      left all =
          let own : es ≡ us = mine g opening x i Driver d (ends.Clean e) es n ∙ only_last fs all in
          let true_so : AreHonest scene us = honest_front scene us (behind_last Driver fs).0
          (subst (AreHonest scene) (sym parts) (honest g opening x i Driver d (ends.Clean e) es n)) in
          let over_so = subst (λ v. over (run (advance g Driver) (record { operation = first; known = k }) us).operation ≡ Some
          (ends.Clean v)) done (subst (EndsSo first) own o) in
          cleans_end.cleaned g j Driver k scene us
          (subst (Follows (wants g Driver) (advance g Driver) (record { operation = first; known = k })) own follows) true_so over_so

      cleaned_last : AllBy Driver (since d.since (s.journal ++ us))
          → Cleaned g.script (moment opening x.journal (length (before d.since x.journal)))
          (moment opening x.journal (length (s.journal ++ us)))
      cleaned_last all =
          subst (λ v. Cleaned g.script v (moment opening x.journal (length (s.journal ++ us))))
          (sym (scene_is g opening x i Driver d (ends.Clean e) es n))
          (subst (Cleaned g.script scene) (sym moment_so) (left (subst (AllBy Driver) since_so all)))

    abbrev CleanedAt : List Entry → Type 0
    CleanedAt ls =
        AllBy Driver (since d.since ls) → Cleaned g.script (moment opening x.journal (length (before d.since x.journal)))
        (moment opening x.journal (length ls))

    cleaned_so : e ≡ cleans.Done → CleanedAt (until_last Driver (until (i + 1) x.journal))
    cleaned_so is =
        let o : EndsSo n.op es = elim n.ended
        [ inl memory ↦ absurd (false_true (ap (λ v. is_memory (ends.Clean v)) is) memory) | inr o ↦ o ] in
        let b = begun o in
        let from_first = subst (λ v. EndsSo v es) b o in
        let follows = follows_so b in
        subst CleanedAt (sym (last_is is from_first follows)) (cleaned_last is from_first follows)

  pub cleans_kept : CleansEnd g.script opening x.journal x.ends
  cleans_kept i d e es h =
      let n = ending g opening x run_x idle i Driver refl d (ends.Clean e) es h in (
        elim n.ended [
          | inl memory ↦ inl (memory_clean e memory)
          | inr o ↦
              let b = begun i d e es n o in
              inr (cleans_end.ends g Driver (k i d e es n) es (follows_so i d e es n b) e (subst (λ v. EndsSo i d e es n v es) b o))
        ],
        cleaned_so i d e es n,
      )
