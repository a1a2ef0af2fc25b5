-- The entries of an event follow the turns of its kind.
use Rattle.text_and_lists.proofs.Members.{none_some}
use Rattle.job_model.specs.JobScript.{Script}
use Rattle.job_model.specs.declared.ends.EventEnd.{EventEnd}
use Rattle.job_model.specs.declared.events.Event.{Event}
use Rattle.job_model.specs.declared.events.Event.TheVariants.{Do, Kill, Mix, Recover, Restart, Run, Start, Step}
use Rattle.job_model.specs.declared.events.Op.{Op}
use Rattle.job_run.specs.inner.Events.{AllOf, ByTurns, IsFine, IsStill, TakenUp, event_entries}
use Rattle.job_run.specs.Holds.{Same, actor_or, table_of}
use Rattle.job_run.specs.declared.body.Body.{Body}
use Rattle.job_spec.specs.States.{actors, past}
use Rattle.job_spec.specs.Turns.{AllBy, Mixing, StepEnds, busy_actors, is_memory}
use Rattle.job_states.specs.Turning.{Ran, Stepped}
use Rattle.s3_types.specs.Store.{Scene}
use Rattle.s3_types.specs.declared.journal.Entry.{Entry}
use Rattle.s3_types.specs.declared.request.Actor.{Actor}
use Rattle.std.proofs.Common.{Bool, List, Some, ap, false, length, map, refl, slice_get, subst, sym, true, ℕ, [], ◌++◌, ◌∙◌, ◌∷◌, ◌≡◌}
use Rattle.std.proofs.lemmas.List.{map-id}
use Rattle.std.proofs.lemmas.Simd.{map-map}
use Rattle.job_states.specs.Mixes as mixes

-- ---- by the end of the event

module _ {W : Type 0} (c : Body W) where
  pub do_turns : (a : Actor) (op : Op) → AllOf a c → ByTurns c (Do a op)
  do_turns a op all = record { turns = rw all.finished all.by; told = rw all.finished refl }

  pub run_turns : (a : Actor) → AllOf a c → ByTurns c (Run a)
  run_turns a all = record { turns = rw all.finished all.by; told = rw all.finished refl }

  pub start_turns : (place : ℕ) (a : Actor) (op : Op) (goes_on : Bool) → TakenUp place a c goes_on → event_entries c ≡ []
      → ByTurns c (Start a op)
  start_turns place a op true taken fresh = record { turns = rw taken.1 fresh; told = rw taken.1 refl }
  start_turns place a op false taken fresh = record { turns = rw taken.1 fresh; told = rw taken.1 refl }

  pub still_turns : (ev : Event) → IsStill ev → IsFine c ev → event_entries c ≡ [] → c.side.finished.items ≡ [] → ByTurns c ev
  still_turns (Kill a) s fine fresh none = record { turns = rw none fresh; told = rw none refl }
  still_turns Restart s fine fresh none = record { turns = rw none fresh; told = rw none refl }
  still_turns (Recover a) s fine fresh none = absurd (none_some fine refl)
  still_turns _ s fine fresh none = absurd s

-- ---- an event without an entry yet, from b to c

module _ {W : Type 0} (left : W → Scene → ℕ) (rise : Script → ℕ) (place : ℕ) (a : Actor) (b c : Body W)
    (at : slice_get (actors b.side.script) place ≡ Some a) (fresh : event_entries b ≡ []) (none : b.side.finished.items ≡ []) where
  sent_is : (part : List Entry) → event_entries c ≡ event_entries b ++ part → part ≡ event_entries c
  sent_is part appended = sym (appended ∙ ap (λ es. es ++ part) fresh)

  sent_by : (part : List Entry) → event_entries c ≡ event_entries b ++ part → AllBy (actor_or (slice_get (actors b.side.script) place)) part
      → AllBy a (event_entries c)
  sent_by part appended by = subst (AllBy a) (sent_is part appended) (subst (λ v. AllBy v part) (ap actor_or at) by)

  pub ran_all : Ran place (table_of left rise b) (table_of left rise c) → AllOf a c
  ran_all ran = record {
    by = sent_by ran.part ran.appended ran.by;
    end = ran.ending.end;
    finished =
        ran.ending.told ∙ ap (λ xs. xs ++ record { actor = actor_or (slice_get (actors b.side.script) place); end = ran.ending.end } ∷ [])
        none
        ∙ ap (λ v. record { actor = v; end = ran.ending.end } ∷ []) (ap actor_or at);
  }

  pub step_turns : (n : ℕ) (goes_on : Bool) → Stepped place n (table_of left rise b) (table_of left rise c) goes_on → ByTurns c (Step a n)
  unfolding ran_all
  step_turns n true s =
      let over = s.0.ended ∙ none in record {
        turns = rw over (
          sent_by s.0.part s.0.appended s.0.by,
          ap length
              (sym (sent_is s.0.part s.0.appended)) ∙ s.1,
        );
        told = rw over refl;
      }
  step_turns n false s =
      let all = ran_all s.0 in
      record {
        turns = rw all.finished (all.by, subst (StepEnds (is_memory s.0.ending.end) n) (sent_is s.0.part s.0.appended) s.1);
        told =
            rw all.finished refl;
      }

-- ---- a mix

module _ {W : Type 0} (left : W → Scene → ℕ) (rise : Script → ℕ) (seed : ℕ) (places : List ℕ) (b c : Body W) (same : Same b c)
    (fresh : event_entries b ≡ []) (none : b.side.finished.items ≡ [])
    (busy : map (slice_get (actors b.side.script)) places ≡ map (λ x. Some x)
    (busy_actors b.side.script (past b.side.script b.side.ends.items).state)) where
  busy_then : map (λ q. actor_or (slice_get (actors b.side.script) q)) places ≡ busy_actors c.side.script
      (past c.side.script c.side.ends.items).state
  busy_then =
      sym (map-map actor_or (slice_get (actors b.side.script)) places) ∙ ap (map actor_or) busy ∙ map-map actor_or (λ x. Some x) _ ∙ map-id
      _
      ∙ sym (ap (λ (w : Script). busy_actors w (past w c.side.ends.items).state) same.stays.script ∙ ap
      (λ (xs : List EventEnd). busy_actors b.side.script (past b.side.script xs).state) (ap (λ v. v.items) same.ends))

  pub mix_turns : mixes.Mixed seed places (table_of left rise b) (table_of left rise c) → ByTurns c (Mix seed)
  mix_turns m =
      let part : m.part ≡ event_entries c = sym (m.appended ∙ ap (λ es. es ++ m.part) fresh) in
      let ends : m.ends ≡ c.side.finished.items = sym (m.told ∙ ap (λ xs. xs ++ m.ends) none) in
      record {
        turns = subst (λ es. Mixing seed (busy_actors c.side.script (past c.side.script c.side.ends.items).state) es c.side.finished.items
            []) part
            (subst (λ xs. Mixing seed (busy_actors c.side.script (past c.side.script c.side.ends.items).state) m.part xs []) ends
            (subst (λ bs. Mixing seed bs m.part m.ends []) busy_then m.mixing));
        told = refl;
      }
