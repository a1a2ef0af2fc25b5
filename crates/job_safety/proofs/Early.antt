-- Until the driver's set-up is over, all of the job's entries are the driver's: no attempt has begun before.
use Rattle.text_and_lists.proofs.Members.{none_some}
use Rattle.job_model.specs.JobScript.{Script}
use Rattle.job_model.specs.Legal.{IsLegal}
use Rattle.job_model.specs.declared.ends.ActorEnd.{ActorEnd}
use Rattle.job_model.specs.declared.ends.EventEnd.TheVariants.{Done}
use Rattle.job_model.specs.declared.ends.OpEnd.{OpEnd}
use Rattle.job_model.specs.declared.ends.SetupEnd.{SetupEnd}
use Rattle.job_model.specs.declared.events.Event.{Event}
use Rattle.job_model.specs.declared.events.Event.TheVariants.{Do, Start}
use Rattle.job_model.specs.declared.events.Op.{Op}
use Rattle.job_model.specs.declared.states.ActorStage.{ActorStage}
use Rattle.job_model.specs.declared.states.ActorState.{ActorState}
use Rattle.job_model.specs.declared.states.Life.TheVariants.{Busy}
use Rattle.job_outcomes.proofs.RunEntries.{all_more}
use Rattle.job_protocol.specs.Operations.{Operation, Running, Setting, over}
use Rattle.job_safety.proofs.Sorts.{OfSetup, kind, over_kind}
use Rattle.job_spec.specs.States.{Past, ended, is_new, needs_set, open_event, put, refusal}
use Rattle.job_spec.specs.Turns.{AllBy, is_memory, is_own, own}
use Rattle.script_steps.proofs.Actors.{put_here, put_other, same_or_not}
use Rattle.script_steps.proofs.Parts.{get_last, own_own}
use Rattle.script_steps.proofs.Running.{carried}
use Rattle.script_steps.proofs.RunningStages.{DriverAt, IsBehind, begins_so, driver_ends, may_end, memory_dies}
use Rattle.script_steps.proofs.Told.{told_all}
use Rattle.script_steps.specs.Running.{operation_of}
use Rattle.script_steps.specs.Transitions.{Closes, Finishes, MayFinish, MaySend, Opens, Play, Reachable, Refuses, Sends, Strays, happens}
use Rattle.script_steps.specs.Transitions.{nothing_happened, open_running}
use Rattle.protocol_runs.specs.Runs.{IsOpening}
use Rattle.s3_types.specs.Store.{Content}
use Rattle.s3_types.specs.declared.journal.Entry.{Entry}
use Rattle.s3_types.specs.declared.request.Actor.{Actor}
use Rattle.s3_types.specs.declared.request.Actor.TheVariants.{Driver}
use Rattle.std.proofs.Common.{None, Option, Some, ap, arith, cond, false, inl, inr, length, refl, slice_get, subst, sym, true, ℕ, [], ◌&&◌}
use Rattle.std.proofs.Common.{◌++◌, ◌∙◌, ◌∷◌, ◌≡◌, ◌⊎◌}
use Rattle.std.proofs.lemmas.List.Elements.{filter-append}
use Rattle.job_model.specs.declared.ends.OpEnd.TheVariants as ends
use Rattle.job_model.specs.declared.states.ActorStage.TheVariants as stage

-- ---- stages

behind_none : (op : Operation) → IsBehind (Some op) → kind op ≡ OfSetup → ⊥
behind_none op h g = grind arith

-- A busy driver that runs its set-up is new.
new_of : (s : ActorStage) (op : Operation) → DriverAt s Busy (Some op) → kind op ≡ OfSetup → is_new s ≡ true
new_of s op h g = grind arith

open_new : (w : Script) (p : Past) (ev : Event) → is_new ((open_event w p ev).state Driver).stage ≡ true
    → is_new (p.state Driver).stage ≡ true
open_new w p ev h = grind arith

-- ---- what each step keeps

pub record Early (x : Play) : Type 0 where
  -- A driver that is not new any more never is again.
  pub kept : is_new (x.live.state Driver).stage ≡ true → is_new (x.past.state Driver).stage ≡ true
  -- In an event that began with a new driver, all entries are the driver's.
  pub alone : is_new (x.past.state Driver).stage ≡ true → AllBy Driver (own x.journal)
  pub nobody : is_new (x.past.state Driver).stage ≡ true → (a : Actor) → (a ≡ Driver → ⊥) → x.running a ≡ None
  -- A set-up ends only in such an event.
  pub set : (i : ℕ) (e : SetupEnd) → slice_get x.finished i ≡ Some (record { actor = Driver; end = ends.Setup e })
      → (is_memory (ends.Setup e) ≡ true) ⊎ (is_new (x.past.state Driver).stage ≡ true)

module _ (g : Setting) (opening : Content) (j : IsLegal g.script) (is_opening : IsOpening g opening) where
  -- However the run may go on.
  pub driver_now : (x : Play) → Reachable g opening x
      → DriverAt (x.live.state Driver).stage (x.live.state Driver).life (operation_of (x.running Driver))
  driver_now x past = (carried g opening j is_opening x past (x.ends ++ Done ∷ [])
      (record { rest = Done ∷ []; is = refl; going = λ ev e. (Done, [], refl, refl) })).along.driver_at

  -- Between two events, the driver's operation fits its stage.
  pub driver_past : (y : Play) → Reachable g opening y → y.now ≡ None
      → DriverAt (y.past.state Driver).stage (y.past.state Driver).life (operation_of (y.running Driver))
  driver_past y past idle = subst (λ (p : Past). DriverAt (p.state Driver).stage (p.state Driver).life (operation_of (y.running Driver)))
      ((told_all g opening y past).closed idle).0 (driver_now y past)

  -- The operation of a busy driver.
  pub driver_busy : (x : Play) → Reachable g opening x → (m : Running) → (x.live.state Driver).life ≡ Busy → x.running Driver ≡ Some m
      → DriverAt (x.live.state Driver).stage Busy (Some m.operation)
  driver_busy x past m busy is = subst (λ l. DriverAt (x.live.state Driver).stage l (Some m.operation)) busy
      (subst (DriverAt (x.live.state Driver).stage (x.live.state Driver).life) (ap operation_of is) (driver_now x past))

  -- ---- an event begins

  begun_nobody : (y : Play) (b : Actor) (op : Op) → Early y → (needs_set b op && is_new (y.past.state Driver).stage) ≡ false
      → is_new (y.past.state Driver).stage ≡ true → (v : Option Running) → (a : Actor) → (a ≡ Driver → ⊥) → put y.running b v a ≡ None
  begun_nobody y b op h g e v a f = grind arith

  opened_nobody : (y : Play) (ev : Event) → Early y → refusal y.past.state ev ≡ None → is_new (y.past.state Driver).stage ≡ true
      → (a : Actor) → (a ≡ Driver → ⊥) → open_running g y ev a ≡ None
  opened_nobody y (Do b op) old fine new a ne = begun_nobody y b op old (begins_so (y.past.state Driver).stage b op (y.past.state b).life
      (y.past.state b).stage fine).set new _ a ne
  opened_nobody y (Start b op) old fine new a ne = begun_nobody y b op old (begins_so (y.past.state Driver).stage b op (y.past.state b).life
      (y.past.state b).stage fine).set new _ a ne
  opened_nobody y _ old fine new a ne = old.nobody new a ne

  -- ---- a request is sent

  sender : (y : Play) (e : Entry) → Early y → MaySend g opening y e → is_new (y.past.state Driver).stage ≡ true → e.actor ≡ Driver
  sender y e h g f = grind arith

  -- ---- an operation ends

  -- The driver's operation ends.
  ended_new : (y : Play) → Reachable g opening y → (e : OpEnd) → (y.live.state Driver).life ≡ Busy → (is_memory e ≡ true)
      ⊎ ((m : Running) × (y.running Driver ≡ Some m) × (over m.operation ≡ Some e))
      → is_new (ended e (y.live.state Driver).stage).stage ≡ true → is_new (y.live.state Driver).stage ≡ true
  ended_new y past e busy (inl memory) new = ap (λ (s : ActorState). is_new s.stage)
      (sym (memory_dies e (y.live.state Driver).stage memory)) ∙ new
  ended_new y past e busy (inr q) new = (driver_ends (y.live.state Driver).stage q.0.operation e (driver_busy y past q.0 busy q.1) q.2).1
      new

  finished_new : (y : Play) → Reachable g opening y → (v : ActorEnd) → MayFinish y v
      → is_new (put y.live.state v.actor (ended v.end (y.live.state v.actor).stage) Driver).stage ≡ true
      → is_new (y.live.state Driver).stage ≡ true
  finished_new y h v g e = grind (arith, same_or_not, ended_new, may_end, put_here, put_other)

  setup_new : (y : Play) → Reachable g opening y → (e : SetupEnd) → (y.live.state Driver).life ≡ Busy → (is_memory (ends.Setup e) ≡ true)
      ⊎ ((m : Running) × (y.running Driver ≡ Some m) × (over m.operation ≡ Some (ends.Setup e)))
      → (is_memory (ends.Setup e) ≡ true) ⊎ (is_new (y.live.state Driver).stage ≡ true)
  setup_new y past e busy (inl memory) = inl memory
  setup_new y past e busy (inr q) = inr (new_of (y.live.state Driver).stage q.0.operation (driver_busy y past q.0 busy q.1)
      (over_kind q.0.operation (ends.Setup e) q.2))

  -- ---- any step

  pub early : (x : Play) → Reachable g opening x → Early x
  early x (nothing_happened) = record { kept = λ n. n; alone = λ n. tt; nobody = λ n a ne. refl; set = λ i e h. absurd (none_some refl h) }
  early x (happens y (Refuses f) past may) = let old = early y past in record
      { kept = λ n. n; alone = old.alone; nobody = old.nobody; set = λ i e h. absurd (none_some refl h) }
  early x (happens y (Opens ev) past may) = let old = early y past in record {
    kept = open_new g.script y.past ev;
    alone = old.alone;
    nobody = opened_nobody y ev old may.refusal_is;
    set = λ i e h. absurd (none_some refl h);
  }
  early x (happens y (Sends e) past may) =
      let old = early y past in
      record {
        kept = old.kept;
        alone = λ n. let is = sender y e old may n in subst (AllBy Driver) (sym
            (filter-append (λ x. is_own x.actor) y.journal (e ∷ []) ∙ ap (λ b. own y.journal ++ cond b (e ∷ []) []) (ap is_own is)))
            (all_more Driver (own y.journal) (e ∷ []) (old.alone n) (is, tt));
        nobody = λ n a ne. put_other y.running e.actor _ a (λ s. ne (s ∙ sender y e old may n)) ∙ old.nobody n a ne;
        set = old.set;
      }
  early x (happens y (Finishes v) past may) =
      let old = early y past in
      record {
        kept = λ n. old.kept (finished_new y past v may n);
        alone = old.alone;
        nobody = old.nobody;
        set = λ i e h. elim (get_last y.finished v i _ h) [
          | inl k ↦ old.set i e k
          | inr q ↦ (
              let so = subst (MayFinish y) q.1 may in
              elim (setup_new y past e so.busy (may_end y _ so)) [ inl memory ↦ inl memory | inr new ↦ inr (old.kept new) ])
        ];
      }
  early x (happens y (Closes end) past may) = let old = early y past in record {
    kept = λ n. n;
    alone = λ n. old.alone (old.kept n);
    nobody = λ n. old.nobody (old.kept n);
    set = λ i e h. absurd (none_some refl h);
  }
  early x (happens y (Strays r o) past may) = let old = early y past in record {
    kept = old.kept;
    alone = λ n. subst (AllBy Driver) (sym (own_own y.journal (length y.ends) r o)) (old.alone n);
    nobody = old.nobody;
    set = old.set;
  }
