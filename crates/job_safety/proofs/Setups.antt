-- How the driver's set-up ends in a run.
use Rattle.job_model.specs.Known.{Known}
use Rattle.job_model.specs.Legal.{IsLegal}
use Rattle.job_model.specs.declared.ends.SetupEnd.{SetupEnd}
use Rattle.job_outcomes.proofs.EventRows.{alone as by_all}
use Rattle.job_outcomes.proofs.SetupEnds.{setups_end}
use Rattle.job_protocol.specs.Operations.{Operation, Setting, TheSetup, advance, over, wants}
use Rattle.job_protocol.specs.Setup.{Setup, setup_start}
use Rattle.job_safety.proofs.Cuts.{all_by_back}
use Rattle.job_safety.proofs.Early.{early}
use Rattle.job_safety.proofs.Ending.{Ending, ending}
use Rattle.job_safety.proofs.Sorts.{driver_setup, kind_run, memory_setup, over_kind}
use Rattle.job_safety.proofs.Spans.{honest, mine, scene_is, start}
use Rattle.job_safety.proofs.Strange.{own_all}
use Rattle.job_safety.specs.RunsKeep.{SetupsEndAmong}
use Rattle.job_spec.specs.Entries.{AreOwn}
use Rattle.job_spec.specs.Follows.{known_then}
use Rattle.job_spec.specs.OperationEnds.{SetupIs}
use Rattle.job_spec.specs.Promise.{SetupsEnd}
use Rattle.job_spec.specs.States.{Doing, is_new}
use Rattle.job_spec.specs.Turns.{AllBy, before, by_actor}
use Rattle.script_steps.specs.Transitions.{Play, Reachable}
use Rattle.protocol_runs.proofs.EveryRun.{own_front}
use Rattle.protocol_runs.specs.Runs.{IsOpening}
use Rattle.retries.specs.Operation.{Follows, run}
use Rattle.retries.specs.Retries.{Retried, fresh}
use Rattle.retries.specs.Worn.{WornFirst}
use Rattle.s3_types.specs.Moment.{AreHonest, after_all, moment}
use Rattle.s3_types.specs.Store.{Content, Scene}
use Rattle.s3_types.specs.declared.journal.Entry.{Entry}
use Rattle.s3_types.specs.declared.request.Actor.TheVariants.{Driver}
use Rattle.s3_types.specs.declared.request.Request.{Request}
use Rattle.std.proofs.Common.{List, None, Option, Some, inl, inr, length, refl, subst, sym, true, ℕ, ◌∙◌, ◌≡◌}
use Rattle.s3_types.specs.Store as store
use Rattle.job_model.specs.declared.ends.OpEnd.TheVariants as ends

module _ (g : Setting) (opening : Content) (j : IsLegal g.script) (is_opening : IsOpening g opening) (x : Play)
    (run_x : Reachable g opening x) (idle : x.now ≡ None) where
  module _ (i : ℕ) (d : Doing) (e : SetupEnd) (es : List Entry) (n : Ending g opening x i Driver d (ends.Setup e) es) where
    abbrev k : Known
    k = known_then g Driver d (by_actor Driver n.closed.at.journal)

    abbrev first : Retried Setup
    first = fresh g.script.retries setup_start

    abbrev EndsSo : Operation → Type 0
    EndsSo v = over (run (advance g Driver) (record { operation = v; known = k }) es).operation ≡ Some (ends.Setup e)

    begun : EndsSo n.op → n.op ≡ TheSetup first
    begun o = driver_setup g d.op d.reports k n.op n.begun_is (sym (kind_run g Driver (record { operation = n.op; known = k }) es) ∙
        over_kind _ (ends.Setup e) o)

    follows_so : n.op ≡ TheSetup first → Follows (wants g Driver) (advance g Driver) (record { operation = TheSetup first; known = k }) es
    follows_so is = subst (λ v. Follows (wants g Driver) (advance g Driver) (record { operation = v; known = k }) es) is n.follows

    -- By what the store held when it began, if all entries since then are its own.
    setup_so : AreOwn x.journal → EndsSo n.op → is_new (n.closed.at.past.state Driver).stage ≡ true
        → (worn : Option Request) × WornFirst g.script.retries es worn
        × SetupIs g.script (moment opening x.journal (length (before d.since x.journal))).content worn e
    setup_so alone o new =
        let s = start g opening x i Driver d (ends.Setup e) es n in
        let b = begun o in
        let all : AllBy Driver s.entries = all_by_back Driver s.at.journal s.entries
        (subst (AllBy Driver) s.all (subst (AllBy Driver) (own_all n.closed.at.journal
        (own_front n.closed.at.journal n.closed.entries (subst AreOwn n.closed.all alone)))
        ((early g opening j is_opening n.closed.at n.closed.happened).alone new))) in
        let own : es ≡ s.entries = mine g opening x i Driver d (ends.Setup e) es n ∙ by_all Driver s.entries all in
        let scene : Scene = after_all (store.opening opening) s.at.journal in
        let true_so : AreHonest scene es = subst (AreHonest scene) (sym own) (honest g opening x i Driver d (ends.Setup e) es n) in
        let r = setups_end.running g j Driver k scene es (follows_so b) true_so e (subst EndsSo b o) in
        (r.0, r.1, subst (λ (v : Scene). SetupIs g.script v.content r.0 e) (sym (scene_is g opening x i Driver d (ends.Setup e) es n)) r.2)

  pub setups_among : SetupsEndAmong g.script x.journal x.ends
  setups_among i d e es h =
      let n = ending g opening x run_x idle i Driver refl d (ends.Setup e) es h in
      elim n.ended [
        | inl memory ↦ inl (memory_setup e memory)
        | inr o ↦ (let b = begun i d e es n o in inr (setups_end.listed g Driver (k i d e es n) es (follows_so i d e es n b) e
            (subst (EndsSo i d e es n) b o)))
      ]

  pub setups_kept : SetupsEnd g.script opening x.journal x.ends
  setups_kept alone i d e es h =
      let n = ending g opening x run_x idle i Driver refl d (ends.Setup e) es h in
      elim n.ended [
        | inl memory ↦ inl (memory_setup e memory)
        | inr o ↦ elim ((early g opening j is_opening n.closed.at n.closed.happened).set n.place e n.finished) [
          | inl memory ↦ inl (memory_setup e memory)
          | inr new ↦ inr (setup_so i d e es n alone o new)
        ]
      ]
