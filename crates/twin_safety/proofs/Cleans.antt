-- How an abort or clean at a shared destination ends in a run, and what it leaves.
use Rattle.text_and_lists.proofs.Members.{false_true, some_is}
use Rattle.job_model.specs.JobScript.{Script}
use Rattle.job_model.specs.Known.{Known}
use Rattle.job_model.specs.Legal.{IsLegal}
use Rattle.job_model.specs.declared.ends.CleanEnd.{CleanEnd}
use Rattle.job_protocol.specs.Operations.{Operation, Setting, TheSparing, advance, clean_of, over, wants}
use Rattle.job_protocol.specs.Seen.{Times}
use Rattle.job_protocol.specs.Sparing.{SparingOver, sparing_start}
use Rattle.job_safety.proofs.Cuts.{all_by_front}
use Rattle.job_safety.proofs.Ending.{Ending, ending, journal_until}
use Rattle.job_safety.proofs.History.{Began}
use Rattle.job_safety.proofs.Sorts.{driver_clean, kind_run, memory_clean, over_kind}
use Rattle.job_safety.proofs.Spans.{scene_is, since_is, start}
use Rattle.job_safety.proofs.Timed.{ahead_end, ahead_start, taken_then}
use Rattle.job_spec.specs.Follows.{known_then}
use Rattle.job_spec.specs.OperationEnds.{CleanIs}
use Rattle.job_spec.specs.States.{Doing, times}
use Rattle.job_spec.specs.Turns.{AllBy, before, by_actor, is_memory, is_own, own, since, until}
use Rattle.script_steps.specs.Running.{IsRun, operation_of}
use Rattle.script_steps.specs.Transitions.{Opens, Play, Reachable, happen}
use Rattle.protocol_runs.proofs.Changes.{moment_scene}
use Rattle.protocol_runs.proofs.Entries.{take_all}
use Rattle.protocol_runs.specs.Runs.{IsOpening}
use Rattle.retries.specs.Operation.{Follows, run}
use Rattle.retries.specs.Retries.{fresh}
use Rattle.retries.specs.Worn.{WornFirst}
use Rattle.s3_types.specs.Moment.{after_all, moment}
use Rattle.s3_types.specs.Store.{Content}
use Rattle.s3_types.specs.declared.journal.Entry.{Entry}
use Rattle.s3_types.specs.declared.request.Actor.TheVariants.{Driver}
use Rattle.s3_types.specs.declared.request.Request.{Request}
use Rattle.std.proofs.Common.{List, None, Option, Some, ap, arith, inl, inr, length, nat_le, refl, subst, sym, true, ℕ, ◌++◌, ◌+◌, ◌∙◌, ◌≡◌}
use Rattle.std.proofs.Common.{◌⊎◌}
use Rattle.std.proofs.lemmas.List.Elements.{filter-append}
use Rattle.twin_facts.proofs.Spared.{sparing_leaves}
use Rattle.twin_facts.specs.Spared.{SparingLeaves}
use Rattle.twin_safety.proofs.Meanwhile.{Going, Rest, clean_shared, goes_from, going, rest, run_from, set_from}
use Rattle.twin_safety.proofs.Sparing.{over_done, sparing_ends}
use Rattle.twin_safety.specs.Shared.{SharedCleans}
use Rattle.s3_types.specs.Store as store
use Rattle.job_model.specs.declared.events.Op.TheVariants as ops
use Rattle.job_model.specs.declared.ends.CleanEnd.TheVariants as cleans
use Rattle.job_model.specs.declared.ends.OpEnd.TheVariants as ends

module _ (g : Setting) (shared : g.shared ≡ true) (opening : Content) (j : IsLegal g.script) (is_opening : IsOpening g opening) (x : Play)
    (run_x : Reachable g opening x) (idle : x.now ≡ None) where
  abbrev w : Script
  w = g.script

  abbrev k : Times
  k = times w x.ends

  -- The scene after a whole journal is that of its last moment.
  whole : (es : List Entry) → moment opening es (length es) ≡ after_all (store.opening opening) es
  whole es = ap (after_all (store.opening opening)) (take_all es (length es) (omega arith))

  module _ (i : ℕ) (d : Doing) (e : CleanEnd) (es : List Entry) (n : Ending g opening x i Driver d (ends.Clean e) es) where
    abbrev known : Known
    known = known_then g Driver d (by_actor Driver n.closed.at.journal)

    abbrev At : Operation → Operation
    At v = (run (advance g Driver) (record { operation = v; known = known }) es).operation

    -- ---- its end

    module _ (o : over (At n.op) ≡ Some (ends.Clean e)) where
      begun : ((d.op ≡ ops.Abort) ⊎ (d.op ≡ ops.Clean)) × (n.op ≡ clean_of g)
      begun = driver_clean g d.op d.reports known n.op n.begun_is (sym (kind_run g Driver (record { operation = n.op; known = known }) es) ∙
          over_kind (At n.op) (ends.Clean e) o)

      first_is : n.op ≡ TheSparing (fresh w.retries (sparing_start w.committer))
      first_is = begun.1 ∙ clean_shared g shared opening j is_opening x.ends

      clean_so : (worn : Option Request) × WornFirst w.retries es worn × CleanIs worn e
      clean_so = sparing_ends g Driver known es (subst (λ v. Follows (wants g Driver) (advance g Driver)
          (record { operation = v; known = known }) es) first_is n.follows) e (subst (λ v. over (At v) ≡ Some (ends.Clean e)) first_is o)

      -- ---- what it leaves

      abbrev s : Began g opening n.closed.at Driver d
      s = start g opening x i Driver d (ends.Clean e) es n

      abbrev z : Play
      z = n.closed.at

      abbrev from_run : IsRun g opening s.at (times w x.ends)
      from_run = run_from g shared opening j is_opening x.ends z d s (ahead_start g opening j is_opening x run_x idle i d (ends.Clean e) es
          n) begun.0

      -- Since it began, none of the job's attempts has sent until its end.
      alone_so : AllBy Driver (own (since d.since (until (i + 1) x.journal))) → AllBy Driver (own s.entries)
      alone_so all =
          let strays = until (i + 1) n.closed.entries in
          let parts : since d.since (until (i + 1) x.journal) ≡ since d.since z.journal ++ since d.since strays = ap (since d.since)
          (journal_until g opening x run_x idle i n.event_end n.closed) ∙ filter-append (λ v. nat_le d.since v.event) z.journal strays
          in
          let mine : own (since d.since (until (i + 1) x.journal)) ≡ own (since d.since z.journal) ++ own (since d.since strays) = ap own
          parts ∙ filter-append (λ v. is_own v.actor) (since d.since z.journal) (since d.since strays) in
          subst (λ l. AllBy Driver (own l)) (since_is g opening x i Driver d (ends.Clean e) es n)
          (all_by_front Driver (own (since d.since z.journal)) (own (since d.since strays)) (subst (AllBy Driver) mine all))

      module _ (is : e ≡ cleans.Done) (all : AllBy Driver (own (since d.since (until (i + 1) x.journal)))) where
        ended : Going g shared opening j is_opening x.ends from_run.stand z
        ended =
            let first = goes_from g shared opening j is_opening x.ends z d s (ahead_start g opening j is_opening x run_x idle i d
            (ends.Clean e) es n) begun.0 in
            going g shared opening j is_opening x.ends from_run.stand (happen g s.at (Opens s.event)) z s.entries first s.meanwhile
            (ahead_end g opening j is_opening x run_x idle i d (ends.Clean e) es n) (alone_so all)

        done : ended.at.operation ≡ SparingOver cleans.Done
        done = over_done ended.at.operation cleans.Done (ap over (some_is (sym ended.running ∙ ap operation_of n.running)) ∙ o ∙ ap
            (λ v. Some (ends.Clean v)) is)

        left : Rest g shared opening j is_opening x.ends from_run.stand ended.at i z n.event_end n.closed.count n.up_to ended.spares x
        left = rest g shared opening j is_opening x.ends from_run.stand ended.at i z n.event_end n.closed.count n.up_to ended.spares x
            n.closed.since_then

        scene_first : from_run.stand.seen.scene ≡ moment opening x.journal (length (before d.since x.journal))
        scene_first = sym (moment_scene g k opening j is_opening s.at.journal from_run.stand from_run.runs) ∙ whole s.at.journal ∙ sym
            (scene_is g opening x i Driver d (ends.Clean e) es n)

        scene_last : left.spares.stand.seen.scene ≡ moment opening x.journal (length (until (i + 1) x.journal))
        scene_last =
            sym (moment_scene g k opening j is_opening (until (i + 1) x.journal) left.spares.stand left.spares.runs) ∙ whole
            (until (i + 1) x.journal)
            ∙ ap (after_all (store.opening opening)) (sym (taken_then g opening j is_opening x run_x idle i d (ends.Clean e) es n))

        leaves : SparingLeaves w (moment opening x.journal (length (before d.since x.journal)))
            (moment opening x.journal (length (until (i + 1) x.journal)))
        leaves =
            let set = set_from g shared opening j is_opening x.ends z d s (ahead_start g opening j is_opening x run_x idle i d
            (ends.Clean e) es n) begun.0 in
            let there : SparingLeaves w from_run.stand.seen.scene left.spares.stand.seen.scene = sparing_leaves g j shared k opening
            is_opening s.at.journal from_run.stand from_run.runs set left.spares.stand left.spares.on ended.at left.spares.driver done
            in
            subst (λ v. SparingLeaves w v (moment opening x.journal (length (until (i + 1) x.journal)))) scene_first
            (subst (SparingLeaves w from_run.stand.seen.scene) scene_last there)

    ended_done : e ≡ cleans.Done → over (At n.op) ≡ Some (ends.Clean e)
    ended_done is = elim n.ended [ inl memory ↦ absurd (false_true (ap (λ v. is_memory (ends.Clean v)) is) memory) | inr o ↦ o ]

  pub cleans_kept : SharedCleans w opening x.journal x.ends
  cleans_kept i d e es h =
      let n = ending g opening x run_x idle i Driver refl d (ends.Clean e) es h in (
        elim n.ended [ inl memory ↦ inl (memory_clean e memory) | inr o ↦ inr (clean_so i d e es n o) ],
        λ is all. leaves i d e es n
            (ended_done i d e es n is) is all,
      )
