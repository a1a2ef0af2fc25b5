-- The journal of a run in which an operation began and ended: what was before, what was between, and what the actor itself sent.
use Rattle.job_model.specs.declared.ends.OpEnd.{OpEnd}
use Rattle.job_outcomes.proofs.EventRows.{honest_back}
use Rattle.job_protocol.specs.Operations.{Setting}
use Rattle.job_safety.proofs.Cuts.{before_by_front, before_cut, before_front, from_more, moment_cut, since_by_cut, since_cut}
use Rattle.job_safety.proofs.Ending.{Ending}
use Rattle.job_safety.proofs.History.{Began, began}
use Rattle.job_spec.specs.States.{Doing}
use Rattle.job_spec.specs.Turns.{AllFrom, AllUpTo, before, by_actor, since}
use Rattle.script_steps.proofs.Told.{told_all}
use Rattle.script_steps.specs.Transitions.{Play}
use Rattle.protocol_runs.proofs.Changes.{after_parts}
use Rattle.s3_types.specs.Moment.{AreHonest, after_all, moment}
use Rattle.s3_types.specs.Store.{Content}
use Rattle.s3_types.specs.declared.journal.Entry.{Entry}
use Rattle.s3_types.specs.declared.request.Actor.{Actor}
use Rattle.std.proofs.Common.{List, ap, append_assoc, arith, length, subst, sym, ℕ, ◌++◌, ◌+◌, ◌∙◌, ◌≡◌, ◌≤◌}
use Rattle.s3_types.specs.Store as store

module _ (g : Setting) (opening : Content) (x : Play) (j : ℕ) (a : Actor) (d : Doing) (end : OpEnd) (es : List Entry)
    (n : Ending g opening x j a d end es) where
  abbrev z : Play
  z = n.closed.at

  -- The state in which it began.
  abbrev pub start : Began g opening z a d
  start = began g opening z n.closed.happened a d n.doing

  abbrev s : Play
  s = start.at

  pub early : AllUpTo (length s.ends) s.journal
  early = ((told_all g opening s start.happened).closed start.may.idle).1

  -- All that came after its last event belongs to later events than its first one.
  pub late : AllFrom d.since n.closed.entries
  late = let then : d.since ≤ j + 1 = n.from_then in from_more (j + 1) d.since n.closed.entries then n.closed.after

  whole : x.journal ≡ s.journal ++ (start.entries ++ n.closed.entries)
  whole = n.closed.all ∙ ap (λ l. l ++ n.closed.entries) start.all ∙ append_assoc s.journal start.entries n.closed.entries

  pub before_is : before d.since x.journal ≡ s.journal
  before_is = grind (arith, before_cut, early, before_front, late)

  -- The scene in which it began.
  pub scene_is : moment opening x.journal (length (before d.since x.journal)) ≡ after_all (store.opening opening) s.journal
  scene_is = ap (λ l. moment opening x.journal (length l)) before_is ∙ ap (λ l. moment opening l (length s.journal)) whole ∙ moment_cut
      opening s.journal (start.entries ++ n.closed.entries)

  pub since_is : since d.since z.journal ≡ start.entries
  since_is = ap (since d.since) start.all ∙ subst (λ k. AllFrom k start.entries → since k (s.journal ++ start.entries) ≡ start.entries)
      (sym start.since_is) (since_cut (length s.ends) s.journal start.entries early) start.after

  -- Its own entries.
  pub mine : es ≡ by_actor a start.entries
  mine = grind (arith, since_by_cut, early)

  pub honest : AreHonest (after_all (store.opening opening) s.journal) start.entries
  honest = honest_back (store.opening opening) s.journal start.entries (subst (AreHonest (store.opening opening)) start.all
      (told_all g opening z n.closed.happened).honest)

  pub after_is : after_all (store.opening opening) z.journal ≡ after_all (after_all (store.opening opening) s.journal) start.entries
  after_is = ap (after_all (store.opening opening)) start.all ∙ after_parts (store.opening opening) s.journal start.entries

  -- What its actor had sent before.
  pub known_is : before d.since (by_actor a x.journal) ≡ before d.since (by_actor a z.journal)
  known_is = ap (λ l. before d.since (by_actor a l)) n.closed.all ∙ before_by_front d.since a z.journal n.closed.entries late
