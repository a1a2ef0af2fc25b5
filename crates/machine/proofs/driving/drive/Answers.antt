use Rattle.machine.proofs.Counts.{counted_none, counted_then}
use Rattle.machine.proofs.Ends.{drove_whole, drove_worn}
use Rattle.machine.proofs.Runs.{driving_more, falls_step, is_run_more, next_number, told, told_more, work}
use Rattle.machine.proofs.Tries.{tried_short}
use Rattle.machine.specs.Turns.{retried, tells_worn}
use Rattle.retries.specs.Retries.{step}
use Rattle.s3_types.specs.Foretold.{IsForetold}
use Rattle.std.proofs.Common.{ap, append-nil, append_assoc, inl, inr, length, refl, subst, sym, [], ◌++◌, ◌+◌, ◌<◌, ◌||◌, ◌∙◌, ◌∷◌, ◌≡◌}
use Rattle.std.proofs.lemmas.Bool.{false≢true}
use Rattle.machine.proofs.driving.drive.Goals as goal

pub sending-init : goal.sending-init
sending-init g c = record {
  part = [];
  appended = sym (append-nil _);
  is_run = record { by = tt; honest = tt; follows = tt; scene = refl };
  there = refl;
  retries = refl;
  wore = refl;
  ready_still = c.requires.ready;
  foretold = tt;
  counted = c.requires.counted;
  counts = counted_none _ _ _ _ _ _ _ _ refl refl refl (λ n. refl);
  stands = refl;
  lost = λ h. absurd (false≢true h);
}

pub sending-preserved : goal.sending-preserved
sending-preserved g c =
    let h = rw c.in-Ok-Some.field-0-is at c.in-Ok-Some.ensures.sent in
    driving_more c.laws.ensures _ _ _ _ _ _ _ _ _ _ _ _ _ _ _ _ _ _ _ _ _ _ h.0 c.sending.invariant h.1 h.2 h.3 h.4
    c.in-Ok-Some.ensures.counts h.6
    (ap (λ b. c.sending.worn || b) (c.is_worn-worn.ensures ∙ ap tells_worn h.5 ∙ told (retried c.sending.machine) h.0.outcome)) h.7

pub sending-smaller : goal.sending-smaller
sending-smaller g c =
    let h = rw c.in-Ok-Some.field-0-is at c.in-Ok-Some.ensures.sent in
    let n = c.sending.machine.retries in
    let w = work g.M.Machine.left n (retried c.sending.machine) (g.S.ObjectStore.scene c.sending.store) in
    let f = falls_step c.laws.ensures n (retried c.sending.machine) _ h.0.request h.0.outcome h.1.wanted c.sending.invariant.ready_still
    h.1.honest in
    subst (λ k. work g.M.Machine.left k (retried c.send.new.machine) (g.S.ObjectStore.scene c.send.new.store) < w) (sym h.4)
    (subst (λ t. work g.M.Machine.left n t (g.S.ObjectStore.scene c.send.new.store) < w) (sym h.3)
    (subst (λ s. work g.M.Machine.left n (step n g.M.Machine.after (retried c.sending.machine) h.0.outcome) s < w) (sym h.1.scene) f))

pub returns-in-Err-clause-drove : goal.returns-in-Err-clause-drove
returns-in-Err-clause-drove g c =
    let k = c.sending.invariant in
    elim c.in-Err.ensures.err [
      | inl h ↦ record {
        part = k.part;
        appended = h.0 ∙ k.appended;
        is_run = record { by = k.is_run.by; honest = k.is_run.honest; follows = k.is_run.follows; scene = h.1 ∙ k.is_run.scene };
        foretold = k.foretold;
        tried = tried_short c.args.machine.now.retries g.M.Machine.wants g.M.Machine.after (retried c.args.machine.now) k.part
            k.is_run.follows;
        literal = λ f. tt;
        ended = tt;
      }
      | inr h ↦
          let n : g.S.ObjectStore.requests c.sending.store + 1 ≡ g.S.ObjectStore.requests c.args.store.now + 1 + length k.part = next_number
          _ _ k.part _ _ k.appended k.counts.made in
          let r = is_run_more _ _ _ _ _ _ k.part _ _ h.0 _ k.there k.is_run h.1 in
          record {
            part = k.part ++ h.0 ∷ [];
            appended = h.2 ∙ ap (λ v. v ++ h.0 ∷ []) k.appended ∙ append_assoc _ k.part (h.0 ∷ []);
            is_run = r;
            foretold = told_more _ _ k.part h.0 k.foretold (subst (λ v. IsForetold v h.0.outcome)
                (k.counts.foretold _ ∙ ap (g.S.ObjectStore.foretold c.args.store.now) n) h.3);
            tried = tried_short c.args.machine.now.retries g.M.Machine.wants g.M.Machine.after (retried c.args.machine.now)
                (k.part ++ h.0 ∷ []) r.follows;
            literal = λ f. tt;
            ended = tt;
          }
    ]

pub returns-in-Err-clause-counts : goal.returns-in-Err-clause-counts
returns-in-Err-clause-counts g c =
    let k = c.sending.invariant in
    elim c.in-Err.ensures.err [
      | inl h ↦ counted_then _ _ _ k.part [] _ _ _ _ _ _ _ _ _ k.appended (h.0 ∙ sym (append-nil _)) k.counts c.in-Err.ensures.counts
      | inr h ↦ counted_then _ _ _ k.part (h.0 ∷ []) _ _ _ _ _ _ _ _ _ k.appended h.2 k.counts c.in-Err.ensures.counts
    ]

pub returns-then-worn-clause-drove : goal.returns-then-worn-clause-drove
returns-then-worn-clause-drove g c =
    let h = rw c.in-Ok-None.field-0-is at c.in-Ok-None.ensures.sent in
    drove_worn g.M.Machine.wants g.M.Machine.after g.M.Machine.ready g.M.Machine.standing c.args.actor c.args.event c.args.machine.now
    c.sending.machine _ _ _ _ _ _ _ _ _ _ _ _ _ _ _ c.sending.invariant h.0 h.1 h.2 h.3 h.4 c.if-worn.true

pub returns-then-worn-clause-counts : goal.returns-then-worn-clause-counts
returns-then-worn-clause-counts g c =
    let h = rw c.in-Ok-None.field-0-is at c.in-Ok-None.ensures.sent in
    let k = c.sending.invariant in
    counted_then _ _ _ k.part [] _ _ _ _ _ _ _ _ _ k.appended (h.4 ∙ sym (append-nil _)) k.counts c.in-Ok-None.ensures.counts

pub returns-else-worn-clause-drove : goal.returns-else-worn-clause-drove
returns-else-worn-clause-drove g c =
    let h = rw c.in-Ok-None.field-0-is at c.in-Ok-None.ensures.sent in
    drove_whole g.M.Machine.wants g.M.Machine.after g.M.Machine.ready g.M.Machine.standing c.args.actor c.args.event tt c.args.machine.now
    c.sending.machine _ _ _ _ _ _ _ _ _ _ _ _ _ _ _ c.sending.invariant h.0 h.1 h.2 h.3 h.4 c.if-worn.false

pub returns-else-worn-clause-counts : goal.returns-else-worn-clause-counts
returns-else-worn-clause-counts g c =
    let h = rw c.in-Ok-None.field-0-is at c.in-Ok-None.ensures.sent in
    let k = c.sending.invariant in
    counted_then _ _ _ k.part [] _ _ _ _ _ _ _ _ _ k.appended (h.4 ∙ sym (append-nil _)) k.counts c.in-Ok-None.ensures.counts
