-- An upload that an attempt knows has its key as long as it lives.
use Rattle.text_and_lists.proofs.Members.{some_is}
use Rattle.text_and_lists.specs.Members.{IsIn}
use Rattle.job_invariant.proofs.FoundKeys.{keys_stay}
use Rattle.job_invariant.proofs.Learning.{drawn_is_next, known_before}
use Rattle.job_invariant.proofs.Shapes.{draws}
use Rattle.job_invariant.specs.Filed.{HasItsKey}
use Rattle.job_invariant.specs.Fits.{Fits}
use Rattle.job_invariant.specs.Stores.{at_id}
use Rattle.job_invariant.specs.Told.{Told, known, tell_attempt}
use Rattle.job_model.specs.Attempts.{Who}
use Rattle.job_model.specs.JobScript.{Script}
use Rattle.job_model.specs.Known.{Drawn, Known}
use Rattle.job_model.specs.Legal.{IsLegal}
use Rattle.job_protocol.specs.Cleanups.{Walking}
use Rattle.job_protocol.specs.Operations.{Operation, Setting, asks}
use Rattle.job_protocol.specs.Seen.{Times}
use Rattle.job_protocol.specs.TaskAborts.{TaskAbort, task_abort_asks}
use Rattle.job_protocol.specs.TaskCommits.{TaskCommit, task_commit_asks}
use Rattle.job_protocol.specs.Writes.{Write, write_asks}
use Rattle.protocol_runs.proofs.Entries.{late_now}
use Rattle.protocol_runs.proofs.EveryRun.{good}
use Rattle.protocol_runs.proofs.Running.{Early, Late}
use Rattle.protocol_runs.specs.Runs.{IsOpening, Runs, Stand, actor_begins, attempt_sends, driver_sends, run_begins, strays}
use Rattle.s3_types.specs.Answer.{answer, apply}
use Rattle.s3_types.specs.Moment.{IsHonestOutcome, effect}
use Rattle.s3_types.specs.Store.{Content, Scene, Upload}
use Rattle.s3_types.specs.declared.journal.Entry.{Entry}
use Rattle.s3_types.specs.declared.journal.Outcome.{Outcome}
use Rattle.s3_types.specs.declared.reply.Reply.TheVariants.{Upload as DrawnUpload}
use Rattle.s3_types.specs.declared.request.Request.{Request}
use Rattle.s3_types.specs.declared.request.Request.TheVariants.{CreateUpload}
use Rattle.s3_types.specs.declared.request.UploadRef.{UploadRef}
use Rattle.std.proofs.Common.{List, Some, ap, arith, inl, inr, refl, subst, sym, ℕ, [], ◌<◌, ◌∙◌, ◌∷◌, ◌≡◌, ◌⊎◌}
use Rattle.store_frame.specs.Held.{HasBucket}
use Rattle.twin_facts.proofs.OneSide.{attempt_scene, driver_scene}

abbrev pub ref : Drawn → UploadRef
ref d = record { key = d.key; upload = d.upload }

abbrev pub Keyed : Script → (Who → List Drawn) → Content → Type 0
Keyed w drawn c = (a : Who) (d : Drawn) → IsIn d (drawn a) → HasItsKey w c (ref d)

-- It keeps its key through any request.
pub key_still : (w : Script) (s : Scene) → HasBucket s.content w.dest.bucket → (q : UploadRef) (r : Request) (o : Outcome)
    → HasItsKey w s.content q → HasItsKey w (effect s r o).content q
key_still w s there q r o h = keys_stay w s there (Walking (q ∷ [])) r o (λ u i. elim i
    [ inl e ↦ subst (HasItsKey w s.content) (sym e) h | inr none ↦ absurd none ]) q (inl refl)

-- ---- the bucket of an upload that an attempt begins

module _ (w : Script) where
  module _ (a : Who) (k : Known) {r : Request} {n q : List ℕ} (c : r ≡ CreateUpload n q) where
    write_bucket : (t : Write) → write_asks w a k t ≡ Some r → n ≡ w.dest.bucket
    write_bucket t h = grind arith

    commit_bucket : (t : TaskCommit) → task_commit_asks w a k t ≡ Some r → n ≡ w.dest.bucket
    commit_bucket t h = grind arith

    abort_bucket : (t : TaskAbort) → task_abort_asks w a t ≡ Some r → n ≡ w.dest.bucket
    abort_bucket t h = grind arith

  operation_bucket : (g : Setting) (is : g.script ≡ w) (minimum : ℕ) (m : Told) (a : Who) (op : Operation) → Fits w minimum a m op
      → (r : Request)
      → asks (record { script = w; minimum = g.minimum; shared = g.shared }) a (known m a) op ≡ Some r → (n k : List ℕ)
      → r ≡ CreateUpload n k → n ≡ w.dest.bucket
  operation_bucket g is minimum m a op h r e n k f = grind arith

-- ---- each step keeps that

module _ (g : Setting) (k : Times) (opening : Content) (j : IsLegal g.script) (is : IsOpening g opening) where
  abbrev w : Script
  w = g.script

  new_keyed : (s : Scene) → HasBucket s.content w.dest.bucket → (d : Drawn)
      → DrawnUpload d.upload ≡ answer s (CreateUpload w.dest.bucket d.key)
      → HasItsKey w (apply s (CreateUpload w.dest.bucket d.key)).content (ref d)
  new_keyed s there d due =
      let t = draws w s there.0 there.1 d.key in
      let id : d.upload ≡ s.content.next = drawn_is_next s w.dest.bucket d.key d.upload due in
      let next = t.next in (
        subst (λ n. n < (apply s (CreateUpload w.dest.bucket d.key)).content.next) (sym id) (omega arith),
        λ u e. ap (λ (v : Upload). v.key) (some_is (sym (ap (at_id w (apply s (CreateUpload w.dest.bucket d.key)).content) (sym id) ∙ e) ∙
            t.here)),
      )

  -- Before its set-up is done, a side has no attempt that knows an upload.
  none_known : (x : Stand) → Early g opening x → (c : Content) → Keyed w x.told.drawn c
  none_known x e c a d i = absurd (subst (λ (m : Told). IsIn d (m.drawn a)) e.told i)

  stays : (x : Stand) → Early g opening x ⊎ Late g opening x → Keyed w x.told.drawn x.seen.scene.content → (r : Request) (o : Outcome)
      → Keyed w x.told.drawn (effect x.seen.scene r o).content
  stays x (inl e) h r o a d i = none_known x e (effect x.seen.scene r o).content a d i
  stays x (inr l) h r o a d i = key_still w x.seen.scene l.hold.there (ref d) r o (h a d i)

  pub keyed_so : (es : List Entry) (x : Stand) → Runs g k opening es x → Keyed w x.told.drawn x.seen.scene.content
  keyed_so es x run_begins = λ a d i. absurd i
  keyed_so es x (actor_begins fs y b run may) = keyed_so fs y run
  keyed_so es x (driver_sends fs y op n r o run d asked timely few honest) = subst (λ (s : Scene). Keyed w y.told.drawn s.content)
      (sym (driver_scene w k y.seen n r o)) (stays y (good g k opening j is fs y run) (keyed_so fs y run) r o)
  keyed_so es x (attempt_sends fs y a op n r o run set at asked honest) =
      let l = late_now g k opening j is fs y run set in
      subst (λ (s : Scene). Keyed w (tell_attempt w y.told a r o).drawn s.content) (sym (attempt_scene w k y.seen n r a o))
      (λ b d i. elim (known_before w y.told a r o b d i) [
        | inl old ↦
            let v = stays y (inr l) (keyed_so fs y run) r o b old.0 old.1 in
            subst (λ (q : UploadRef). HasItsKey w (effect y.seen.scene r o).content q) (λ i. record { key = old.3 i; upload = old.2 i }) v
        | inr new ↦
            let f = l.fine a op at in
            let bucket : new.bucket ≡ w.dest.bucket = operation_bucket w g refl g.minimum y.told a op f.1 r asked new.bucket d.key
            new.request in
            let same : r ≡ CreateUpload w.dest.bucket d.key = new.request ∙ ap (λ q. CreateUpload q d.key) bucket in
            let due : DrawnUpload d.upload ≡ answer y.seen.scene (CreateUpload w.dest.bucket d.key) = subst
            (λ v. IsHonestOutcome v (answer y.seen.scene r)) new.outcome honest ∙ ap (answer y.seen.scene) same in
            subst (λ v. HasItsKey w (effect y.seen.scene r v).content (ref d)) (sym new.outcome)
            (subst (λ v. HasItsKey w (apply y.seen.scene v).content (ref d)) (sym same) (new_keyed y.seen.scene l.hold.there d due))
      ])
  keyed_so es x (strays fs y n r o run f) = stays y (good g k opening j is fs y run) (keyed_so fs y run) r o
