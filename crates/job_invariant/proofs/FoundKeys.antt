-- Each upload that an abort or clean of the job has found has the key with which it was found, as long as it lives; so what its aborts end
-- is gone.
use Rattle.text_and_lists.proofs.Members.{eq_nat, false_true, in_append, some_is, text_true, true_or_false}
use Rattle.job_invariant.proofs.Aborting.{taken}
use Rattle.job_invariant.proofs.Ended.{stood_so}
use Rattle.job_invariant.proofs.EndedGone.{effective_is, stays_gone}
use Rattle.job_invariant.proofs.Going.{Each, each_so, effect_so, step_by}
use Rattle.job_invariant.proofs.Live.{listed_live, refs_is, refs_rest}
use Rattle.job_invariant.proofs.Shapes.{abort_turns, id_before}
use Rattle.job_invariant.specs.Filed.{AllHaveKeys, FoundWithKeys, Gone, HasItsKey}
use Rattle.job_invariant.specs.Stores.{at_id}
use Rattle.job_invariant.specs.inner.Stores.{end_left}
use Rattle.job_invariant.specs.Told.{Told, ends, tell_driver}
use Rattle.job_model.specs.JobScript.{Script}
use Rattle.job_protocol.specs.Cleanups.{Aborting, Clean, CleanOver, Naming, Removing, Sweeping, Walking, aborting, clean_after, clean_asks}
use Rattle.job_protocol.specs.Cleanups.{clean_hears, naming, removing, sweeping, walking}
use Rattle.job_protocol.specs.Setup.{dest_prefix}
use Rattle.list_walk.specs.Walks.{Listing, all_go, last_ref, sweep_hears, walked_by}
use Rattle.magic_paths.specs.Layout.{cluster_prefix}
use Rattle.retries.specs.Retries.{Retried, step}
use Rattle.s3_types.specs.Answer.{answer, apply}
use Rattle.s3_types.specs.Moment.{IsHonestOutcome, effect, is_effective}
use Rattle.s3_types.specs.Pages.{begins}
use Rattle.s3_types.specs.Store.{Content, Scene, Upload}
use Rattle.s3_types.specs.declared.journal.Outcome.{Outcome}
use Rattle.s3_types.specs.declared.journal.Outcome.TheVariants.{Answered}
use Rattle.s3_types.specs.declared.reply.Reply.{Reply}
use Rattle.s3_types.specs.declared.request.Committer.{Committer}
use Rattle.s3_types.specs.declared.request.Committer.TheVariants.{Magic}
use Rattle.s3_types.specs.declared.request.Request.{Request}
use Rattle.s3_types.specs.declared.request.Request.TheVariants.{AbortUpload}
use Rattle.s3_types.specs.declared.request.UploadRef.{UploadRef}
use Rattle.std.proofs.Common.{Bool, List, None, Some, ap, arith, cond, false, inl, inr, refl, subst, sym, take, true, ℕ, [], ◌&&◌, ◌++◌}
use Rattle.std.proofs.Common.{◌<◌, ◌||◌, ◌∙◌, ◌∷◌, ◌≡◌, ◌≤◌}
use Rattle.std.proofs.lemmas.Bool.{and_parts}
use Rattle.std.specs.List.{filter}
use Rattle.store_frame.proofs.Framed.{frame}
use Rattle.store_frame.specs.Held.{HasBucket}
use Rattle.std.specs.FinMap as fin

-- ---- one upload

module _ (w : Script) (s : Scene) (there : HasBucket s.content w.dest.bucket) where
  key_applied : (q : UploadRef) (r : Request) → HasItsKey w s.content q → HasItsKey w (apply s r).content q
  key_applied q r h =
      let later : s.content.next ≤ (apply s r).content.next = (frame s w.dest.bucket r there).later in
      let low = h.0 in
      (omega arith, λ u e. let z = stood_so w s there q.upload h.0 r u e in sym z.key ∙ h.1 z.one z.stood)

  key_stays : (q : UploadRef) (r : Request) (o : Outcome) → HasItsKey w s.content q → HasItsKey w (effect s r o).content q
  key_stays q r o h = effect_so (λ u. HasItsKey w u.content q) s r o h (key_applied q r h)

  pub keys_stay : (t : Clean) (r : Request) (o : Outcome) → FoundWithKeys w s.content t → FoundWithKeys w (effect s r o).content t
  keys_stay (Walking found) r o h = λ q i. key_stays q r o (h q i)
  keys_stay (Aborting u us) r o h = λ q i. key_stays q r o (h q i)
  keys_stay _ r o h = tt

  -- After an abort of an upload that was found, the upload is gone.
  abort_gone : (q : UploadRef) → HasItsKey w s.content q
      → at_id w (apply s (AbortUpload w.dest.bucket q.key q.upload)).content q.upload ≡ None
  abort_gone q h = (abort_turns w s there.0 there.1 q.key q.upload).here
      ∙ (elim (at_id w s.content q.upload) as (λ o. at_id w s.content q.upload ≡ o → end_left q.key o ≡ None)
      [ None ↦ λ e. refl | Some u ↦ λ e. ap (λ b. cond b None (Some u)) (text_true u.key q.key (h.1 u e)) ]) refl

-- ---- the whole operation

found_aborting : (w : Script) (c : Content) (x : Committer) (us : List UploadRef) → AllHaveKeys w c us → FoundWithKeys w c (aborting x us)
found_aborting w c x (u ∷ us) h = h
found_aborting w c Magic [] h = tt
found_aborting w c _ [] h = tt

found_walking : (w : Script) (c : Content) (more : Bool) (found : List UploadRef) → AllHaveKeys w c found
    → FoundWithKeys w c (walking w.committer (walked_by more found))
found_walking w c true found h = h
found_walking w c false found h = found_aborting w c w.committer found h

module _ (w : Script) (s : Scene) (there : HasBucket s.content w.dest.bucket)
    (fresh : (id : ℕ) (u : Upload) → at_id w s.content id ≡ Some u → id < s.content.next) where
  -- A page of live uploads.
  module _ (found : List UploadRef) (h : AllHaveKeys w s.content found) where
    more_keys : AllHaveKeys w s.content (found ++ take 1000 (refs_rest w s there found))
    more_keys q i = elim (in_append q found (take 1000 (refs_rest w s there found)) i) [
      | inl old ↦ h q old
      | inr new ↦
          let x = listed_live (dest_prefix w) (last_ref None found) there.0.uploads q (taken 1000 (refs_rest w s there found) q new) in
          let at : at_id w s.content q.upload ≡ Some x.0 = id_before w s there.0 there.1 q.upload ∙ x.1.0 in
          (fresh q.upload x.0 at, λ u e. ap (λ (v : Upload). v.key) (some_is (sym e ∙ at)) ∙ x.1.1)
    ]

  removing_keys : (ps : List (List ℕ)) → FoundWithKeys w s.content (removing ps)
  removing_keys ps = grind arith

  heard : (t : Clean) → FoundWithKeys w s.content t
      → Each (λ q. (x : Reply) → x ≡ answer s q → FoundWithKeys w s.content (clean_hears w t x)) (clean_asks w t)
  heard (Walking found) h = λ x e.
      subst (λ y. FoundWithKeys w s.content (walking w.committer y)) (sym (refs_is w s there found x e))
      (found_walking w s.content _ (found ++ take 1000 (refs_rest w s there found)) (more_keys found h))
  heard (Aborting u us) h = λ x e. found_aborting w s.content w.committer us (λ q i. h q (inr i))
  heard (Sweeping t) h = λ x e. elim (sweep_hears all_go t x) as (λ o. FoundWithKeys w s.content (sweeping o)) [ None ↦ tt | Some y ↦ tt ]
  heard Naming h = λ x e. subst (λ y. FoundWithKeys w s.content (naming y)) (sym e)
      (removing_keys (filter (begins (cluster_prefix w.job)) (fin.keys s.files)))
  heard (Removing p ps) h = λ x e. removing_keys ps
  heard (CleanOver end) h = tt

  -- It goes on.
  pub found_goes : (retries : ℕ) (t : Retried Clean) → FoundWithKeys w s.content t.operation → (r : Request)
      → clean_asks w t.operation ≡ Some r → (o : Outcome) → IsHonestOutcome o (answer s r)
      → FoundWithKeys w (effect s r o).content (step retries (clean_after w) t o).operation
  found_goes retries t h r e o honest =
      step_by (λ v. FoundWithKeys w (effect s r v).content) retries (clean_after w) t (answer s r) o honest
      (λ x due. keys_stay w s there (clean_hears w t.operation x) r (Answered x)
      (each_so (λ q. (x : Reply) → x ≡ answer s q → FoundWithKeys w s.content (clean_hears w t.operation x)) r e (heard t.operation h) x
      due))
      (λ none. keys_stay w s there t.operation r o h) (λ none. tt)

  -- What its aborts end is gone.
  pub clean_gone : (m : Told) → Gone w s.content m → (t : Clean) → FoundWithKeys w s.content t → (r : Request) → clean_asks w t ≡ Some r
      → (o : Outcome) → Gone w (effect s r o).content (tell_driver m r o)
  clean_gone m gone t h r e o id g = elim (true_or_false (m.ended id)) [
    | inl old ↦ stays_gone w s there id r o (gone id old)
    | inr old ↦
        let both = and_parts (is_effective o) (ends r id) (sym (ap (λ b. b || (is_effective o && ends r id)) old) ∙ g) in
        subst Out (sym (effective_is s r o both.0)) (each_so (λ q. ends q id ≡ true → Out (apply s q)) r e (ends_now t h) both.1)
  ]
    where
      Out : Scene → Type 0
      Out u = (id < u.content.next) × (at_id w u.content id ≡ None)

      ends_now : (t : Clean) → FoundWithKeys w s.content t → Each (λ q. ends q id ≡ true → Out (apply s q)) (clean_asks w t)
      ends_now (Aborting u us) h = λ x.
          let r = AbortUpload w.dest.bucket u.key u.upload in
          subst (λ v. (v < (apply s r).content.next) × (at_id w (apply s r).content v ≡ None)) (sym (eq_nat id u.upload x))
          ((key_applied w s there u r (h u (inl refl))).0, abort_gone w s there u (h u (inl refl)))
      ends_now (Sweeping (Listing keys)) h = λ x. absurd (false_true refl x)
      ends_now (CleanOver end) h = tt
      ends_now _ h = λ x. absurd (false_true refl x)
