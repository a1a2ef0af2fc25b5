-- What the driver's completions, aborts and deletions leave at a file's key and of its upload.
use Rattle.text_and_lists.proofs.Members.{none_or_some, text_gone, text_true, true_or_false}
use Rattle.job_invariant.proofs.Ended.{completes_id, completes_key, gone_stays, refused_key}
use Rattle.job_invariant.proofs.Replies.{file_joined, held_of}
use Rattle.job_invariant.proofs.Shapes.{abort_turns, id_after, id_before, key_after, store_is}
use Rattle.job_invariant.proofs.Undone.{deletes_drop}
use Rattle.job_invariant.specs.Facts.{Facts}
use Rattle.job_invariant.specs.Filed.{Gone, IsCommit, whole_of}
use Rattle.job_invariant.specs.Stores.{at_id, at_key}
use Rattle.job_invariant.specs.inner.Stores.{end_left}
use Rattle.job_invariant.specs.Told.{Told}
use Rattle.job_model.specs.JobScript.{Script}
use Rattle.job_model.specs.Legal.{IsLegal}
use Rattle.job_protocol.specs.Lanes.{abort, completion, deletion}
use Rattle.job_protocol.specs.Records.{file_key}
use Rattle.pending_json.specs.Pending.{Pending}
use Rattle.s3_types.specs.Answer.{apply, with_objects}
use Rattle.s3_types.specs.Blocks.{named_from}
use Rattle.s3_types.specs.Multipart.{joined, live}
use Rattle.s3_types.specs.Store.{BucketContent, Scene}
use Rattle.s3_types.specs.declared.request.Request.TheVariants.{DeleteObject, DeleteObjects}
use Rattle.std.proofs.Common.{List, None, Ok, Option, Some, ap, arith, cond, false, inl, inr, refl, subst, sym, true, ℕ, ◌<◌, ◌∙◌, ◌≡◌, ◌⊎◌}
use Rattle.store_frame.proofs.Framed.{frame}
use Rattle.store_frame.specs.Held.{HasBucket}
use Rattle.std.specs.FinMap as fin

-- ---- deletions

module _ (w : Script) (s : Scene) (there : HasBucket s.content w.dest.bucket) where
  abbrev left : List ℕ → BucketContent
  left q = with_objects there.0 (fin.remove there.0.objects q)

  pub deleted : (q : List ℕ) → at_key w (apply s (DeleteObject w.dest.bucket q)).content q ≡ None
  deleted q = ap (λ c. at_key w c q) (store_is w s there.0 there.1 (DeleteObject w.dest.bucket q)) ∙ key_after w s there.0 there.1 (left q)
      s.content.next q ∙ text_gone there.0.objects q q refl

  pub deleted_uploads : (q : List ℕ) (id : ℕ) → at_id w (apply s (DeleteObject w.dest.bucket q)).content id ≡ at_id w s.content id
  deleted_uploads q id = ap (λ c. at_id w c id) (store_is w s there.0 there.1 (DeleteObject w.dest.bucket q)) ∙ id_after w s there.0 there.1
      (left q) s.content.next id ∙ sym (id_before w s there.0 there.1 id)

  -- After a batch there is the same object at a key, or none.
  pub deleted_or_not : (keys : List (List ℕ)) (k : List ℕ)
      → (at_key w (apply s (DeleteObjects w.dest.bucket keys)).content k ≡ at_key w s.content k)
      ⊎ (at_key w (apply s (DeleteObjects w.dest.bucket keys)).content k ≡ None)
  deleted_or_not keys k = grind (arith, none_or_some, deletes_drop)

-- ---- the uploads of sets that were read

module _ {w : Script} {minimum : ℕ} {s : Scene} {last : ℕ → Option ℕ} {m : Told} (j : IsLegal w) (f : Facts w minimum s last m)
    (gone : Gone w s.content m) (p : Pending) (x : IsCommit w minimum m.publish_sent m.drawn p) where
  upload_is : p.upload ≡ x.written.drawn.upload
  upload_is = ap (λ (v : Pending). v.upload) x.is

  pub upload_low : p.upload < s.content.next
  upload_low = subst (λ n. n < s.content.next) (sym upload_is) (f.ids.below x.by x.written.drawn x.written.known)

  -- If the upload is not ended, its parts are joined to the file.
  whole_joined : m.ended p.upload ≡ false → joined (live f.there.0.uploads (file_key w x.file) x.written.drawn.upload)
      (named_from 1 x.written.drawn.tags) s.content.minimum ≡ Ok x.file.1
  whole_joined e = file_joined j f x.by x.file x.mine x.written (ap m.ended (sym upload_is) ∙ e) (f.kept x.by x.has_sent)

  -- So a completion puts the file, and the upload is gone.
  pub completes_file : m.ended p.upload ≡ false → at_key w (apply s (completion p)).content p.destination ≡ Some (whole_of x.file.1)
  completes_file e =
      subst (λ (v : Pending). at_key w (apply s (completion v)).content v.destination ≡ Some (whole_of x.file.1)) (sym x.is)
      (completes_key w s f.there.0 f.there.1 (file_key w x.file) x.written.drawn.upload (named_from 1 x.written.drawn.tags) x.file.1
      (whole_joined e))

  -- A completion of an ended upload changes no key.
  pub completes_nothing : m.ended p.upload ≡ true → (k : List ℕ) → at_key w (apply s (completion p)).content k ≡ at_key w s.content k
  completes_nothing e k =
      let none : at_id w s.content x.written.drawn.upload ≡ None = ap (at_id w s.content) (sym upload_is) ∙ (gone p.upload e).1 in
      subst (λ (v : Pending). at_key w (apply s (completion v)).content k ≡ at_key w s.content k) (sym x.is)
      (refused_key w s f.there.0 f.there.1 (file_key w x.file) x.written.drawn.upload (named_from 1 x.written.drawn.tags) none k)

  -- After a completion or an abort the upload is gone.
  pub completion_ends : at_id w (apply s (completion p)).content p.upload ≡ None
  completion_ends = elim (true_or_false (m.ended p.upload)) [
    | inl e ↦ gone_stays w s f.there p.upload upload_low (completion p) (gone p.upload e).1
    | inr e ↦ subst (λ (v : Pending). at_id w (apply s (completion v)).content v.upload ≡ None) (sym x.is)
        (completes_id w s f.there.0 f.there.1 (file_key w x.file) x.written.drawn.upload (named_from 1 x.written.drawn.tags) x.file.1
        (whole_joined e))
  ]

  pub abort_ends : at_id w (apply s (abort p)).content p.upload ≡ None
  abort_ends = elim (true_or_false (m.ended p.upload)) [
    | inl e ↦ gone_stays w s f.there p.upload upload_low (abort p) (gone p.upload e).1
    | inr e ↦
        let d = x.written.drawn in
        let h = held_of j f x.by d x.file x.written.known x.mine x.written.key (ap m.ended (sym upload_is) ∙ e) (f.kept x.by x.has_sent) in
        subst (λ (v : Pending). at_id w (apply s (abort v)).content v.upload ≡ None) (sym x.is)
        ((abort_turns w s f.there.0 f.there.1 (file_key w x.file) d.upload).here
        ∙ ap (end_left (file_key w x.file)) h.stands ∙ ap (λ b. cond b None (Some (record { key = d.key; parts = h.parts })))
        (text_true d.key (file_key w x.file) x.written.key))
  ]

  pub deletion_is : deletion p ≡ DeleteObject w.dest.bucket p.destination
  deletion_is = ap (λ (v : Pending). DeleteObject v.bucket p.destination) x.is

  -- The request changes no other key and no other upload.
  pub other_key : (k : List ℕ) → (k ≡ p.destination → ⊥) → at_key w (apply s (completion p)).content k ≡ at_key w s.content k
  other_key k ne = (frame s w.dest.bucket (completion p) f.there).keys k (λ b i. elim i [ inl e ↦ ne e | inr none ↦ absurd none ])

  pub abort_keys : (k : List ℕ) → at_key w (apply s (abort p)).content k ≡ at_key w s.content k
  abort_keys k = (frame s w.dest.bucket (abort p) f.there).keys k (λ b i. absurd i)

  -- A deletion leaves no object at its key, and the others as they are.
  pub deletion_key : at_key w (apply s (deletion p)).content p.destination ≡ None
  deletion_key = ap (λ r. at_key w (apply s r).content p.destination) deletion_is ∙ deleted w s f.there p.destination

  pub deletion_other : (k : List ℕ) → (k ≡ p.destination → ⊥) → at_key w (apply s (deletion p)).content k ≡ at_key w s.content k
  deletion_other k ne = (frame s w.dest.bucket (deletion p) f.there).keys k (λ b i. elim i [ inl e ↦ ne e | inr none ↦ absurd none ])
