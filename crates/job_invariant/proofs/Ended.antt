-- A live upload keeps its key, and one that is gone never comes back; a completion that is due puts the file, and its upload is gone.
use Rattle.text_and_lists.proofs.Members.{nat_gone, nat_left, none_or_some, none_some, same_or_not, same_or_other, some_is, text_here}
use Rattle.text_and_lists.specs.Order.{text_eq}
use Rattle.job_invariant.proofs.Shapes.{abort_turns, id_after, id_before, key_after, key_before, part_turns, store_is}
use Rattle.job_invariant.specs.Stores.{at_id, at_key}
use Rattle.job_invariant.specs.inner.Stores.{end_left, part_left}
use Rattle.job_model.specs.JobScript.{Script}
use Rattle.s3_types.specs.Answer.{apply, apply_store, bucket_of, completed}
use Rattle.s3_types.specs.Multipart.{is_part_number, joined, live, with_key, with_part}
use Rattle.s3_types.specs.Store.{BucketContent, Content, Scene, Upload}
use Rattle.s3_types.specs.declared.reply.Refusal.{Refusal}
use Rattle.s3_types.specs.declared.request.NamedPart.{NamedPart}
use Rattle.s3_types.specs.declared.request.Request.{Request}
use Rattle.s3_types.specs.declared.request.Request.TheVariants.{AbortUpload, CompleteUpload, UploadPart}
use Rattle.std.proofs.Common.{Err, List, None, Ok, Option, Result, Some, ap, arith, cond, false, inl, inr, refl, subst, sym, true, ℕ, ◌&&◌}
use Rattle.std.proofs.Common.{◌<◌, ◌∙◌, ◌≡◌, ◌⊎◌}
use Rattle.store_frame.proofs.Framed.{frame}
use Rattle.store_frame.specs.Held.{HasBucket}
use Rattle.std.specs.FinMap as fin

-- The upload was there before, with the same key.
pub record Stood (before : Option Upload) (u : Upload) : Type 0 where
  pub one : Upload
  pub stood : before ≡ Some one
  pub key : one.key ≡ u.key

as_it_was : (o : Option Upload) (u : Upload) → o ≡ Some u → Stood o u
as_it_was o u e = record { one = u; stood = e; key = refl }

part_stood : (key : List ℕ) (number : ℕ) (bytes : List ℕ) (o : Option Upload) (u : Upload) → part_left key number bytes o ≡ Some u
    → Stood o u
part_stood key number bytes None u e = absurd (none_some refl e)
part_stood key number bytes (Some v) u e =
    (elim (text_eq v.key key && is_part_number number) as (λ t. cond t (Some (with_part v number bytes)) (Some v) ≡ Some u → Stood (Some v)
    u) [
      | true ↦ λ h. record { one = v; stood = refl; key = ap (λ (x : Upload). x.key) (some_is h) }
      | false ↦ λ h. as_it_was (Some v) u h
    ]) e

end_stood : (key : List ℕ) (o : Option Upload) (u : Upload) → end_left key o ≡ Some u → Stood o u
end_stood key None u e = absurd (none_some refl e)
end_stood key (Some v) u e = (elim (text_eq v.key key) as (λ t. cond t None (Some v) ≡ Some u → Stood (Some v) u)
    [ true ↦ λ h. absurd (none_some refl h) | false ↦ λ h. as_it_was (Some v) u h ]) e

completed_stood : (b : BucketContent) (key : List ℕ) (id : ℕ) (x : Result (List ℕ) Refusal) (u : Upload)
    → fin.get (completed b key id x).uploads id ≡ Some u → Stood (fin.get b.uploads id) u
completed_stood b key id (Ok bytes) u e = absurd (none_some (nat_gone b.uploads id id refl) e)
completed_stood b key id (Err r) u e = as_it_was (fin.get b.uploads id) u e

module _ (w : Script) (s : Scene) (b : BucketContent) (there : fin.get s.content.buckets w.dest.bucket ≡ Some b) where
  -- ---- what a completion leaves

  abbrev pub after : List ℕ → ℕ → List NamedPart → Content
  after key id parts = apply_store s.content (CompleteUpload w.dest.bucket key id parts)

  abbrev done : List ℕ → ℕ → List NamedPart → BucketContent
  done key id parts = completed b key id (joined (live b.uploads key id) parts s.content.minimum)

  then_key : (key : List ℕ) (id : ℕ) (parts : List NamedPart) (k : List ℕ)
      → at_key w (after key id parts) k ≡ fin.get (done key id parts).objects k
  then_key key id parts k = ap (λ c. at_key w c k) (store_is w s b there (CompleteUpload w.dest.bucket key id parts)) ∙ key_after w s b
      there (done key id parts) s.content.next k

  then_id : (key : List ℕ) (id : ℕ) (parts : List NamedPart) (u : ℕ)
      → at_id w (after key id parts) u ≡ fin.get (done key id parts).uploads u
  then_id key id parts u = ap (λ c. at_id w c u) (store_is w s b there (CompleteUpload w.dest.bucket key id parts)) ∙ id_after w s b there
      (done key id parts) s.content.next u

  -- The object at its key has the joined bytes, and the upload is gone.
  pub completes_key : (key : List ℕ) (id : ℕ) (parts : List NamedPart) (bytes : List ℕ)
      → joined (live b.uploads key id) parts s.content.minimum ≡ Ok bytes
      → at_key w (after key id parts) key ≡ Some (record { bytes = bytes; header = None })
  completes_key key id parts bytes e = then_key key id parts key ∙ ap (λ x. fin.get (completed b key id x).objects key) e ∙ text_here
      b.objects key key (record { bytes = bytes; header = None }) refl

  pub completes_id : (key : List ℕ) (id : ℕ) (parts : List NamedPart) (bytes : List ℕ)
      → joined (live b.uploads key id) parts s.content.minimum ≡ Ok bytes → at_id w (after key id parts) id ≡ None
  completes_id key id parts bytes e = then_id key id parts id ∙ ap (λ x. fin.get (completed b key id x).uploads id) e ∙ nat_gone b.uploads
      id id refl

  -- If the upload is gone, the completion changes no key.
  pub refused_key : (key : List ℕ) (id : ℕ) (parts : List NamedPart) → at_id w s.content id ≡ None → (k : List ℕ)
      → at_key w (after key id parts) k ≡ at_key w s.content k
  refused_key key id parts h k = grind (arith, id_before, then_key, key_before)

  complete_stood : (key : List ℕ) (id : ℕ) (parts : List NamedPart) (u : Upload) → at_id w (after key id parts) id ≡ Some u
      → Stood (at_id w s.content id) u
  complete_stood key id parts u e =
      subst (λ o. Stood o u) (sym (id_before w s b there id)) (completed_stood b key id
      (joined (live b.uploads key id) parts s.content.minimum) u (sym (then_id key id parts id) ∙ e))

-- ---- any request

module _ (w : Script) (s : Scene) (there : HasBucket s.content w.dest.bucket) (id : ℕ) (low : id < s.content.next) where
  abbrev After : Request → Type 0
  After r = (u : Upload) → at_id w (apply s r).content id ≡ Some u → Stood (at_id w s.content id) u

  -- A request that does not name the upload.
  other : (r : Request) → (bucket_of r ≡ w.dest.bucket → ⊥) → After r
  other r ne u e = as_it_was (at_id w s.content id) u (sym ((frame s w.dest.bucket r there).uploads id (λ b i. ne b) low) ∙ e)

  -- A request that changes only the upload at one id.
  turn_so : (r : Request) (x : ℕ) → ((u : ℕ) → u < s.content.next → (u ≡ x → ⊥) → at_id w (apply s r).content u ≡ at_id w s.content u)
      → ((u : Upload) → at_id w (apply s r).content x ≡ Some u → Stood (at_id w s.content x) u) → After r
  turn_so r x others here u e = elim (same_or_not id x) [
    | inl is ↦ subst (λ n. Stood (at_id w s.content n) u) (sym is) (here u (ap (at_id w (apply s r).content) (sym is) ∙ e))
    | inr ne ↦ as_it_was (at_id w s.content id) u (sym (others id low ne) ∙ e)
  ]

  part_so : (key : List ℕ) (x number : ℕ) (bytes : List ℕ) → After (UploadPart w.dest.bucket key x number bytes)
  part_so key x number bytes =
      let t = part_turns w s there.0 there.1 key x number bytes in
      turn_so (UploadPart w.dest.bucket key x number bytes) x (λ u l. t.others u)
      (λ u e. part_stood key number bytes (at_id w s.content x) u (sym t.here ∙ e))

  abort_so : (key : List ℕ) (x : ℕ) → After (AbortUpload w.dest.bucket key x)
  abort_so key x = let t = abort_turns w s there.0 there.1 key x in turn_so (AbortUpload w.dest.bucket key x) x (λ u l. t.others u)
      (λ u e. end_stood key (at_id w s.content x) u (sym t.here ∙ e))

  complete_so : (key : List ℕ) (x : ℕ) (parts : List NamedPart) → After (CompleteUpload w.dest.bucket key x parts)
  complete_so key x parts =
      let r = CompleteUpload w.dest.bucket key x parts in
      turn_so r x (λ u l ne. (frame s w.dest.bucket r there).uploads u (λ b i. ne (sym (some_is i))) l)
      (complete_stood w s there.0 there.1 key x parts)

  -- Whoever sends it.
  pub stood_so : (r : Request) → After r
  stood_so (UploadPart q key x number bytes) = elim (same_or_other q w.dest.bucket) [
    | inl is ↦ subst (λ n. After (UploadPart n key x number bytes)) (sym is) (part_so key x number bytes)
    | inr ne ↦ other (UploadPart q key x number bytes) ne
  ]
  stood_so (AbortUpload q key x) = elim (same_or_other q w.dest.bucket) [
    | inl is ↦ subst (λ n. After (AbortUpload n key x)) (sym is)
        (abort_so key x)
    | inr ne ↦ other (AbortUpload q key x) ne
  ]
  stood_so (CompleteUpload q key x parts) = elim (same_or_other q w.dest.bucket) [
    | inl is ↦ subst (λ n. After (CompleteUpload n key x parts)) (sym is) (complete_so key x parts)
    | inr ne ↦ other (CompleteUpload q key x parts) ne
  ]
  stood_so r = λ u e. as_it_was (at_id w s.content id) u (sym ((frame s w.dest.bucket r there).uploads id (λ b i. none_some refl i) low) ∙
      e)

  -- An upload that is gone does not come back.
  pub gone_stays : (r : Request) → at_id w s.content id ≡ None → at_id w (apply s r).content id ≡ None
  gone_stays r none = elim (none_or_some (at_id w (apply s r).content id)) [
    | inl e ↦ e
    | inr x ↦ absurd
        (none_some none (stood_so r x.0 x.1).stood)
  ]

-- A completion leaves an upload as it is, or ends one with its key.
completed_left : (b : BucketContent) (key : List ℕ) (id : ℕ) (parts : List NamedPart) (minimum : ℕ) (o : Option Upload)
    → fin.get b.uploads id ≡ o → (x : Result (List ℕ) Refusal) → joined (with_key key o) parts minimum ≡ x
    → (fin.get (completed b key id x).uploads id ≡ o) ⊎ (fin.get (completed b key id x).uploads id ≡ end_left key o)
completed_left b key id parts minimum o h x g = grind (arith, nat_gone)

pub completed_uploads : (w : Script) (s : Scene) (b : BucketContent) (there : fin.get s.content.buckets w.dest.bucket ≡ Some b)
    (key : List ℕ) (id : ℕ) (parts : List NamedPart)
    → ((at_id w (after w s b there key id parts) id ≡ at_id w s.content id)
    ⊎ (at_id w (after w s b there key id parts) id ≡ end_left key (at_id w s.content id)))
    × ((u : ℕ) → (u ≡ id → ⊥) → at_id w (after w s b there key id parts) u ≡ at_id w s.content u)
completed_uploads w s b there key id parts = (
  elim (completed_left b key id parts s.content.minimum (fin.get b.uploads id) refl (joined (live b.uploads key id) parts s.content.minimum)
      refl) [
        | inl same ↦ inl (then_id w s b there key id parts id ∙ same ∙ sym (id_before w s b there id))
        | inr left ↦ inr (then_id w s b there key id parts id ∙ left ∙ ap (end_left key) (sym (id_before w s b there id)))
      ],
  λ u ne. then_id w s b there key id parts u ∙ others (joined (live b.uploads key id) parts s.content.minimum) u ne ∙ sym
      (id_before w s b there u),
)
  where
    others : (x : Result (List ℕ) Refusal) (u : ℕ) → (u ≡ id → ⊥) → fin.get (completed b key id x).uploads u ≡ fin.get b.uploads u
    others (Ok bytes) u ne = nat_left b.uploads id u ne
    others (Err r) u ne = refl
