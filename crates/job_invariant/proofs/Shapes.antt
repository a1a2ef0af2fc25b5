-- What each request leaves of a store and of the cluster's files, by keys, ids and paths.
use Rattle.text_and_lists.proofs.Members.{in_append, in_back, in_front, nat_gone, nat_here, nat_left, nat_other, text_here, text_other}
use Rattle.text_and_lists.specs.Members.{IsIn, last_from}
use Rattle.text_and_lists.specs.Order.{text_cmp, text_eq}
use Rattle.job_invariant.specs.Stores.{at_id, at_key}
use Rattle.job_invariant.specs.inner.Stores.{Draws, Puts, Turns, end_left, part_left}
use Rattle.job_model.specs.JobScript.{Script}
use Rattle.job_protocol.specs.Scope.{upload_in}
use Rattle.job_protocol.specs.View.{object_in}
use Rattle.list_walk.specs.Walks.{keys_on, last_of, page_after, walked, walked_by}
use Rattle.s3_types.specs.Answer.{aborted, answer, answer_at, answer_in, apply, apply_at, bucket_of, part_put, with_objects, with_uploads}
use Rattle.s3_types.specs.Multipart.{live, with_key}
use Rattle.s3_types.specs.Pages.{begins, listed}
use Rattle.s3_types.specs.Store.{BucketContent, Content, Scene, Upload, Uploads}
use Rattle.s3_types.specs.declared.object.Object.{Object}
use Rattle.s3_types.specs.declared.reply.PageEntry.{PageEntry}
use Rattle.s3_types.specs.declared.reply.Reply.{Reply}
use Rattle.s3_types.specs.declared.request.Request.{Request}
use Rattle.s3_types.specs.declared.request.Request.TheVariants.{AbortUpload, CreateUpload, PutObject, UploadPart}
use Rattle.std.proofs.Common.{Bool, List, None, Option, Some, ap, arith, cond, false, inl, inr, length, nat_lt, refl, subst, sym, take}
use Rattle.std.proofs.Common.{true, ℕ, [], ◌++◌, ◌+◌, ◌∙◌, ◌∷◌, ◌≡◌, ◌⊎◌}
use Rattle.std.specs.Ordering.{is_lt}
use Rattle.store_frame.proofs.Flat.{last_append, page_all, page_begins, page_covers}
use Rattle.store_frame.proofs.Framed.{part_others, with_bucket}
use Rattle.store_frame.specs.Held.{HasBucket}
use Rattle.std.specs.FinMap as fin

-- ---- a part, and an end, at its id and at others

part_set : (m : Uploads) (id : ℕ) (u v : Upload) → fin.get m id ≡ Some u → (q : Bool)
    → fin.get (cond q (fin.insert m id v) m) id ≡ cond q (Some v) (Some u)
part_set m id u v e true = nat_here m id id v refl
part_set m id u v e false = e

part_here : (key : List ℕ) (id number : ℕ) (bytes : List ℕ) (m : Uploads) (o : Option Upload) → fin.get m id ≡ o
    → fin.get (part_put m id (with_key key o) number bytes) id ≡ part_left key number bytes o
part_here key id number bytes m o h = grind (arith, part_set)

abort_here : (key : List ℕ) (id : ℕ) (m : Uploads) (o : Option Upload) → fin.get m id ≡ o
    → fin.get (aborted m id (with_key key o)) id ≡ end_left key o
abort_here key id m None e = e
abort_here key id m (Some u) e = elim (text_eq u.key key) as (λ p. fin.get (aborted m id (cond p (Some u) None)) id ≡ cond p None (Some u))
    [ true ↦ nat_gone m id id refl | false ↦ e ]

abort_others : (key : List ℕ) (id : ℕ) (m : Uploads) (o : Option Upload) (u : ℕ) → (u ≡ id → ⊥) → fin.get (aborted m id o) u ≡ fin.get m u
abort_others key id m None u ne = refl
abort_others key id m (Some v) u ne = nat_left m id u ne

-- The scene with this store.
abbrev pub with_store : Scene → Content → Scene
with_store s c = record { content = c; files = s.files }

module _ (w : Script) (s : Scene) (b : BucketContent) (there : fin.get s.content.buckets w.dest.bucket ≡ Some b) where
  pub key_before : (k : List ℕ) → at_key w s.content k ≡ fin.get b.objects k
  key_before k = ap (λ o. object_in o k) there

  pub id_before : (id : ℕ) → at_id w s.content id ≡ fin.get b.uploads id
  id_before id = ap (λ o. upload_in o id) there

  module _ (d : BucketContent) (next : ℕ) where
    pub bucket_after : fin.get (with_bucket s.content w.dest.bucket d next).buckets w.dest.bucket ≡ Some d
    bucket_after = text_here s.content.buckets w.dest.bucket w.dest.bucket d refl

    pub key_after : (k : List ℕ) → at_key w (with_bucket s.content w.dest.bucket d next) k ≡ fin.get d.objects k
    key_after k = ap (λ o. object_in o k) bucket_after

    pub id_after : (id : ℕ) → at_id w (with_bucket s.content w.dest.bucket d next) id ≡ fin.get d.uploads id
    id_after id = ap (λ o. upload_in o id) bucket_after

  -- What a request to the bucket leaves of the store.
  pub store_is : (r : Request) → apply_at (fin.get s.content.buckets w.dest.bucket) s.content r ≡ apply_at (Some b) s.content r
  store_is r = ap (λ o. apply_at o s.content r) there

  -- ---- a put

  pub puts : (key bytes : List ℕ) (header : Option ℕ)
      → Puts w s (apply s (PutObject w.dest.bucket key bytes header)) key (record { bytes = bytes; header = header })
  puts key bytes header =
      let x : Object = record { bytes = bytes; header = header } in
      let d : BucketContent = with_objects b (fin.insert b.objects key x) in
      subst (λ c. Puts w s (with_store s c) key x) (sym (store_is (PutObject w.dest.bucket key bytes header))) (record {
        there = (d, bucket_after d s.content.next);
        least = refl;
        next = refl;
        here = key_after d s.content.next key ∙ text_here b.objects key key x refl;
        others = λ k ne. key_after d s.content.next k ∙ text_other b.objects key k x ne ∙ sym (key_before k);
        uploads = λ id. id_after d s.content.next id ∙ sym (id_before id);
        files = refl;
      })

  -- ---- an upload that is begun

  pub draws : (key : List ℕ) → Draws w s (apply s (CreateUpload w.dest.bucket key)) key
  draws key =
      let x : Upload = record { key = key; parts = fin.empty } in
      let d : BucketContent = with_uploads b (fin.insert b.uploads s.content.next x) in
      let next = s.content.next + 1 in
      subst (λ c. Draws w s (with_store s c) key) (sym (store_is (CreateUpload w.dest.bucket key))) (record {
        there = (d, bucket_after d next);
        least = refl;
        next = refl;
        here = id_after d next s.content.next ∙ nat_here b.uploads s.content.next s.content.next x refl;
        others = λ u ne. id_after d next u ∙ nat_other b.uploads s.content.next u x ne ∙ sym (id_before u);
        objects = λ k. key_after d next k ∙ sym (key_before k);
        files = refl;
      })

  -- ---- an upload's part, and its end

  -- Only the upload at one id changes.
  turns_in : (uploads : Uploads) (id : ℕ) (x : Option Upload) → fin.get uploads id ≡ x
      → ((u : ℕ) → (u ≡ id → ⊥) → fin.get uploads u ≡ fin.get b.uploads u)
      → Turns w s (with_store s (with_bucket s.content w.dest.bucket (with_uploads b uploads) s.content.next)) id x
  turns_in uploads id x h others =
      let d : BucketContent = with_uploads b uploads in
      record {
        there = (d, bucket_after d s.content.next);
        least = refl;
        next = refl;
        here = id_after d s.content.next id ∙ h;
        others = λ u ne. id_after d s.content.next u ∙ others u ne ∙ sym (id_before u);
        objects = λ k. key_after d s.content.next k ∙ sym (key_before k);
        files = refl;
      }

  pub part_turns : (key : List ℕ) (id number : ℕ) (bytes : List ℕ)
      → Turns w s (apply s (UploadPart w.dest.bucket key id number bytes)) id (part_left key number bytes (at_id w s.content id))
  part_turns key id number bytes =
      subst (λ d. Turns w s (with_store s d) id (part_left key number bytes (at_id w s.content id)))
      (sym (store_is (UploadPart w.dest.bucket key id number bytes)))
      (turns_in (part_put b.uploads id (live b.uploads key id) number bytes) id _
      (part_here key id number bytes b.uploads (fin.get b.uploads id) refl ∙ ap (part_left key number bytes) (sym (id_before id)))
      (part_others key id number bytes b.uploads (live b.uploads key id)))

  pub abort_turns : (key : List ℕ) (id : ℕ) → Turns w s (apply s (AbortUpload w.dest.bucket key id)) id
      (end_left key (at_id w s.content id))
  abort_turns key id =
      subst (λ d. Turns w s (with_store s d) id (end_left key (at_id w s.content id))) (sym (store_is (AbortUpload w.dest.bucket key id)))
      (turns_in (aborted b.uploads id (live b.uploads key id)) id _
      (abort_here key id b.uploads (fin.get b.uploads id) refl ∙ ap (end_left key) (sym (id_before id)))
      (abort_others key id b.uploads (live b.uploads key id)))

  -- ---- answers

  pub answer_is : (r : Request) → bucket_of r ≡ w.dest.bucket
      → answer_at (fin.get s.content.buckets (bucket_of r)) s.content.next s.content.minimum r ≡ answer_in b s.content.next
      s.content.minimum r
  answer_is r e = ap (λ o. answer_at o s.content.next s.content.minimum r) (ap (fin.get s.content.buckets) e ∙ there)

-- ---- a page of the keys below a prefix: the keys that it adds to those that were listed before

-- The last of the keys, starting from the empty text.
pub last_so : (keys : List (List ℕ)) → last_of keys ≡ last_from [] keys
last_so [] = refl
last_so (k ∷ keys) = behind k keys
  where
    behind : (k : List ℕ) (keys : List (List ℕ)) → last_of (k ∷ keys) ≡ last_from k keys
    behind k [] = refl
    behind k (q ∷ keys) = behind q keys

module _ (w : Script) (s : Scene) (there : HasBucket s.content w.dest.bucket) (p : List ℕ) (keys : List (List ℕ)) where
  abbrev pub rest : List PageEntry
  rest = listed p false (last_of keys) there.0.objects

  -- The keys with those of the page.
  abbrev pub more_keys : List (List ℕ)
  more_keys = keys ++ keys_on (take 1000 rest)

  pub page_is : (x : Reply) → x ≡ answer s (page_after w.dest.bucket p keys)
      → walked keys x ≡ walked_by (nat_lt 1000 (length rest)) more_keys
  page_is x e = ap (walked keys) (e ∙ answer_is w s there.0 there.1 (page_after w.dest.bucket p keys) refl)

  -- What holds of the earlier keys and of all keys below the prefix holds of all of them.
  pub page_each : (Q : List ℕ → Type 0) → ((k : List ℕ) → begins p k ≡ true → Q k) → ((k : List ℕ) → IsIn k keys → Q k) → (k : List ℕ)
      → IsIn k more_keys → Q k
  page_each Q below old k i = elim (in_append k keys (keys_on (take 1000 rest)) i) [
    | inl h ↦ old k h
    | inr h ↦ below k (page_begins 1000 p (last_of keys) k there.0.objects h).0
  ]

  -- A key below the prefix that exists, and was listed or comes after the listed ones,
  module _ (k : List ℕ) (x : Object) (e : at_key w s.content k ≡ Some x) (h : begins p k ≡ true) where
    here : fin.get there.0.objects k ≡ Some x
    here = sym (key_before w s there.0 there.1 k) ∙ e

    -- is listed then, or comes after those that are,
    pub still_covered : IsIn k keys ⊎ (is_lt (text_cmp (last_of keys) k) ≡ true) → IsIn k more_keys
        ⊎ (is_lt (text_cmp (last_of more_keys) k) ≡ true)
    still_covered (inl i) = inl (in_front k keys (keys_on (take 1000 rest)) i)
    still_covered (inr l) = elim (page_covers 1000 p (last_of keys) k there.0.objects x here h l) [
      | inl i ↦ inl (in_back k keys (keys_on (take 1000 rest)) i)
      | inr g ↦
          let last : last_of more_keys ≡ last_from (last_of keys) (keys_on (take 1000 rest)) =
          last_so more_keys ∙ last_append [] keys (keys_on (take 1000 rest)) ∙ ap (λ t. last_from t (keys_on (take 1000 rest)))
          (sym (last_so keys)) in
          inr (ap (λ t. is_lt (text_cmp t k)) last ∙ g)
    ]

    -- and is listed, if no more remain.
    pub all_covered : nat_lt 1000 (length rest) ≡ false → IsIn k keys ⊎ (is_lt (text_cmp (last_of keys) k) ≡ true) → IsIn k more_keys
    all_covered few (inl i) = in_front k keys (keys_on (take 1000 rest)) i
    all_covered few (inr l) = in_back k keys (keys_on (take 1000 rest)) (page_all 1000 p (last_of keys) k there.0.objects x few here h l)
