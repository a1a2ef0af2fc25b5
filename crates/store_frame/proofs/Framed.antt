-- A request changes only the keys, the upload and the paths that it names, and the ids that it uses.
use Rattle.text_and_lists.proofs.Members.{nat_gone, nat_left, nat_other, none_some, same_or_not, same_or_other, text_here, text_left}
use Rattle.text_and_lists.proofs.Members.{text_other}
use Rattle.text_and_lists.proofs.Naturals.{next_most}
use Rattle.text_and_lists.specs.Members.{IsIn}
use Rattle.s3_types.specs.Answer.{aborted, apply, apply_at, apply_in, bucket_of, completed, copied, draws, made, part_put, renamed, without}
use Rattle.s3_types.specs.Multipart.{joined, live, with_key}
use Rattle.s3_types.specs.Names.{is_bucket}
use Rattle.s3_types.specs.Store.{BucketContent, Content, Files, Objects, Scene, Upload, Uploads, new_bucket}
use Rattle.s3_types.specs.declared.limits.TheConstants.{MOST_ENTRIES}
use Rattle.s3_types.specs.declared.object.Object.{Object}
use Rattle.s3_types.specs.declared.reply.Refusal.{Refusal}
use Rattle.s3_types.specs.declared.request.Request.{Request}
use Rattle.s3_types.specs.declared.request.Request.TheVariants.{AbortUpload, ClusterDelete, ClusterGet, ClusterList, ClusterPut}
use Rattle.s3_types.specs.declared.request.Request.TheVariants.{ClusterRename, CompleteUpload, CopyObject, CreateUpload, DeleteObject}
use Rattle.s3_types.specs.declared.request.Request.TheVariants.{DeleteObjects, MakeBucket, PutObject, UploadPart}
use Rattle.std.proofs.Common.{Bool, Err, List, None, Ok, Option, Result, Some, ap, arith, cond, false, inl, inr, length, nat_lt, refl}
use Rattle.std.proofs.Common.{subst, sym, true, ℕ, [], ◌+◌, ◌<◌, ◌∙◌, ◌∷◌, ◌≡◌, ◌≤◌, ◌⊎◌}
use Rattle.store_frame.specs.Frame.{Frame, changed_keys, changed_paths, changed_upload}
use Rattle.store_frame.specs.Held.{HasBucket, object_in, upload_at, upload_in}
use Rattle.std.specs.FinMap as fin

-- The store with b in place of the bucket n.
abbrev pub with_bucket : Content → List ℕ → BucketContent → ℕ → Content
with_bucket c n b next = record { buckets = fin.insert c.buckets n b; next = next; minimum = c.minimum }

pub part_others : (key : List ℕ) (id number : ℕ) (bytes : List ℕ) (m : Uploads) (o : Option Upload) (u : ℕ) → (u ≡ id → ⊥)
    → fin.get (part_put m id o number bytes) u ≡ fin.get m u
part_others key id number bytes m o u h = grind (arith, nat_other)

-- What a request may change in one bucket.
pub record Bucket (c d : Content) (n : List ℕ) (r : Request) : Type 0 where
  pub there : (b : BucketContent) → fin.get c.buckets n ≡ Some b → (x : BucketContent) × (fin.get d.buckets n ≡ Some x)
  pub least : d.minimum ≡ c.minimum
  pub later : c.next ≤ d.next
  pub keys : (k : List ℕ) → (bucket_of r ≡ n → IsIn k (changed_keys r) → ⊥)
      → object_in (fin.get d.buckets n) k ≡ object_in (fin.get c.buckets n) k
  pub uploads : (id : ℕ) → (bucket_of r ≡ n → changed_upload r ≡ Some id → ⊥) → id < c.next → upload_at d n id ≡ upload_at c n id
  pub fresh : ((id : ℕ) (x : Upload) → upload_at c n id ≡ Some x → id < c.next) → (id : ℕ) (x : Upload) → upload_at d n id ≡ Some x
      → id < d.next

-- The ids of the bucket's uploads are below the next id.
abbrev Fresh : Content → List ℕ → Type 0
Fresh c n = (id : ℕ) (x : Upload) → upload_at c n id ≡ Some x → id < c.next

frame_all : (c : Content) (n : List ℕ) (r : Request) → Bucket c c n r
frame_all c n r = record {
  there = λ b e. (b, e);
  least = refl;
  later = omega arith;
  keys = λ k h. refl;
  uploads = λ id h l. refl;
  fresh = λ
      f. f;
}

-- ---- another bucket

frame_other : (c : Content) (n q : List ℕ) (r : Request) (d : BucketContent) (next : ℕ) → (n ≡ q → ⊥) → c.next ≤ next
    → Bucket c (with_bucket c q d next) n r
frame_other c n q r d next ne later =
    let same : fin.get (fin.insert c.buckets q d) n ≡ fin.get c.buckets n = text_other c.buckets q n d ne in
    record {
      there = λ b e. (b, same ∙ e);
      least = refl;
      later = later;
      keys = λ k h. ap (λ o. object_in o k) same;
      uploads = λ id h l. ap (λ o. upload_in o id) same;
      fresh = λ f id x e. let old : id < c.next = f id x (sym (ap (λ o. upload_in o id) same) ∙ e) in omega arith;
    }

-- ---- the bucket itself

record Within (r : Request) (b d : BucketContent) (first next : ℕ) : Type 0 where
  pub objects : (k : List ℕ) → (IsIn k (changed_keys r) → ⊥) → fin.get d.objects k ≡ fin.get b.objects k
  pub uploads : (id : ℕ) → (changed_upload r ≡ Some id → ⊥) → id < first → fin.get d.uploads id ≡ fin.get b.uploads id
  pub fresh : ((id : ℕ) (x : Upload) → fin.get b.uploads id ≡ Some x → id < first) → (id : ℕ) (x : Upload) → fin.get d.uploads id ≡ Some x
      → id < next

frame_within : (c : Content) (n : List ℕ) (r : Request) (b : BucketContent) → bucket_of r ≡ n → fin.get c.buckets n ≡ Some b
    → (d : BucketContent) (next : ℕ) → c.next ≤ next → Within r b d c.next next → Bucket c (with_bucket c n d next) n r
frame_within c n r b bucket there d next later h =
    let now : fin.get (fin.insert c.buckets n d) n ≡ Some d = text_here c.buckets n n d refl in
    record {
      there = λ q e. (d, now);
      least = refl;
      later = later;
      keys = λ k free. ap (λ o. object_in o k) now ∙ h.objects k (free bucket) ∙ sym (ap (λ o. object_in o k) there);
      uploads = λ id free l. ap (λ o. upload_in o id) now ∙ h.uploads id (free bucket) l ∙ sym (ap (λ o. upload_in o id) there);
      fresh = λ f id x e. h.fresh (λ u y g. f u y (ap (λ o. upload_in o u) there ∙ g)) id x (sym (ap (λ o. upload_in o id) now) ∙ e);
    }

module _ (b : BucketContent) (next : ℕ) where
  same_all : (r : Request) → Within r b b next next
  same_all r = record { objects = λ k h. refl; uploads = λ id h l. refl; fresh = λ f. f }

  objects_within : (r : Request) (os : Objects) → ((k : List ℕ) → (IsIn k (changed_keys r) → ⊥) → fin.get os k ≡ fin.get b.objects k)
      → Within r b (record { objects = os; uploads = b.uploads }) next next
  objects_within r os same = record { objects = same; uploads = λ id h l. refl; fresh = λ f. f }

  without_same : (o : Objects) (ks : List (List ℕ)) (k : List ℕ) → (IsIn k ks → ⊥) → fin.get (without o ks) k ≡ fin.get o k
  without_same o [] k h = refl
  without_same o (q ∷ ks) k h = without_same (fin.remove o q) ks k (λ i. h (inr i)) ∙ text_left o q k (λ e. h (inl e))

  deletes_within : (n : List ℕ) (ks : List (List ℕ)) (t : Bool)
      → Within (DeleteObjects n ks) b (record { objects = cond t b.objects (without b.objects ks); uploads = b.uploads }) next next
  deletes_within n ks true = same_all (DeleteObjects n ks)
  deletes_within n ks false = objects_within (DeleteObjects n ks) (without b.objects ks) (without_same b.objects ks)

  copy_within : (n source q : List ℕ) (o : Option Object)
      → Within (CopyObject n source q) b (record { objects = copied b.objects q o; uploads = b.uploads }) next next
  copy_within n source q None = same_all (CopyObject n source q)
  copy_within n source q (Some x) = objects_within (CopyObject n source q) (fin.insert b.objects q x)
      (λ k h. text_other b.objects q k x (λ e. h (inl e)))

  part_within : (n key : List ℕ) (id number : ℕ) (bytes : List ℕ) (o : Option Upload)
      → ((o ≡ None) ⊎ ((y : Upload) × (fin.get b.uploads id ≡ Some y)))
      → Within (UploadPart n key id number bytes) b (record { objects = b.objects; uploads = part_put b.uploads id o number bytes }) next
      next
  part_within n key id number bytes o h = grind (arith, part_others, same_or_not)

  -- If the upload is live with its key, it exists.
  stands_so : (key : List ℕ) (id : ℕ) (o : Option Upload) → fin.get b.uploads id ≡ o → (with_key key o ≡ None)
      ⊎ ((y : Upload) × (fin.get b.uploads id ≡ Some y))
  stands_so key id None e = inl refl
  stands_so key id (Some y) e = inr (y, e)

  gone_fresh : (id : ℕ) → ((u : ℕ) (x : Upload) → fin.get b.uploads u ≡ Some x → u < next) → (u : ℕ) (x : Upload)
      → fin.get (fin.remove b.uploads id) u ≡ Some x → u < next
  gone_fresh id h u x g = grind (arith, same_or_not, nat_gone, nat_left)

  abort_within : (n key : List ℕ) (id : ℕ) (o : Option Upload)
      → Within (AbortUpload n key id) b (record { objects = b.objects; uploads = aborted b.uploads id o }) next next
  abort_within n key id o = grind (arith, same_all, nat_left, gone_fresh)

  complete_within : (r : Request) (q : List ℕ) (id : ℕ) (x : Result (List ℕ) Refusal) → IsIn q (changed_keys r) → changed_upload r ≡ Some id
      → Within r b (completed b q id x) next next
  complete_within r q id (Err y) i e = same_all r
  complete_within r q id (Ok bytes) i e = record {
    objects = λ k h. text_other b.objects q k (record { bytes = bytes; header = None })
        (λ g. h (subst (λ y. IsIn y (changed_keys r)) (sym g) i));
    uploads = λ u h l. nat_left b.uploads id u (λ g. h (e ∙ ap (λ v. Some v) (sym g)));
    fresh = gone_fresh id;
  }

  create_within : (n key : List ℕ) → Within (CreateUpload n key) b (record
      { objects = b.objects; uploads = fin.insert b.uploads next (record { key = key; parts = fin.empty }) }) next (next + 1)
  create_within n key = grind (arith, nat_other, same_or_not)

  within : (minimum : ℕ) (r : Request) → Within r b (apply_in b next minimum r) next (cond (draws r) (next + 1) next)
  within minimum (PutObject n k bytes header) =
      objects_within (PutObject n k bytes header) _ (λ q h. text_other b.objects k q (record { bytes = bytes; header = header })
      (λ e. h (inl e)))
  within minimum (DeleteObject n k) = objects_within (DeleteObject n k) (fin.remove b.objects k)
      (λ q h. text_left b.objects k q (λ e. h (inl e)))
  within minimum (DeleteObjects n ks) = deletes_within n ks (nat_lt MOST_ENTRIES (length ks))
  within minimum (CopyObject n source target) = copy_within n source target (fin.get b.objects source)
  within minimum (CreateUpload n k) = create_within n k
  within minimum (UploadPart n k id number bytes) = part_within n k id number bytes (live b.uploads k id)
      (stands_so k id (fin.get b.uploads id) refl)
  within minimum (CompleteUpload n k id ps) = complete_within (CompleteUpload n k id ps) k id (joined (live b.uploads k id) ps minimum)
      (inl refl) refl
  within minimum (AbortUpload n k id) = abort_within n k id (live b.uploads k id)
  within minimum _ = same_all _

-- ---- any bucket

at_bucket : (c : Content) (n : List ℕ) (r : Request) (o : Option BucketContent) → fin.get c.buckets (bucket_of r) ≡ o
    → Bucket c (apply_at o c r) n r
at_bucket c n r None e = frame_all c n r
at_bucket c n r (Some b) e = elim (same_or_other n (bucket_of r)) [
  | inr ne ↦ frame_other c n (bucket_of r) r (apply_in b c.next c.minimum r) (cond (draws r) (c.next + 1) c.next) ne
      (next_most (draws r) c.next)
  | inl is ↦
      let P : List ℕ → Type 0 = λ q. Bucket c (with_bucket c q (apply_in b c.next c.minimum r) (cond (draws r) (c.next + 1) c.next)) n r in
      subst P is (frame_within c n r b (sym is) (ap (fin.get c.buckets) is ∙ e) (apply_in b c.next c.minimum r)
      (cond (draws r) (c.next + 1) c.next) (next_most (draws r) c.next) (within b c.next c.minimum r))
]

made_frame : (c : Content) (n q : List ℕ) (r : Request) (o : Option BucketContent) → fin.get c.buckets q ≡ o → HasBucket c n → (t : Bool)
    → is_bucket q ≡ t → Bucket c (made c q o) n r
made_frame c n q r (Some b) e s t h = frame_all c n r
made_frame c n q r None e s true h = rw h (frame_other c n q r new_bucket c.next (λ is. none_some (ap (fin.get c.buckets) is ∙ e) s.1)
    (omega arith))
made_frame c n q r None e s false h = rw h (frame_all c n r)

-- ---- the whole scene

module _ (s : Scene) (n : List ℕ) (r : Request) where
  -- A request to the store.
  of_store : (c : Content) → Bucket s.content c n r → Frame s (record { content = c; files = s.files }) n r
  of_store c h = record {
    there = h.there;
    least = h.least;
    later = h.later;
    keys = h.keys;
    uploads = h.uploads;
    fresh = h.fresh;
    files = λ
        p free. refl;
  }

  -- A request to the cluster.
  of_cluster : (m : Files) → ((p : List ℕ) → (IsIn p (changed_paths r) → ⊥) → fin.get m p ≡ fin.get s.files p)
      → Frame s (record { content = s.content; files = m }) n r
  of_cluster m h = record {
    there = λ b e. (b, e);
    least = refl;
    later = omega arith;
    keys = λ k free. refl;
    uploads = λ id free l. refl;
    fresh = λ f. f;
    files = h;
  }

moved : (m : Files) (source target : List ℕ) (o : Option (List ℕ)) (p : List ℕ) → (IsIn p (source ∷ target ∷ []) → ⊥)
    → fin.get (renamed m source target o) p ≡ fin.get m p
moved m source target None p free = refl
moved m source target (Some bytes) p free = text_other (fin.remove m source) target p bytes (λ e. free (inr (inl e))) ∙ text_left m source p
    (λ e. free (inl e))

pub frame : (s : Scene) (n : List ℕ) (r : Request) → HasBucket s.content n → Frame s (apply s r) n r
frame s n (MakeBucket q) h = of_store s n (MakeBucket q) _ (made_frame s.content n q (MakeBucket q) (fin.get s.content.buckets q) refl h
    (is_bucket q) refl)
frame s n (ClusterPut path bytes) h = of_cluster s n (ClusterPut path bytes) (fin.insert s.files path bytes)
    (λ p free. text_other s.files path p bytes (λ e. free (inl e)))
frame s n (ClusterRename source target) h = of_cluster s n (ClusterRename source target)
    (renamed s.files source target (fin.get s.files source)) (moved s.files source target (fin.get s.files source))
frame s n (ClusterGet path) h = of_cluster s n (ClusterGet path) s.files (λ p free. refl)
frame s n (ClusterDelete path) h = of_cluster s n (ClusterDelete path) (fin.remove s.files path)
    (λ p free. text_left s.files path p (λ e. free (inl e)))
frame s n (ClusterList p) h = of_cluster s n (ClusterList p) s.files (λ p free. refl)
frame s n r h = of_store s n r _ (at_bucket s.content n r (fin.get s.content.buckets (bucket_of r)) refl)
