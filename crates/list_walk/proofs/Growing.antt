-- How much one request adds to what is there.
use Rattle.text_and_lists.proofs.Members.{true_or_false}
use Rattle.text_and_lists.proofs.Tree.{entries_empty, tied}
use Rattle.text_and_lists.specs.Order.{text_cmp, text_total}
use Rattle.list_walk.proofs.Counting.{count, count_insert, count_remove}
use Rattle.list_walk.proofs.Listing.{count_mapped, is_left, is_left_ref, listed_count, refs_count}
use Rattle.list_walk.specs.WalksEnd.{Growth}
use Rattle.list_walk.specs.Left.{adds_key, count_in, files_left, in_bucket, one_if, sets_upload}
use Rattle.s3_types.specs.Answer.{apply, apply_at, apply_in, bucket_of, made, part_put, renamed, without}
use Rattle.s3_types.specs.Multipart.{is_part_number, ref_of, with_part}
use Rattle.s3_types.specs.Names.{is_bucket}
use Rattle.s3_types.specs.Pages.{begins, listed}
use Rattle.s3_types.specs.Store.{BucketContent, Content, Files, Objects, Scene, Upload, Uploads, new_bucket}
use Rattle.s3_types.specs.declared.object.Object.{Object}
use Rattle.s3_types.specs.declared.request.Request.{Request}
use Rattle.s3_types.specs.declared.request.Request.TheVariants.{ClusterDelete, ClusterGet, ClusterList, ClusterPut, ClusterRename}
use Rattle.s3_types.specs.declared.request.Request.TheVariants.{MakeBucket}
use Rattle.s3_types.specs.declared.request.UploadRef.{UploadRef}
use Rattle.std.proofs.Common.{List, None, Option, Some, ap, arith, cond, false, inl, inr, length, refl, true, ℕ, [], ◌+◌, ◌∙◌, ◌∷◌, ◌≡◌}
use Rattle.std.proofs.Common.{◌≤◌}
use Rattle.std.proofs.lemmas.Map.Lookups.{exact_bytes}
use Rattle.std.specs.Cmp.{nat_cmp_total}
use Rattle.std.specs.FinMap.{get-insert}
use Rattle.std.specs.List.{filter}
use Rattle.std.specs.Ordering.{eq_by_cmp, nat_cmp}
use Rattle.std.specs.FinMap as fin
use Rattle.s3_types.specs.Multipart as uploads

-- ---- in a bucket

module _ (f : BucketContent → ℕ) (d : ℕ) where
  grown : (s : Scene) (r : Request) (o : Option BucketContent) → fin.get s.content.buckets (bucket_of r) ≡ o
      → ((c : BucketContent) (n m : ℕ) → f (apply_in c n m r) ≤ f c + d)
      → (b : List ℕ) → count_in f (fin.get (apply_at o s.content r).buckets b) ≤ count_in f (fin.get s.content.buckets b) + d
  grown s r None e h b = omega arith
  grown s r (Some c) e h b = rw (get-insert text_total s.content.buckets (bucket_of r) (apply_in c s.content.next s.content.minimum r) b)
      (elim (true_or_false (eq_by_cmp text_cmp b (bucket_of r))) [
        | inl t ↦ rw (t, exact_bytes b (bucket_of r) (tied (text_cmp b (bucket_of r)) t), e) (h c s.content.next s.content.minimum)
        | inr t ↦ rw t (omega arith)
      ])

  grown_new : f new_bucket ≡ 0 → (c : Content) (name : List ℕ) (o : Option BucketContent) (b : List ℕ)
      → count_in f (fin.get (made c name o).buckets b) ≤ count_in f (fin.get c.buckets b) + d
  grown_new z c name (Some x) b = omega arith
  grown_new z c name None b = elim (true_or_false (is_bucket name)) [
    | inr t ↦ rw t (omega arith)
    | inl t ↦ rw (t, get-insert text_total c.buckets name new_bucket b)
        (elim (true_or_false (eq_by_cmp text_cmp b name)) [ inl e ↦ rw e (omega (arith, z)) | inr e ↦ rw e (omega arith) ])
  ]

  pub grows : f new_bucket ≡ 0 → (s : Scene) (r : Request) → ((c : BucketContent) (n m : ℕ) → f (apply_in c n m r) ≤ f c + d) → (b : List ℕ)
      → in_bucket (apply s r) b f ≤ in_bucket s b f + d
  grows z s (MakeBucket name) h b = grown_new z s.content name (fin.get s.content.buckets name) b
  grows z s (ClusterPut path bytes) h b = omega arith
  grows z s (ClusterRename source target) h b = omega arith
  grows z s (ClusterGet path) h b = omega arith
  grows z s (ClusterDelete path) h b = omega arith
  grows z s (ClusterList p) h b = omega arith
  grows z s r h b = grown s r (fin.get s.content.buckets (bucket_of r)) refl h b

-- ---- keys

module _ (p a : List ℕ) where
  abbrev K : Objects → ℕ
  K m = length (listed p false a m)

  more_keys : (m : Objects) (k : List ℕ) (x : Object) → length (listed p false a (fin.insert m k x)) ≤ length (listed p false a m) + 1
  more_keys m k x = let i = count_insert text_total (is_left p a) m k x in omega
      (arith, i, listed_count p a m, listed_count p a (fin.insert m k x))

  no_more_keys : (m : Objects) (k : List ℕ) → length (listed p false a (fin.remove m k)) ≤ length (listed p false a m)
  no_more_keys m k = let i = count_remove text_total exact_bytes (is_left p a) m k in omega
      (arith, i, listed_count p a m, listed_count p a (fin.remove m k))

  keys_without : (m : Objects) (ks : List (List ℕ)) → length (listed p false a (without m ks)) ≤ length (listed p false a m)
  keys_without m [] = omega arith
  keys_without m (k ∷ ks) = let i = keys_without (fin.remove m k) ks in let j = no_more_keys m k in omega (arith, i, j)

  keys_by : (r : Request) (c : BucketContent) (n m : ℕ)
      → length (listed p false a (apply_in c n m r).objects) ≤ length (listed p false a c.objects) + one_if (adds_key r)
  keys_by r c n m = grind (arith, more_keys, no_more_keys, keys_without)

  none_new : length (listed p false a new_bucket.objects) ≡ 0
  none_new = listed_count p a fin.empty ∙ ap (count (is_left p a)) (entries_empty text_cmp)

-- ---- uploads

module _ (p : List ℕ) (a : Option UploadRef) where
  abbrev U : Uploads → ℕ
  U m = length (uploads.listed p a m)

  more_refs : (m : Uploads) (i : ℕ) (u : Upload) → length (uploads.listed p a (fin.insert m i u)) ≤ length (uploads.listed p a m) + 1
  more_refs m i u = let j = count_insert nat_cmp_total (λ e. is_left_ref p a (ref_of e).0) m i u in omega
      (arith, j, refs_count p a m, refs_count p a (fin.insert m i u))

  no_more_refs : (m : Uploads) (i : ℕ) → length (uploads.listed p a (fin.remove m i)) ≤ length (uploads.listed p a m)
  no_more_refs m i =
      let j = count_remove nat_cmp_total fin.nat_cmp-IsAntisymmetric (λ e. is_left_ref p a (ref_of e).0) m i in omega
      (arith, j, refs_count p a m, refs_count p a (fin.remove m i))

  refs_parted : (m : Uploads) (i : ℕ) (o : Option Upload) (n : ℕ) (bytes : List ℕ)
      → length (uploads.listed p a (part_put m i o n bytes)) ≤ length (uploads.listed p a m) + 1
  refs_parted m i None n bytes = omega arith
  refs_parted m i (Some u) n bytes = elim (is_part_number n) as (λ b. U (cond b (fin.insert m i (with_part u n bytes)) m) ≤ U m + 1) [
    | true ↦ more_refs m i (with_part u n bytes)
    | false ↦ omega arith
  ]

  refs_by : (r : Request) (c : BucketContent) (n m : ℕ)
      → length (uploads.listed p a (apply_in c n m r).uploads) ≤ length (uploads.listed p a c.uploads) + one_if (sets_upload r)
  refs_by r c n m = grind (arith, more_refs, refs_parted, no_more_refs)

  no_refs_new : length (uploads.listed p a new_bucket.uploads) ≡ 0
  no_refs_new = refs_count p a fin.empty ∙ ap (count (λ e. is_left_ref p a (ref_of e).0)) (entries_empty nat_cmp)

-- ---- files

module _ (p : List ℕ) where
  files_count : (m : Files) → length (filter (begins p) (fin.keys m)) ≡ count (λ e. begins p e.0) (fin.entries m)
  files_count m = count_mapped (λ e. e.0) (begins p) (fin.entries m)

  more_files : (m : Files) (k : List ℕ) (x : List ℕ)
      → length (filter (begins p) (fin.keys (fin.insert m k x))) ≤ length (filter (begins p) (fin.keys m)) + 1
  more_files m k x = let i = count_insert text_total (λ e. begins p e.0) m k x in omega
      (arith, i, files_count m, files_count (fin.insert m k x))

  no_more_files : (m : Files) (k : List ℕ) → length (filter (begins p) (fin.keys (fin.remove m k))) ≤ length
      (filter (begins p) (fin.keys m))
  no_more_files m k = let i = count_remove text_total exact_bytes (λ e. begins p e.0) m k in omega
      (arith, i, files_count m, files_count (fin.remove m k))

  files_renamed : (m : Files) (source target : List ℕ) (o : Option (List ℕ))
      → length (filter (begins p) (fin.keys (renamed m source target o))) ≤ length (filter (begins p) (fin.keys m)) + 1
  files_renamed m source target (Some bytes) = let i = more_files (fin.remove m source) target bytes in let j = no_more_files m source in
      omega (arith, i, j)
  files_renamed m source target None = omega arith

  files_by : (s : Scene) (r : Request) → files_left p (apply s r) ≤ files_left p s + 1
  files_by s r = grind (arith, more_files, files_renamed, no_more_files)

pub growth : Growth
growth = record {
  keys = λ b p a s r. grows (λ c. length (listed p false a c.objects)) (one_if (adds_key r)) (none_new p a) s r (keys_by p a r) b;
  refs = λ b p a s r. grows (λ c. length (uploads.listed p a c.uploads)) (one_if (sets_upload r)) (no_refs_new p a) s r (refs_by p a r) b;
  files = files_by;
}
