-- What walks and sweeps have left falls.
use Rattle.text_and_lists.proofs.Naturals.{below_is}
use Rattle.list_walk.proofs.Growing.{growth}
use Rattle.list_walk.proofs.Listing.{behind_page, last_append, last_from}
use Rattle.list_walk.proofs.Uploads.{behind_uploads, refs_append}
use Rattle.list_walk.specs.Fitting.{FitsPage, FitsSweep, FitsUploads}
use Rattle.list_walk.specs.WalksEnd.{LessUploads, LessWalk, SweepLaws, UploadLaws, WalkLaws}
use Rattle.list_walk.specs.Left.{adds_key, count_in, keys_left, left_of, one_if, refs_left, sets_upload, sweep_left, thousands}
use Rattle.list_walk.specs.Left.{uploads_left, walk_left}
use Rattle.list_walk.specs.Walks.{Deleting, Listing, Sweep, deleting, keys_on, last_of, last_ref, page_after, sweep_asks, sweep_hears}
use Rattle.list_walk.specs.Walks.{swept, uploads_after, walked, walked_by, walked_uploads}
use Rattle.s3_types.specs.Answer.{answer, answer_at, apply}
use Rattle.s3_types.specs.Pages.{listed, text_in}
use Rattle.s3_types.specs.Store.{BucketContent, Scene}
use Rattle.s3_types.specs.declared.reply.PageEntry.{PageEntry}
use Rattle.s3_types.specs.declared.request.Request.{Request}
use Rattle.s3_types.specs.declared.request.UploadRef.{UploadRef}
use Rattle.std.proofs.Common.{Bool, List, None, Option, Some, ap, arith, cond, drop, false, length, length-append, length-drop, nat_lt}
use Rattle.std.proofs.Common.{refl, subst, sym, take, true, ℕ, [], ◌*◌, ◌++◌, ◌+◌, ◌-◌, ◌<◌, ◌∙◌, ◌∷◌, ◌≡◌, ◌≤◌}
use Rattle.std.proofs.lemmas.List.{length-map, length-take}
use Rattle.std.specs.List.{filter}
use Rattle.store_frame.proofs.Reading.{reads_nothing}
use Rattle.std.specs.FinMap as fin
use Rattle.s3_types.specs.Multipart as uploads

fewer : (n : ℕ) → 0 < n → thousands (n - 1000) < thousands n
fewer n h = omega arith

more_by : (n m : ℕ) (b : Bool) → m ≤ n + 2 * one_if b → thousands m ≤ thousands n + one_if b
more_by n m true h = omega arith
more_by n m false h = omega arith

rising : (m n : ℕ) → m ≤ n → thousands m ≤ thousands n
rising m n h = omega arith

length_chosen : (t : List ℕ → Bool) (ks : List (List ℕ)) → length (filter t ks) ≤ length ks
length_chosen t [] = omega arith
length_chosen t (k ∷ ks) = elim (t k) as (λ b. length (cond b (k ∷ filter t ks) (filter t ks)) ≤ length (k ∷ ks)) [
  | true ↦ omega (arith, length_chosen t ks)
  | false ↦ omega (arith, length_chosen t ks)
]

-- ---- keys

module _ (b p : List ℕ) (keys : List (List ℕ)) (s : Scene) where
  -- The number of keys that are left after a page of at most 1,000.
  left_behind : (c : BucketContent) → fin.get s.content.buckets b ≡ Some c → (l : List PageEntry)
      → listed p false (last_of keys) c.objects ≡ l → keys_left b p (last_of (keys ++ keys_on (take 1000 l))) s ≡ length l - 1000
  left_behind c e l h =
      ap (λ a. keys_left b p a s) (last_append keys (keys_on (take 1000 l)))
      ∙ ap (count_in (λ c. length (listed p false (last_from (last_of keys) (keys_on (take 1000 l))) c.objects))) e
      ∙ ap length (behind_page p (last_of keys) c.objects 1000 l h)
      ∙ length-drop 1000 l

  left_now : (c : BucketContent) → fin.get s.content.buckets b ≡ Some c → (l : List PageEntry) → listed p false (last_of keys) c.objects ≡ l
      → keys_left b p (last_of keys) s ≡ length l
  left_now c e l h = ap (count_in (λ c. length (listed p false (last_of keys) c.objects))) e ∙ ap length h

  -- A full page adds 1,000 keys.
  full : (l : List PageEntry) → 1000 < length l → length (keys ++ keys_on (take 1000 l)) ≡ length keys + 1000
  full l h = let t = length-take 1000 l in omega (arith, length-append keys (keys_on (take 1000 l)), length-map (take 1000 l) text_in, t)

  last_page : (l : List PageEntry) → length (keys ++ keys_on (take 1000 l)) ≤ length keys + length l
  last_page l = let t = length-take 1000 l in omega (arith, length-append keys (keys_on (take 1000 l)), length-map (take 1000 l) text_in, t)

  -- ---- a walk

  walk_by : (c : BucketContent) → fin.get s.content.buckets b ≡ Some c → (l : List PageEntry) → listed p false (last_of keys) c.objects ≡ l
      → (t : Bool) → nat_lt 1000 (length l) ≡ t
      → LessWalk b p s (walk_left b p keys s) (walked_by t (keys ++ keys_on (take 1000 l)))
  walk_by c e l h true t =
      let i = left_behind c e l h in let j = left_now c e l h in let k = below_is 1000 (length l) t in
      let f : thousands (length l - 1000) < thousands (length l) = fewer (length l) (omega arith) in
      let m : thousands (keys_left b p (last_of (keys ++ keys_on (take 1000 l))) s) ≡ thousands (length l - 1000) = ap thousands i in
      let n : thousands (keys_left b p (last_of keys) s) ≡ thousands (length l) = ap thousands j in
      omega (arith, f, m, n)
  walk_by c e l h false t = tt

  walk_step : (o : Option BucketContent) → fin.get s.content.buckets b ≡ o
      → FitsPage (answer_at o s.content.next s.content.minimum (page_after b p keys))
      → LessWalk b p s (walk_left b p keys s) (walked keys (answer_at o s.content.next s.content.minimum (page_after b p keys)))
  walk_step None e h = absurd h
  walk_step (Some c) e h = walk_by c e (listed p false (last_of keys) c.objects) refl
      (nat_lt 1000 (length (listed p false (last_of keys) c.objects))) refl

  walk_grows : (r : Request) → walk_left b p keys (apply s r) ≤ walk_left b p keys s + one_if (adds_key r)
  walk_grows r =
      let g = growth.keys b p (last_of keys) s r in
      let h = more_by (keys_left b p (last_of keys) s) (keys_left b p (last_of keys) (apply s r)) (adds_key r) (omega arith) in
      omega (arith, h)

  -- ---- a sweep that lists

  sweep_by : (goes : List ℕ → Bool) (c : BucketContent) → fin.get s.content.buckets b ≡ Some c → (l : List PageEntry)
      → listed p false (last_of keys) c.objects ≡ l → (t : Bool) → nat_lt 1000 (length l) ≡ t
      → left_of b p (swept goes (walked_by t (keys ++ keys_on (take 1000 l)))) s < sweep_left b p (Listing keys) s
  sweep_by goes c e l h true t =
      let i = left_behind c e l h in let j = left_now c e l h in let k = below_is 1000 (length l) t in let u = full l k in
      let f : thousands (length keys + 2 * length l - 1000) < thousands (length keys + 2 * length l) = fewer (length keys + 2 * length l)
      (omega arith) in
      let v : length (keys ++ keys_on (take 1000 l)) + 2 * keys_left b p (last_of (keys ++ keys_on (take 1000 l))) s ≡ length keys + 2 *
      length l - 1000 = omega (arith, i, u) in
      let w : length keys + 2 * keys_left b p (last_of keys) s ≡ length keys + 2 * length l = omega (arith, j) in
      let m = ap thousands v in let n = ap thousands w in
      omega (arith, f, m, n)
  sweep_by goes c e l h false t = few (filter goes (keys ++ keys_on (take 1000 l)))
      (omega (arith, length_chosen goes (keys ++ keys_on (take 1000 l)), last_page l, left_now c e l h))
    where
      few : (ks : List (List ℕ)) → length ks ≤ length keys + 2 * keys_left b p (last_of keys) s
          → left_of b p (deleting ks) s < sweep_left b p (Listing keys) s
      few [] g = omega arith
      few (k ∷ ks) g = let m = rising (length (k ∷ ks)) (length keys + 2 * keys_left b p (last_of keys) s) g in omega (arith, m)

  sweep_step : (goes : List ℕ → Bool) (o : Option BucketContent) → fin.get s.content.buckets b ≡ o
      → FitsPage (answer_at o s.content.next s.content.minimum (page_after b p keys))
      → left_of b p (swept goes (walked keys (answer_at o s.content.next s.content.minimum (page_after b p keys)))) s < sweep_left b p
      (Listing keys) s
  sweep_step goes None e h = absurd h
  sweep_step goes (Some c) e h = sweep_by goes c e (listed p false (last_of keys) c.objects) refl
      (nat_lt 1000 (length (listed p false (last_of keys) c.objects))) refl

  still : apply s (page_after b p keys) ≡ s
  still = reads_nothing s (page_after b p keys) refl

-- ---- sweeps

batch_falls : (b p : List ℕ) (s : Scene) (n : ℕ) (ks : List (List ℕ)) → length ks ≡ n - 1000 → 0 < n
    → left_of b p (deleting ks) s < thousands n
batch_falls b p s n [] e h = omega arith
batch_falls b p s n (k ∷ ks) e h = let f = fewer n h in let g = ap thousands e in omega (arith, f, g)

sweep_falls : (b p : List ℕ) (goes : List ℕ → Bool) (w : Sweep) (s : Scene) → FitsSweep w (answer s (sweep_asks b p w))
    → left_of b p (sweep_hears goes w (answer s (sweep_asks b p w))) (apply s (sweep_asks b p w)) < sweep_left b p w s
sweep_falls b p goes (Listing keys) s h =
    subst (λ z. left_of b p (swept goes (walked keys (answer s (page_after b p keys)))) z < sweep_left b p (Listing keys) s)
    (sym (still b p keys s))
    (sweep_step b p keys s goes (fin.get s.content.buckets b) refl h)
sweep_falls b p goes (Deleting k ks) s h = batch_falls b p (apply s (sweep_asks b p (Deleting k ks))) (length (k ∷ ks)) (drop 1000 (k ∷ ks))
    (length-drop 1000 (k ∷ ks)) (omega arith)

sweep_some : (b p : List ℕ) (w : Sweep) (s : Scene) → 0 < sweep_left b p w s
sweep_some b p (Listing keys) s = omega arith
sweep_some b p (Deleting k ks) s = omega arith

sweep_keeps : (b p : List ℕ) (w : Sweep) (s : Scene) → sweep_left b p w (apply s (sweep_asks b p w)) ≤ sweep_left b p w s
sweep_keeps b p (Listing keys) s = subst (λ z. sweep_left b p (Listing keys) z ≤ sweep_left b p (Listing keys) s) (sym (still b p keys s))
    (omega arith)
sweep_keeps b p (Deleting k ks) s = omega arith

sweep_grows : (b p : List ℕ) (w : Sweep) (s : Scene) (r : Request) → sweep_left b p w (apply s r) ≤ sweep_left b p w s + one_if (adds_key r)
sweep_grows b p (Listing keys) s r =
    let g = growth.keys b p (last_of keys) s r in
    let h = more_by (length keys + 2 * keys_left b p (last_of keys) s) (length keys + 2 * keys_left b p (last_of keys) (apply s r))
    (adds_key r) (omega arith) in
    omega (arith, h)
sweep_grows b p (Deleting k ks) s r = omega arith

-- ---- uploads

module _ (b p : List ℕ) (found : List UploadRef) (s : Scene) where
  refs_behind : (c : BucketContent) → fin.get s.content.buckets b ≡ Some c → (l : List UploadRef)
      → uploads.listed p (last_ref None found) c.uploads ≡ l → refs_left b p (last_ref None (found ++ take 1000 l)) s ≡ length l - 1000
  refs_behind c e l h =
      ap (λ a. refs_left b p a s) (refs_append None found (take 1000 l))
      ∙ ap (count_in (λ c. length (uploads.listed p (last_ref (last_ref None found) (take 1000 l)) c.uploads))) e
      ∙ ap length (behind_uploads p c.uploads 1000 (last_ref None found) l h)
      ∙ length-drop 1000 l

  refs_now : (c : BucketContent) → fin.get s.content.buckets b ≡ Some c → (l : List UploadRef)
      → uploads.listed p (last_ref None found) c.uploads ≡ l → refs_left b p (last_ref None found) s ≡ length l
  refs_now c e l h = ap (count_in (λ c. length (uploads.listed p (last_ref None found) c.uploads))) e ∙ ap length h

  uploads_by : (c : BucketContent) → fin.get s.content.buckets b ≡ Some c → (l : List UploadRef)
      → uploads.listed p (last_ref None found) c.uploads ≡ l → (t : Bool) → nat_lt 1000 (length l) ≡ t
      → LessUploads b p s (uploads_left b p found s) (walked_by t (found ++ take 1000 l))
  uploads_by c e l h true t =
      let i = refs_behind c e l h in let j = refs_now c e l h in let k = below_is 1000 (length l) t in let u = length-take 1000 l in
      omega (arith, i, j, k, u, length-append found (take 1000 l))
  uploads_by c e l h false t =
      let j = refs_now c e l h in let u = length-take 1000 l in
      omega (arith, j, u, length-append found (take 1000 l))

  uploads_step : (o : Option BucketContent) → fin.get s.content.buckets b ≡ o
      → FitsUploads (answer_at o s.content.next s.content.minimum (uploads_after b p found))
      → LessUploads b p s (uploads_left b p found s) (walked_uploads found
      (answer_at o s.content.next s.content.minimum (uploads_after b p found)))
  uploads_step None e h = absurd h
  uploads_step (Some c) e h = uploads_by c e (uploads.listed p (last_ref None found) c.uploads) refl
      (nat_lt 1000 (length (uploads.listed p (last_ref None found) c.uploads))) refl

  uploads_grow : (r : Request) → uploads_left b p found (apply s r) ≤ uploads_left b p found s + 2 * one_if (sets_upload r)
  uploads_grow r = let g = growth.refs b p (last_ref None found) s r in omega (arith, g)

pub walk_laws : WalkLaws
walk_laws = record {
  still = still;
  falls = λ b p keys s. walk_step b p keys s (fin.get s.content.buckets b) refl;
  others = walk_grows;
}

pub sweep_laws : SweepLaws
sweep_laws = grind (arith, sweep_falls, sweep_some, sweep_keeps, sweep_grows)

pub upload_laws : UploadLaws
upload_laws = record {
  still = λ b p found s. reads_nothing s (uploads_after b p found) refl;
  falls = λ b p found s h. uploads_step b p found s (fin.get s.content.buckets b) refl h;
  others = uploads_grow;
}
