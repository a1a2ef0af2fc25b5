-- A walk over live uploads finds each of them.
use Rattle.text_and_lists.proofs.EntriesFrom.{find_head, find_other}
use Rattle.text_and_lists.proofs.Members.{filter_in, in_filter, in_map, map_in, nat_true, none_some, some_is, text_true, ties}
use Rattle.text_and_lists.proofs.Members.{true_or_false}
use Rattle.text_and_lists.proofs.Tree.{map_sorted, tied}
use Rattle.text_and_lists.specs.Members.{IsIn}
use Rattle.text_and_lists.specs.Order.{text_cmp, text_ties, text_total}
use Rattle.job_invariant.proofs.Shapes.{answer_is}
use Rattle.job_invariant.specs.Clearing.{ref_at}
use Rattle.job_model.specs.JobScript.{Script}
use Rattle.job_protocol.specs.Setup.{dest_prefix}
use Rattle.list_walk.specs.Walks.{last_ref, uploads_after, walked_by, walked_uploads}
use Rattle.s3_types.specs.Answer.{answer}
use Rattle.s3_types.specs.Multipart.{is_behind, listed, ref_cmp, ref_of, refs}
use Rattle.s3_types.specs.Pages.{begins}
use Rattle.s3_types.specs.Store.{Scene, Upload, Uploads}
use Rattle.s3_types.specs.declared.reply.Reply.{Reply}
use Rattle.s3_types.specs.declared.request.UploadRef.{UploadRef}
use Rattle.std.proofs.Common.{List, None, Option, Some, ap, arith, cond, false, inl, inr, length, map, nat_lt, refl, subst, suc, sym, take}
use Rattle.std.proofs.Common.{true, zero, ℕ, [], ◌++◌, ◌∙◌, ◌∷◌, ◌≡◌, ◌⊎◌}
use Rattle.std.proofs.lemmas.Bool.{ltb-false}
use Rattle.std.proofs.lemmas.Cmp.{on_total, then_total}
use Rattle.std.proofs.lemmas.List.{take_all}
use Rattle.std.proofs.lemmas.List.Kept.{IsStrictlySortedBy-filter}
use Rattle.std.proofs.lemmas.Map.Keys.{sorted_head, sorted_tail}
use Rattle.std.proofs.lemmas.Map.Lookups.{CmpEqualImpliesEq, exact_bytes, exact_pairs, exact_unsigned}
use Rattle.std.specs.Cmp.{IsTotalOrder, nat_cmp_total}
use Rattle.std.specs.FinMap.Entries.{find}
use Rattle.std.specs.List.{AllByRecursion, filter}
use Rattle.std.specs.List.Sorted.{IsStrictlySortedBy}
use Rattle.std.specs.Map.{keys_of}
use Rattle.std.specs.Ordering.{eq_by_cmp, is_eq, is_lt, nat_cmp, ordering_then}
use Rattle.std.specs.declared.cmp.Ordering.{Ordering}
use Rattle.std.specs.declared.cmp.Ordering.TheVariants.{Equal, Less}
use Rattle.store_frame.specs.Held.{HasBucket}
use Rattle.std.specs.FinMap as fin

refs_total : IsTotalOrder ref_cmp
refs_total = then_total (on_total (λ r. r.key) text_total) (on_total (λ r. r.upload) nat_cmp_total)

exact_refs : CmpEqualImpliesEq ref_cmp
exact_refs a b h = ap (λ (p : List ℕ × ℕ). record { key = p.0; upload = p.1 })
    (exact_pairs text_cmp nat_cmp exact_bytes exact_unsigned (a.key, a.upload) (b.key, b.upload) h)

module _ {K X : Type 0} (R : K → K → Ordering) where
  pub find_in : ((a b : K) → R a b ≡ Equal → a ≡ b) → (es : List (K × X)) (k : K) (x : X) → find R k es ≡ Some x → IsIn (k, x) es
  find_in exact [] k x e = absurd (none_some refl e)
  find_in exact (p ∷ es) k x e = elim (true_or_false (eq_by_cmp R k p.0)) [
    | inl h ↦
        let same : k ≡ p.0 = exact k p.0 (tied _ h) in
        let value : p.1 ≡ x = some_is (sym (ap (λ b. cond b (Some p.1) (find R k es)) h) ∙ e) in
        inl (ap (λ q. (q, x)) same ∙ ap (λ v. (p.0, v)) (sym value))
    | inr h ↦ inr (find_in exact es k x (sym (ap (λ b. cond b (Some p.1) (find R k es)) h) ∙ e))
  ]

  in_find : (es : List (K × X)) (k : K) (x : X) → eq_by_cmp R k k ≡ true → IsIn (k, x) es → (y : X) × (find R k es ≡ Some y)
  in_find [] k x same i = absurd i
  in_find (p ∷ es) k x same (inl e) = (
    p.1,
    ap (λ b. cond b (Some p.1) (find R k es))
        (ap (λ (q : K × X). eq_by_cmp R k q.0) (sym e) ∙ same),
  )
  in_find (p ∷ es) k x same (inr i) = elim (eq_by_cmp R k p.0) as (λ b. (y : X) × (cond b (Some p.1) (find R k es) ≡ Some y))
      [ true ↦ (p.1, refl) | false ↦ in_find es k x same i ]

ref_self : (r : UploadRef) → eq_by_cmp ref_cmp r r ≡ true
ref_self r =
    let a : text_cmp r.key r.key ≡ Equal = tied _ (sym (text_ties r.key r.key) ∙ text_true r.key r.key refl) in
    let b : nat_cmp r.upload r.upload ≡ Equal = tied _ (ties r.upload r.upload ∙ nat_true r.upload r.upload refl) in
    ap (λ t. is_eq (ordering_then t (nat_cmp r.upload r.upload))) a ∙ ap is_eq b

-- Each live upload that comes after the last one, with a key that begins so, is listed.
live_listed : (p : List ℕ) (l : Option UploadRef) (m : Uploads) (id : ℕ) (x : Upload) → fin.get m id ≡ Some x → begins p x.key ≡ true
    → is_behind l (ref_at id x) ≡ true → IsIn (ref_at id x) (listed p l m)
live_listed p l m id x e h g =
    let r : UploadRef = ref_at id x in
    let a = find_in nat_cmp fin.nat_cmp-IsAntisymmetric (fin.entries m) id x (sym (fin.get-entries m id) ∙ e) in
    let b = map_in ref_of (id, x) (fin.entries m) a in
    let d = in_find ref_cmp (map ref_of (fin.entries m)) r tt (ref_self r) b in
    let at : fin.get (refs m) r ≡ Some d.0 = fin.get-from_entries refs_total (map ref_of (fin.entries m)) r ∙ d.1 in
    let i = find_in ref_cmp exact_refs (fin.entries (refs m)) r d.0 (sym (fin.get-entries (refs m) r) ∙ at) in
    let all = map_in (λ (q : UploadRef × Unit {0}). q.0) (r, d.0) (fin.entries (refs m)) i in
    filter_in (λ r. begins p r.key) r (filter (is_behind l) (map (λ q. q.0) (fin.entries (refs m))))
    (filter_in (is_behind l) r (map (λ q. q.0) (fin.entries (refs m))) all g) h

listed_sorted : (p : List ℕ) (l : Option UploadRef) (m : Uploads) → IsStrictlySortedBy ref_cmp (listed p l m)
listed_sorted p l m = grind (arith, IsStrictlySortedBy-filter, map_sorted)

above_all : {K : Type 0} (R : K → K → Ordering) (k : K) (ks : List K) (q : K) → AllByRecursion (λ y. R k y ≡ Less) ks → IsIn q ks
    → R k q ≡ Less
above_all R k [] q a i = absurd i
above_all R k (x ∷ ks) q a (inl e) = ap (R k) e ∙ a.0
above_all R k (x ∷ ks) q a (inr i) = above_all R k ks q a.1 i

-- Each upload of a rising list is among the first n or comes after the last of these.
take_or : (n : ℕ) (rs : List UploadRef) (l : Option UploadRef) (r : UploadRef) → IsStrictlySortedBy ref_cmp rs → is_behind l r ≡ true
    → IsIn r rs → IsIn r (take n rs) ⊎ (is_behind (last_ref l (take n rs)) r ≡ true)
take_or zero rs l r s h i = inr h
take_or (suc n) [] l r s h i = absurd i
take_or (suc n) (q ∷ rs) l r s h (inl e) = inl (inl e)
take_or (suc n) (q ∷ rs) l r s h (inr i) = elim (take_or n rs (Some q) r (sorted_tail ref_cmp q rs s)
    (ap is_lt (above_all ref_cmp q rs r (sorted_head ref_cmp q rs s) i)) i) [ inl g ↦ inl (inr g) | inr g ↦ inr g ]

module _ (p : List ℕ) (l : Option UploadRef) (m : Uploads) (id : ℕ) (x : Upload) (e : fin.get m id ≡ Some x) (h : begins p x.key ≡ true)
    (g : is_behind l (ref_at id x) ≡ true) where
  -- A live upload that comes after the last one is on the page, or comes after the page's last one.
  pub page_covers : (n : ℕ) → IsIn (ref_at id x) (take n (listed p l m))
      ⊎ (is_behind (last_ref l (take n (listed p l m))) (ref_at id x) ≡ true)
  page_covers n = take_or n (listed p l m) l (ref_at id x) (listed_sorted p l m) g (live_listed p l m id x e h g)

  -- It is on the page, if no more remain.
  pub page_all : (n : ℕ) → nat_lt n (length (listed p l m)) ≡ false → IsIn (ref_at id x) (take n (listed p l m))
  page_all n few = subst (IsIn (ref_at id x)) (sym (take_all n (listed p l m) (ltb-false n (length (listed p l m)) few)))
      (live_listed p l m id x e h g)

-- ---- what is listed is live

not_below : (n : ℕ) → nat_cmp n n ≡ Less → ⊥
not_below n h = let e : nat_cmp n n ≡ Equal = tied _ (ties n n ∙ nat_true n n refl) in absurd cc

-- Each entry of a rising list is found at its id.
found_at : (es : List (ℕ × Upload)) (e : ℕ × Upload) → IsStrictlySortedBy nat_cmp (keys_of es) → IsIn e es → find nat_cmp e.0 es ≡ Some e.1
found_at [] e s i = absurd i
found_at (p ∷ es) e s (inl is) = subst (λ (x : ℕ × Upload). find nat_cmp e.0 (x ∷ es) ≡ Some e.1) is (find_head e es)
found_at (p ∷ es) e s (inr i) =
    let above : nat_cmp p.0 e.0 ≡ Less = above_all nat_cmp p.0 (keys_of es) e.0 (sorted_head nat_cmp p.0 (keys_of es) s)
    (map_in (λ (x : ℕ × Upload). x.0) e es i) in
    find_other e.0 p es (λ h. not_below p.0 (ap (nat_cmp p.0) (sym h) ∙ above)) ∙ found_at es e (sorted_tail nat_cmp p.0 (keys_of es) s) i

-- It has its key.
pub listed_live : (p : List ℕ) (l : Option UploadRef) (m : Uploads) (r : UploadRef) → IsIn r (listed p l m) → (x : Upload)
    × ((fin.get m r.upload ≡ Some x) × (x.key ≡ r.key))
listed_live p l m r i =
    let names : List UploadRef = map (λ (q : UploadRef × Unit {0}). q.0) (fin.entries (refs m)) in
    let a = (in_filter (λ (q : UploadRef). begins p q.key) r (filter (is_behind l) names) i).0 in
    let b = (in_filter (is_behind l) r names a).0 in
    let d = in_map (λ (q : UploadRef × Unit {0}). q.0) r (fin.entries (refs m)) b in
    let kept = in_find ref_cmp (fin.entries (refs m)) d.0.0 d.0.1 (ref_self d.0.0) d.1 in
    let made : find ref_cmp d.0.0 (map ref_of (fin.entries m)) ≡ Some kept.0 = sym
    (fin.get-from_entries refs_total (map ref_of (fin.entries m)) d.0.0) ∙ (fin.get-entries (refs m) d.0.0 ∙ kept.1) in
    let e = in_map ref_of (d.0.0, kept.0) (fin.entries m) (find_in ref_cmp exact_refs (map ref_of (fin.entries m)) d.0.0 kept.0 made) in
    let at : fin.get m e.0.0 ≡ Some e.0.1 = fin.get-entries m e.0.0 ∙ found_at (fin.entries m) e.0 (map_sorted nat_cmp m) e.1 in
    let is : r ≡ ref_at e.0.0 e.0.1 = d.2 ∙ ap (λ (q : UploadRef × Unit {0}). q.0) e.2 in
    (e.0.1, (ap (λ (q : UploadRef). fin.get m q.upload) is ∙ at, sym (ap (λ (q : UploadRef). q.key) is)))

-- ---- a page of them

module _ (w : Script) (s : Scene) (there : HasBucket s.content w.dest.bucket) (found : List UploadRef) where
  abbrev pub refs_rest : List UploadRef
  refs_rest = listed (dest_prefix w) (last_ref None found) there.0.uploads

  pub refs_is : (x : Reply) → x ≡ answer s (uploads_after w.dest.bucket (dest_prefix w) found)
      → walked_uploads found x ≡ walked_by (nat_lt 1000 (length refs_rest)) (found ++ take 1000 refs_rest)
  refs_is x e = ap (walked_uploads found) (e ∙ answer_is w s there.0 there.1 (uploads_after w.dest.bucket (dest_prefix w) found) refl)
