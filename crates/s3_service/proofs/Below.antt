-- The ids of all uploads are below the next id.
use Rattle.text_and_lists.proofs.Naturals.{next_most}
use Rattle.text_and_lists.specs.Order.{text_cmp, text_total}
use Rattle.s3_service.proofs.Changed.{absent, present}
use Rattle.s3_service.specs.inner.Changed.{with_bucket}
use Rattle.s3_service.specs.Ids.{AreBelow, IsFresh}
use Rattle.s3_types.specs.Answer.{aborted, apply_in, completed, draws, part_put}
use Rattle.s3_types.specs.Multipart.{is_part_number, joined, live, with_key, with_part}
use Rattle.s3_types.specs.Store.{BucketContent, Buckets, Objects, Upload, Uploads, new_bucket}
use Rattle.s3_types.specs.declared.reply.Refusal.{Refusal}
use Rattle.s3_types.specs.declared.request.Request.{Request}
use Rattle.s3_types.specs.declared.request.Request.TheVariants.{AbortUpload, CompleteUpload, CreateUpload, UploadPart}
use Rattle.std.proofs.Common.{Bool, List, None, Option, Some, ap, arith, cond, false, refl, subst, sym, true, ℕ, ◌+◌, ◌∙◌, ◌≡◌, ◌≤◌}
use Rattle.std.proofs.lemmas.Bool.Decides.{nat_tests}
use Rattle.std.specs.Cmp.{nat_cmp_total}
use Rattle.std.specs.FinMap.{empty, get, get-empty, get-insert, get-remove, insert, remove}
use Rattle.std.specs.Ordering.{eq_by_cmp, nat_cmp}
use Rattle.std.specs.Prelude.{Err, Ok, OnErr, OnOk, Result}

inner : (x y : BucketContent) → Some x ≡ Some y → x ≡ y
inner x y e = cc

pub below_insert : (m : Buckets) (n n' : ℕ) (k : List ℕ) (w : BucketContent) → AreBelow m n → n ≤ n' → IsFresh w.uploads n'
    → AreBelow (insert m k w) n'
below_insert m n n' k w below le fresh q b is = by (eq_by_cmp text_cmp q k) refl
  where
    by : (t : Bool) → eq_by_cmp text_cmp q k ≡ t → (i : ℕ) → n' ≤ i → get b.uploads i ≡ None
    by true e i h = subst (λ b. get b.uploads i ≡ None) (inner _ _
        (ap (λ t. cond t (Some w) (get m q)) (sym e) ∙ sym (get-insert text_total m k w q) ∙ is)) (fresh i h)
    by false e i h = below q b (ap (λ t. cond t (Some w) (get m q)) (sym e) ∙ sym (get-insert text_total m k w q) ∙ is) i (omega arith)

pub none_below : (n : ℕ) → AreBelow empty n
none_below n k b is i h = absurd (nothing b (sym (get-empty text_cmp k) ∙ is))
  where
    nothing : (b : BucketContent) → None ≡ Some b → ⊥
    nothing b e = cc

pub new_fresh : (n : ℕ) → IsFresh new_bucket.uploads n
new_fresh n i h = get-empty nat_cmp i

not_same : (i n : ℕ) → n + 1 ≤ i → eq_by_cmp nat_cmp i n ≡ false
not_same i n h = grind (arith, nat_tests)

none_or : (b : Bool) (o : Option Upload) → o ≡ None → cond b None o ≡ None
none_or true o h = refl
none_or false o h = h

-- The id of a live upload is below the next id.
live_below : (m : Uploads) (k : List ℕ) (id n : ℕ) (u : Upload) → IsFresh m n → live m k id ≡ Some u → (i : ℕ) → n ≤ i
    → eq_by_cmp nat_cmp i id ≡ false
live_below m k id n u f e i h = by (get m id) refl e (eq_by_cmp nat_cmp i id) refl
  where
    none_live : None ≡ Some u → ⊥
    none_live e = cc

    same : eq_by_cmp nat_cmp i id ≡ true → i ≡ id
    same t = grind (arith, nat_tests)

    by : (o : Option Upload) → get m id ≡ o → with_key k (get m id) ≡ Some u → (b : Bool) → eq_by_cmp nat_cmp i id ≡ b → b ≡ false
    by o is e false t = refl
    by o is e true t = absurd (none_live (ap (with_key k) (sym (ap (get m) (sym (same t)) ∙ f i h)) ∙ e))

put_fresh : (m : Uploads) (k : List ℕ) (id n number : ℕ) (bytes : List ℕ) → IsFresh m n
    → IsFresh (part_put m id (live m k id) number bytes) n
put_fresh m k id n number bytes f i h = by (live m k id) refl
  where
    by : (o : Option Upload) → live m k id ≡ o → get (part_put m id o number bytes) i ≡ None
    by None e = f i h
    by (Some u) e = put (is_part_number number)
      where
        put : (b : Bool) → get (cond b (insert m id (with_part u number bytes)) m) i ≡ None
        put true = get-insert nat_cmp_total m id (with_part u number bytes) i ∙ ap (λ t. cond t (Some (with_part u number bytes)) (get m i))
            (live_below m k id n u f e i h) ∙ f i h
        put false = f i h

removed_fresh : (m : Uploads) (id n : ℕ) → IsFresh m n → IsFresh (remove m id) n
removed_fresh m id n f i h = get-remove nat_cmp_total m id i ∙ none_or _ _ (f i h)

aborted_fresh : (m : Uploads) (id n : ℕ) (o : Option Upload) → IsFresh m n → IsFresh (aborted m id o) n
aborted_fresh m id n (Some u) f = removed_fresh m id n f
aborted_fresh m id n None f = f

completed_fresh : (b : BucketContent) (k : List ℕ) (id n : ℕ) (r : Result (List ℕ) Refusal) → IsFresh b.uploads n
    → IsFresh (completed b k id r).uploads n
completed_fresh b k id n (Ok j) f = removed_fresh b.uploads id n f
completed_fresh b k id n (Err e) f = f

pub kept_fresh : (b : BucketContent) (n minimum : ℕ) (r : Request) → IsFresh b.uploads n
    → IsFresh (apply_in b n minimum r).uploads (cond (draws r) (n + 1) n)
kept_fresh b n minimum (CreateUpload x k) f = λ i h.
    get-insert nat_cmp_total b.uploads n (record { key = k; parts = empty }) i ∙ ap
    (λ t. cond t (Some (record { key = k; parts = empty })) (get b.uploads i)) (not_same i n h) ∙ f i (omega arith)
kept_fresh b n minimum (UploadPart x k id m y) f = put_fresh b.uploads k id n m y f
kept_fresh b n minimum (CompleteUpload x k id ns) f = completed_fresh b k id n (joined (live b.uploads k id) ns minimum) f
kept_fresh b n minimum (AbortUpload x k id) f = aborted_fresh b.uploads id n (live b.uploads k id) f
kept_fresh b n minimum _ f = f

pub kept_below : (m w : Buckets) (n minimum : ℕ) (k : List ℕ) (r : Request) → AreBelow m n
    → w ≡ with_bucket m k (λ b. apply_in b n minimum r) → AreBelow w (cond (draws r) (n + 1) n)
kept_below m w n minimum k r below h = by (get m k) refl
  where
    by : (o : Option BucketContent) → get m k ≡ o → AreBelow w (cond (draws r) (n + 1) n)
    by None e = subst (λ (w : Buckets). AreBelow w (cond (draws r) (n + 1) n)) (sym (h ∙ absent m k (λ b. apply_in b n minimum r) e))
        (λ q b is i l. below q b is i (omega (arith, next_most (draws r) n, l)))
    by (Some b) e =
        subst (λ (w : Buckets). AreBelow w (cond (draws r) (n + 1) n)) (sym (h ∙ present m k (λ b. apply_in b n minimum r) b e))
        (below_insert m n (cond (draws r) (n + 1) n) k (apply_in b n minimum r) below (next_most (draws r) n)
        (kept_fresh b n minimum r (below k b e)))

-- A put, whether it was made or not, keeps all ids below the next one.
pub put_below : {T E : Type 0} (made : Result T E) (m w : Buckets) (n minimum : ℕ) (k : List ℕ) (r : Request) → draws r ≡ false
    → AreBelow m n → OnOk made (w ≡ with_bucket m k (λ b. apply_in b n minimum r)) → OnErr made (w ≡ m) → AreBelow w n
put_below (Ok x) m w n minimum k r e below h g = subst (λ (b : Bool). AreBelow w (cond b (n + 1) n)) e
    (kept_below m w n minimum k r below h)
put_below (Err x) m w n minimum k r e below h g = subst (λ (w : Buckets). AreBelow w n) (sym g) below

-- A bucket made of these uploads has ids below the same next id.
pub next_below : (b : BucketContent) (os : Objects) (us : Uploads) (n m : ℕ) → b ≡ record { objects = os; uploads = us } → m ≡ n
    → IsFresh us m → IsFresh b.uploads n
next_below b os us n m e k f = subst (λ (b : BucketContent). IsFresh b.uploads n) (sym e) (subst (IsFresh us) k f)
