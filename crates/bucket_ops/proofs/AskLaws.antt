-- The effect of requests on the objects of one bucket.
use Rattle.text_and_lists.proofs.Members.{same_or_other, text_gone, text_here, text_left, text_other}
use Rattle.text_and_lists.proofs.Tree.{insert_same}
use Rattle.text_and_lists.specs.Order.{text_cmp, text_total}
use Rattle.bucket_ops.specs.Asks.{Ask, Copy, Drop, DropAll, Head, Put, edited, objects_at, objects_of, reply_in, request_of}
use Rattle.bucket_ops.specs.inner.Asks.{reply_at}
use Rattle.bucket_ops.specs.Asks.{with_objects, with_objects_if}
use Rattle.operations.specs.inner.Plans.{Repeats}
use Rattle.s3_types.specs.Answer.{answer, answer_at, apply, apply_at, copied, copy_answer, without}
use Rattle.s3_types.specs.Store.{BucketContent, Buckets, Objects, Scene}
use Rattle.s3_types.specs.declared.object.Object.{Object}
use Rattle.s3_types.specs.declared.request.Request.{Request}
use Rattle.std.proofs.Common.{ap, inl, inr, refl, sym, ◌∙◌, ◌⊎◌}
use Rattle.std.proofs.lemmas.Map.Lookups.{exact_bytes}
use Rattle.std.specs.FinMap.{same_map}
use Rattle.std.specs.Prelude.{Bool, List, None, Option, Some, cond, false, length, nat_lt, true, ℕ, [], ◌∷◌, ◌≡◌}
use Rattle.std.specs.FinMap as fin

-- ---- finite maps

module _ {X : Type 0} where
  pub get_put : (m : fin.FinMap text_cmp X) (k : List ℕ) (v : X) → fin.get (fin.insert m k v) k ≡ Some v
  get_put m k v = text_here m k k v refl

  pub put_put : (m : fin.FinMap text_cmp X) (k : List ℕ) (v w : X) → fin.insert (fin.insert m k v) k w ≡ fin.insert m k w
  put_put m k v w = same_map text_total exact_bytes _ _ (λ q. by q (same_or_other q k))
    where
      by : (q : List ℕ) → (q ≡ k) ⊎ (q ≡ k → ⊥) → fin.get (fin.insert (fin.insert m k v) k w) q ≡ fin.get (fin.insert m k w) q
      by q (inl e) = text_here (fin.insert m k v) k q w e ∙ sym (text_here m k q w e)
      by q (inr n) = text_other (fin.insert m k v) k q w n ∙ text_other m k q v n ∙ sym (text_other m k q w n)

  -- Removing a key that is not there changes nothing.
  pub none_gone : (m : fin.FinMap text_cmp X) (k : List ℕ) → fin.get m k ≡ None → fin.remove m k ≡ m
  none_gone m k h = same_map text_total exact_bytes _ _ (λ q. by q (same_or_other q k))
    where
      by : (q : List ℕ) → (q ≡ k) ⊎ (q ≡ k → ⊥) → fin.get (fin.remove m k) q ≡ fin.get m q
      by q (inl e) = text_gone m k q e ∙ sym (ap (fin.get m) e ∙ h)
      by q (inr n) = text_left m k q n

-- A key that is not there is still not there after a removal.
pub gone_still : (m : Objects) (ks : List (List ℕ)) (q : List ℕ) → fin.get m q ≡ None → fin.get (without m ks) q ≡ None
gone_still m [] q h = h
gone_still m (k ∷ ks) q h = gone_still (fin.remove m k) ks q (by (same_or_other q k))
  where
    by : (q ≡ k) ⊎ (q ≡ k → ⊥) → fin.get (fin.remove m k) q ≡ None
    by (inl e) = text_gone m k q e
    by (inr n) = text_left m k q n ∙ h

-- None of these keys is there.
abbrev pub AreGone : Objects → List (List ℕ) → Type 0
AreGone m [] = Unit {0}
AreGone m (k ∷ ks) = (fin.get m k ≡ None) × AreGone m ks

pub all_gone : (m : Objects) (ks : List (List ℕ)) → AreGone m ks → without m ks ≡ m
all_gone m [] h = refl
all_gone m (k ∷ ks) h = ap (λ n. without n ks) (none_gone m k h.0) ∙ all_gone m ks h.1

pub are_gone : (m : Objects) (ks : List (List ℕ)) → AreGone (without m ks) ks
are_gone m [] = tt
are_gone m (k ∷ ks) = (gone_still (fin.remove m k) ks k (text_gone m k k refl), are_gone (fin.remove m k) ks)

-- ---- requests that are made twice

copied_twice : (m : Objects) (k q : List ℕ) (o : Option Object) → fin.get m k ≡ o → (fin.get (copied m q o) k ≡ o)
    × (copied (copied m q o) q o ≡ copied m q o)
copied_twice m k q None h = (h, refl)
copied_twice m k q (Some v) h = (
  elim (same_or_other k q) [ inl e ↦ text_here m q k v e | inr n ↦ text_other m q k v n ∙ h ],
  put_put m q v
      v,
)

abbrev gone_if : Bool → Objects → List (List ℕ) → Objects
gone_if b m ks = cond b m (without m ks)

pub edited_twice : (a : Ask) (m : Objects) → edited a (edited a m) ≡ edited a m
edited_twice (Put k bytes) m = put_put m k _ _
edited_twice (Drop k) m = none_gone (fin.remove m k) k (text_gone m k k refl)
edited_twice (DropAll ks) m = elim (nat_lt 1000 (length ks)) as (λ b. gone_if b (gone_if b m ks) ks ≡ gone_if b m ks) [
  | true ↦ refl
  | false ↦ all_gone (without m ks) ks (are_gone m ks)
]
edited_twice (Copy k q) m =
    let c = copied_twice m k q (fin.get m k) refl in
    ap (λ o. copied (copied m q (fin.get m k)) q o) c.0 ∙ c.1
edited_twice _ m = refl

pub told_twice : (a : Ask) (m : Objects) → reply_in (edited a m) a ≡ reply_in m a
told_twice (Copy k q) m = ap copy_answer (copied_twice m k q (fin.get m k) refl).0
told_twice _ m = refl

-- ---- scenes

answered_if : (o : Option BucketContent) (b : List ℕ) (n l : ℕ) (a : Ask) → answer_at o n l (request_of b a) ≡ reply_at (objects_of o) a
answered_if (Some c) b n l (Head k) = refl
answered_if _ b n l _ = refl

pub answered : (s : Scene) (b : List ℕ) (a : Ask) → answer s (request_of b a) ≡ reply_at (objects_at s b) a
answered s b (Head k) = answered_if (fin.get s.content.buckets b) b s.content.next s.content.minimum (Head k)
answered s b a = answered_if (fin.get s.content.buckets b) b s.content.next s.content.minimum a

abbrev edited_if : Option BucketContent → Ask → Scene → List ℕ → Scene
edited_if None a s b = s
edited_if (Some c) a s b = with_objects_if (Some c) s b (edited a c.objects)

abbrev made_at : Option BucketContent → Request → Scene → Scene
made_at o r s = record { content = apply_at o s.content r; files = s.files }

edited_by : (o : Option BucketContent) (s : Scene) (b : List ℕ) (a : Ask) → made_at o (request_of b a) s ≡ edited_if o a s b
edited_by (Some c) s b (Head k) = refl
edited_by _ s b _ = refl

applied : (s : Scene) (b : List ℕ) (a : Ask) → apply s (request_of b a) ≡ edited_if (fin.get s.content.buckets b) a s b
applied s b (Head k) = edited_by (fin.get s.content.buckets b) s b (Head k)
applied s b a = edited_by (fin.get s.content.buckets b) s b a

-- ---- one bucket in a scene

some_objects : (o : Option BucketContent) (m : Objects) → objects_of o ≡ Some m → (c : BucketContent) × (o ≡ Some c) × (c.objects ≡ m)
some_objects None m h = absurd (cc)
some_objects (Some c) m h = let e : c.objects ≡ m = cc in (c, refl, e)

no_objects : (o : Option BucketContent) → objects_of o ≡ None → o ≡ None
no_objects None h = refl
no_objects (Some c) h = absurd (cc)

-- If there is no bucket, nothing changes.
pub applied_none : (s : Scene) (b : List ℕ) (a : Ask) → objects_at s b ≡ None → apply s (request_of b a) ≡ s
applied_none s b a h = applied s b a ∙ ap (λ o. edited_if o a s b) (no_objects (fin.get s.content.buckets b) h)

pub applied_some : (s : Scene) (b : List ℕ) (a : Ask) (m : Objects) → objects_at s b ≡ Some m
    → apply s (request_of b a) ≡ with_objects s b (edited a m)
applied_some s b a m h =
    let c = some_objects (fin.get s.content.buckets b) m h in
    applied s b a ∙ ap (λ o. edited_if o a s b) c.1 ∙ ap (λ n. with_objects_if (Some c.0) s b (edited a n)) c.2 ∙ ap
    (λ o. with_objects_if o s b (edited a m)) (sym c.1)

-- Putting back the objects that are there changes nothing.
pub with_same : (s : Scene) (b : List ℕ) (m : Objects) → objects_at s b ≡ Some m → with_objects s b m ≡ s
with_same s b m h =
    let c = some_objects (fin.get s.content.buckets b) m h in
    ap (λ o. with_objects_if o s b m) c.1 ∙ ap (λ n. with_objects_if (Some c.0) s b n) (sym c.2)
    ∙ ap (λ (x : Buckets). record { content = record { buckets = x; next = s.content.next; minimum = s.content.minimum }; files = s.files })
    (insert_same text_total exact_bytes s.content.buckets b c.0 c.1)

pub objects_with : (s : Scene) (b : List ℕ) (m n : Objects) → objects_at s b ≡ Some m → objects_at (with_objects s b n) b ≡ Some n
objects_with s b m n h =
    let c = some_objects (fin.get s.content.buckets b) m h in
    ap (λ o. objects_at (with_objects_if o s b n) b) c.1
    ∙ ap objects_of (get_put s.content.buckets b (record { objects = n; uploads = c.0.uploads }))

pub with_with : (s : Scene) (b : List ℕ) (m n l : Objects) → objects_at s b ≡ Some m
    → with_objects (with_objects s b n) b l ≡ with_objects s b l
with_with s b m n l h =
    let c = some_objects (fin.get s.content.buckets b) m h in
    ap (λ o. with_objects (with_objects_if o s b n) b l) c.1
    ∙ ap (λ o. with_objects_if o (with_objects_if (Some c.0) s b n) b l) (get_put s.content.buckets b
    (record { objects = n; uploads = c.0.uploads }))
    ∙ ap (λ (x : Buckets). record { content = record { buckets = x; next = s.content.next; minimum = s.content.minimum }; files = s.files })
    (put_put s.content.buckets b _ _)
    ∙ ap (λ o. with_objects_if o s b l) (sym c.1)

-- ---- the request may be made twice

effect_by : (s : Scene) (b : List ℕ) (a : Ask) (o : Option Objects) → objects_at s b ≡ o
    → apply (apply s (request_of b a)) (request_of b a) ≡ apply s (request_of b a)
effect_by s b a None h = ap (λ v. apply v (request_of b a)) (applied_none s b a h)
effect_by s b a (Some m) h =
    ap (λ v. apply v (request_of b a)) (applied_some s b a m h)
    ∙ applied_some (with_objects s b (edited a m)) b a (edited a m) (objects_with s b m (edited a m) h)
    ∙ with_with s b m (edited a m) (edited a (edited a m)) h
    ∙ ap (with_objects s b) (edited_twice a m)
    ∙ sym (applied_some s b a m h)

reply_by : (s : Scene) (b : List ℕ) (a : Ask) (o : Option Objects) → objects_at s b ≡ o
    → answer (apply s (request_of b a)) (request_of b a) ≡ answer s (request_of b a)
reply_by s b a None h = ap (λ v. answer v (request_of b a)) (applied_none s b a h)
reply_by s b a (Some m) h =
    ap (λ v. answer v (request_of b a)) (applied_some s b a m h)
    ∙ answered (with_objects s b (edited a m)) b a
    ∙ ap (λ o. reply_at o a) (objects_with s b m (edited a m) h)
    ∙ told_twice a m
    ∙ ap (λ o. reply_at o a) (sym h)
    ∙ sym (answered s b a)

pub repeats : (b : List ℕ) (a : Ask) → Repeats (request_of b a)
repeats b a = record {
  effect = λ s. effect_by s b a (objects_at s b) refl;
  reply = λ s. reply_by s b a (objects_at s b) refl;
}
