-- What requests leave of a content that can be written as an image.
use Rattle.text_and_lists.proofs.Members.{none_or_some, none_some, some_is, text_exact, text_is, true_or_false}
use Rattle.text_and_lists.proofs.Tree.{entries_empty, tied}
use Rattle.text_and_lists.specs.Order.{text_eq, text_total}
use Rattle.journal_log.proofs.Journals.{changes_append, content_append, folded}
use Rattle.journal_log.specs.Changes.{changes, content_after}
use Rattle.journal_log.specs.Made.{IsMade, KeepsImages}
use Rattle.s3_types.specs.Answer.{aborted, apply_at, apply_in, apply_store, bucket_of, completed, copied, draws, made, part_put, without}
use Rattle.s3_types.specs.Moment.{moment}
use Rattle.s3_types.specs.Multipart.{is_part_number, joined, live, with_part}
use Rattle.s3_types.specs.Names.{is_bucket, is_key}
use Rattle.s3_types.specs.Store.{BucketContent, Content, Objects, Upload, Uploads, new_bucket, new_content}
use Rattle.s3_types.specs.declared.journal.Entry.{Entry}
use Rattle.s3_types.specs.declared.limits.TheConstants.{MOST_ENTRIES}
use Rattle.s3_types.specs.declared.object.Object.{Object}
use Rattle.s3_types.specs.declared.request.NamedPart.{NamedPart}
use Rattle.s3_types.specs.declared.request.Request.{Request}
use Rattle.s3_types.specs.declared.request.Request.TheVariants.{AbortUpload, CompleteUpload, CopyObject, CreateUpload, DeleteObject}
use Rattle.s3_types.specs.declared.request.Request.TheVariants.{DeleteObjects, MakeBucket, PutObject, UploadPart}
use Rattle.std.proofs.Common.{Bool, Err, List, None, Ok, Option, Some, T, ap, arith, cond, drop, false, inl, inr, length, nat_le, nat_lt}
use Rattle.std.proofs.Common.{refl, subst, sym, take, true, ℕ, [], ◌&&◌, ◌++◌, ◌+◌, ◌^◌, ◌∙◌, ◌∷◌, ◌≡◌, ◌≤◌}
use Rattle.std.proofs.Math.Facts.{and_yes}
use Rattle.std.proofs.lemmas.Bool.{and_parts, le-leb, leb-true}
use Rattle.std.proofs.lemmas.Bool.Decides.{nat_tests}
use Rattle.std.proofs.lemmas.List.{take-append-drop, take_all}
use Rattle.std.specs.Cmp.{IsTotalOrder, eq_by_cmp_equiv, nat_cmp_total}
use Rattle.std.specs.FinMap.{entries_sorted}
use Rattle.std.specs.FinMap.Entries.{below_all, find, is_sorted}
use Rattle.std.specs.List.{AllByRecursion}
use Rattle.std.specs.Ordering.{eq_by_cmp, is_eq, is_lt}
use Rattle.std.specs.declared.cmp.Ordering.{Ordering}
use Rattle.store_image.specs.Content.{AreEntries, IsBucket, IsContent, IsEntry, IsObject, IsPart, IsUpload, is_counter, is_id, is_minimum}
use Rattle.std.specs.FinMap as fin

-- ---- the entries of a map

not_tied : (r : Ordering) → T (is_lt r) → is_eq r ≡ false
not_tied r h = grind arith

module _ {K X : Type 0} {R : K → K → Ordering} (o : IsTotalOrder R) (exact : fin.IsAntisymmetric R) where
  -- a key that is below all others is none of them
  none_below : (k : K) (es : List (K × X)) → T (below_all R k es) → find R k es ≡ None
  none_below k [] h = refl
  none_below k (e ∷ es) h =
      let w = and_yes (is_lt (R k e.0)) (below_all R k es) h in
      ap (λ b. cond b (Some e.1) (find R k es)) (not_tied (R k e.0) w.0) ∙ none_below k es w.1

  later : (e : K × X) (es : List (K × X)) (k : K) (v : X) → T (below_all R e.0 es) → find R k es ≡ Some v → find R k (e ∷ es) ≡ Some v
  later e es k v h g = grind (arith, tied, none_below)

  first : (e : K × X) (es : List (K × X)) → find R e.0 (e ∷ es) ≡ Some e.1
  first e es = ap (λ b. cond b (Some e.1) (find R e.0 es)) ((eq_by_cmp_equiv o).refl e.0)

  module _ (test : K → Bool) (IsValue : X → Type 0) where
    abbrev IsOne : K × X → Type 0
    IsOne = IsEntry test IsValue

    are_found : (es : List (K × X)) → T (is_sorted R es) → ((k : K) (v : X) → find R k es ≡ Some v → IsOne (k, v)) → AllByRecursion IsOne es
    are_found [] s h = tt
    are_found (e ∷ es) s h =
        let w = and_yes (below_all R e.0 es) (is_sorted R es) s in
        (h e.0 e.1 (first e es), are_found es w.1 (λ k v g. h k v (later e es k v w.0 g)))

    found_is : (es : List (K × X)) → AllByRecursion IsOne es → (k : K) (v : X) → find R k es ≡ Some v → IsOne (k, v)
    found_is [] a k v g = absurd (none_some refl g)
    found_is (e ∷ es) a k v g = elim (true_or_false (eq_by_cmp R k e.0)) [
      | inr t ↦ found_is es a.1 k v (rw t at g)
      | inl t ↦ record { key = ap test (exact k e.0 (tied (R k e.0) t)) ∙ a.0.key; value = subst IsValue (some_is (rw t at g)) a.0.value }
    ]

    -- the same, stated for each key
    are_at : (m : fin.FinMap R X) → ((k : K) (v : X) → fin.get m k ≡ Some v → IsOne (k, v)) → AreEntries test IsValue m
    are_at m h = are_found (fin.entries m) (entries_sorted m) (λ k v g. h k v (fin.get-entries m k ∙ g))

    pub at : (m : fin.FinMap R X) (k : K) (v : X) → AreEntries test IsValue m → fin.get m k ≡ Some v → IsOne (k, v)
    at m k v a g = found_is (fin.entries m) a k v (sym (fin.get-entries m k) ∙ g)

    are_none : AreEntries test IsValue (fin.empty {X = X} {R = R})
    are_none = subst (AllByRecursion IsOne) (sym (entries_empty R)) tt

    put_in : (m : fin.FinMap R X) (k : K) (v : X) → AreEntries test IsValue m → test k ≡ true → IsValue v
        → AreEntries test IsValue (fin.insert m k v)
    put_in m k v a is value = are_at (fin.insert m k v) (λ q w g. elim (true_or_false (eq_by_cmp R q k)) [
      | inl t ↦ record {
        key = ap test (exact q k (tied (R q k) t)) ∙ is;
        value = subst IsValue
            (some_is (rw (fin.get-insert o m k v q, t) at g)) value;
      }
      | inr t ↦ at m q w a (rw (fin.get-insert o m k v q, t) at g)
    ])

    taken_out : (m : fin.FinMap R X) (k : K) → AreEntries test IsValue m → AreEntries test IsValue (fin.remove m k)
    taken_out m k a = are_at (fin.remove m k) (λ q w g. elim (true_or_false (eq_by_cmp R q k)) [
      | inl t ↦ absurd (none_some refl (rw (fin.get-remove o m k q, t) at g))
      | inr t ↦ at m q w a (rw (fin.get-remove o m k q, t) at g)
    ])

all_more : {K X : Type 0} (p q : K → Bool) (V W : X → Type 0) → ((k : K) → p k ≡ true → q k ≡ true) → ((x : X) → V x → W x)
    → (es : List (K × X)) → AllByRecursion (IsEntry p V) es → AllByRecursion (IsEntry q W) es
all_more p q V W f g [] a = tt
all_more p q V W f g (e ∷ es) a = (record { key = f e.0 a.0.key; value = g e.1 a.0.value }, all_more p q V W f g es a.1)

-- ---- a bucket

abbrev AreObjects : Objects → Type 0
AreObjects m = AreEntries is_key IsObject m

abbrev AreUploads : ℕ → Uploads → Type 0
AreUploads next m = AreEntries (is_id next) IsUpload m

id_later : (next n : ℕ) → is_id next n ≡ true → is_id (next + 1) n ≡ true
id_later next n h = let w = and_parts (nat_le 1 n) (nat_lt n next) h in ap (λ b. b && nat_lt n (next + 1)) w.0 ∙ (grind (arith, nat_tests))

own_id : (next : ℕ) → 1 ≤ next → is_id (next + 1) next ≡ true
own_id next h = ap (λ b. b && nat_lt next (next + 1)) (le-leb 1 next h) ∙ (grind (arith, nat_tests))

uploads_later : (next : ℕ) (m : Uploads) → AreUploads next m → AreUploads (next + 1) m
uploads_later next m a = all_more (is_id next) (is_id (next + 1)) IsUpload IsUpload (id_later next) (λ u h. h) (fin.entries m) a

bucket_by : (next : ℕ) (d : Bool) (b : BucketContent) → IsBucket next b → IsBucket (cond d (next + 1) next) b
bucket_by next true b h = record { objects = h.objects; uploads = uploads_later next b.uploads h.uploads }
bucket_by next false b h = h

object_in : (m : Objects) (k : List ℕ) (x : Object) → AreObjects m → is_key k ≡ true → IsObject x → AreObjects (fin.insert m k x)
object_in = put_in text_total text_exact is_key IsObject

upload_in : (next : ℕ) (m : Uploads) (id : ℕ) (u : Upload) → AreUploads next m → is_id next id ≡ true → IsUpload u
    → AreUploads next (fin.insert m id u)
upload_in next = put_in nat_cmp_total fin.nat_cmp-IsAntisymmetric (is_id next) IsUpload

upload_out : (next : ℕ) (m : Uploads) (id : ℕ) → AreUploads next m → AreUploads next (fin.remove m id)
upload_out next = taken_out nat_cmp_total fin.nat_cmp-IsAntisymmetric (is_id next) IsUpload

object_out : (m : Objects) (k : List ℕ) → AreObjects m → AreObjects (fin.remove m k)
object_out = taken_out text_total text_exact is_key IsObject

objects_out : (ks : List (List ℕ)) (m : Objects) → AreObjects m → AreObjects (without m ks)
objects_out [] m a = a
objects_out (k ∷ ks) m a = objects_out ks (fin.remove m k) (object_out m k a)

-- a copy
object_copied : (m : Objects) (source target : List ℕ) (x : Option Object) → fin.get m source ≡ x → AreObjects m → is_key target ≡ true
    → AreObjects (copied m target x)
object_copied m source target None e a k = a
object_copied m source target (Some x) e a k = object_in m target x a k (at text_total text_exact is_key IsObject m source x a e).value

-- A live upload.
record IsLive (next : ℕ) (k : List ℕ) (id : ℕ) (u : Upload) : Type 0 where
  number : is_id next id ≡ true
  upload : IsUpload u
  same : u.key ≡ k

found_live : (next : ℕ) (m : Uploads) (k : List ℕ) (id : ℕ) (u : Upload) → AreUploads next m → live m k id ≡ Some u → IsLive next k id u
found_live next m k id u a h = elim (none_or_some (fin.get m id)) [
  | inl e ↦ absurd (none_some refl (rw e at h))
  | inr x ↦ elim (true_or_false (text_eq x.0.key k)) [
    | inr t ↦ absurd (none_some refl (rw (x.1, t) at h))
    | inl t ↦
        let is = at nat_cmp_total fin.nat_cmp-IsAntisymmetric (is_id next) IsUpload m id x.0 a x.1 in
        subst (IsLive next k id) (some_is (rw (x.1, t) at h)) (record { number = is.key; upload = is.value; same = text_is x.0.key k t })
  ]
]

part_in : (next : ℕ) (m : Uploads) (k : List ℕ) (id n : ℕ) (bytes : List ℕ) (x : Option Upload) → live m k id ≡ x → AreUploads next m
    → AreUploads next (part_put m id x n bytes)
part_in next m k id n bytes None e a = a
part_in next m k id n bytes (Some u) e a = elim (true_or_false (is_part_number n)) [
  | inr t ↦ rw t a
  | inl t ↦
      let is = found_live next m k id u a e in
      let parts = put_in nat_cmp_total fin.nat_cmp-IsAntisymmetric is_part_number IsPart u.parts n bytes is.upload.parts t tt in
      rw t (upload_in next m id (with_part u n bytes) a is.number (record { key = is.upload.key; parts = parts }))
]

upload_aborted : (next : ℕ) (m : Uploads) (id : ℕ) (x : Option Upload) → AreUploads next m → AreUploads next (aborted m id x)
upload_aborted next m id None a = a
upload_aborted next m id (Some u) a = upload_out next m id a

upload_joined : (next minimum : ℕ) (b : BucketContent) (k : List ℕ) (id : ℕ) (ns : List NamedPart) (x : Option Upload)
    → live b.uploads k id ≡ x → IsBucket next b → IsBucket next (completed b k id (joined x ns minimum))
upload_joined next minimum b k id ns None e h = h
upload_joined next minimum b k id ns (Some u) e h = elim (joined (Some u) ns minimum) as (λ r. IsBucket next (completed b k id r)) [
  | Err r ↦ h
  | Ok bytes ↦
      let is = found_live next b.uploads k id u h.uploads e in
      record {
        objects = object_in b.objects k (record { bytes = bytes; header = None }) h.objects (ap is_key (sym is.same) ∙ is.upload.key)
            (record { header_fits = omega arith });
        uploads = upload_out next b.uploads id h.uploads;
      }
]

-- what a request leaves of its bucket
in_bucket : (b : BucketContent) (next minimum : ℕ) (r : Request) → 1 ≤ next → IsMade r → IsBucket next b
    → IsBucket (cond (draws r) (next + 1) next) (apply_in b next minimum r)
in_bucket b next minimum (PutObject n k bytes given) l m h = record {
  objects = object_in b.objects k
      (record { bytes = bytes; header = given }) h.objects m.0 (record { header_fits = m.1 });
  uploads = h.uploads;
}
in_bucket b next minimum (DeleteObject n k) l m h = record { objects = object_out b.objects k h.objects; uploads = h.uploads }
in_bucket b next minimum (DeleteObjects n ks) l m h = record {
  objects = elim (nat_lt MOST_ENTRIES (length ks)) as (λ t. AreObjects (cond t b.objects (without b.objects ks)))
      [ true ↦ h.objects | false ↦ objects_out ks b.objects h.objects ];
  uploads = h.uploads;
}
in_bucket b next minimum (CopyObject n source target) l m h = record {
  objects = object_copied b.objects source target
      (fin.get b.objects source) refl h.objects m;
  uploads = h.uploads;
}
in_bucket b next minimum (CreateUpload n k) l m h = record {
  objects = h.objects;
  uploads = upload_in (next + 1) b.uploads next (record { key = k; parts = fin.empty }) (uploads_later next b.uploads h.uploads)
      (own_id next l)
      (record { key = m; parts = are_none nat_cmp_total fin.nat_cmp-IsAntisymmetric is_part_number IsPart });
}
in_bucket b next minimum (UploadPart n k id number bytes) l m h = record {
  objects = h.objects;
  uploads = part_in next b.uploads k id number
      bytes (live b.uploads k id) refl h.uploads;
}
in_bucket b next minimum (CompleteUpload n k id ns) l m h = upload_joined next minimum b k id ns (live b.uploads k id) refl h
in_bucket b next minimum (AbortUpload n k id) l m h = record {
  objects = h.objects;
  uploads = upload_aborted next b.uploads id
      (live b.uploads k id) h.uploads;
}
in_bucket b next minimum r l m h = h

-- ---- the store

counts : (n : ℕ) → is_counter n ≡ true → (1 ≤ n) × (n ≤ 2 ^ 62)
counts n h = let w = and_parts (nat_le 1 n) (nat_le n (2 ^ 62)) h in (leb-true 1 n w.0, leb-true n (2 ^ 62) w.1)

counter_of : (n : ℕ) → 1 ≤ n → n ≤ 2 ^ 62 → is_counter n ≡ true
counter_of n l h = ap (λ b. b && nat_le n (2 ^ 62)) (le-leb 1 n l) ∙ le-leb n (2 ^ 62) h

drawn : (d : Bool) (n : ℕ) → 1 ≤ n → 1 ≤ cond d (n + 1) n
drawn true n h = omega arith
drawn false n h = h

none_new : (next : ℕ) → IsBucket next new_bucket
none_new next = record {
  objects = are_none text_total text_exact is_key IsObject;
  uploads = are_none nat_cmp_total
      fin.nat_cmp-IsAntisymmetric (is_id next) IsUpload;
}

pub new : (minimum : ℕ) → is_minimum minimum ≡ true → IsContent (new_content minimum)
new minimum h = record {
  minimum = h;
  counter = counter_of 1 (omega arith) (omega arith);
  buckets = are_none text_total text_exact is_bucket
      (IsBucket 1);
}

one_made : (c : Content) (name : List ℕ) (x : Option BucketContent) → IsContent c → IsContent (made c name x)
one_made c name (Some b) h = h
one_made c name None h = elim (true_or_false (is_bucket name)) [
  | inl t ↦ rw t (record {
    minimum = h.minimum;
    counter = h.counter;
    buckets = put_in text_total text_exact is_bucket (IsBucket c.next) c.buckets name new_bucket h.buckets t (none_new c.next);
  })
  | inr t ↦ rw t h
]

one_at : (c : Content) (r : Request) (x : Option BucketContent) → fin.get c.buckets (bucket_of r) ≡ x → IsContent c → IsMade r
    → (apply_at x c r).next ≤ 2 ^ 62 → IsContent (apply_at x c r)
one_at c r None e h m few = h
one_at c r (Some b) e h m few =
    let is = at text_total text_exact is_bucket (IsBucket c.next) c.buckets (bucket_of r) b h.buckets e in
    let some : 1 ≤ c.next = (counts c.next h.counter).0 in
    let next = cond (draws r) (c.next + 1) c.next in
    record {
      minimum = h.minimum;
      counter = counter_of next (drawn (draws r) c.next some) few;
      buckets = put_in text_total text_exact is_bucket (IsBucket next) c.buckets (bucket_of r) (apply_in b c.next c.minimum r)
          (all_more is_bucket is_bucket (IsBucket c.next) (IsBucket next) (λ k t. t) (bucket_by c.next (draws r)) (fin.entries c.buckets)
          h.buckets)
          is.key (in_bucket b c.next c.minimum r some m is.value);
    }

pub one : (c : Content) (r : Request) → IsContent c → IsMade r → (apply_store c r).next ≤ 2 ^ 62 → IsContent (apply_store c r)
one c (MakeBucket name) h m few = one_made c name (fin.get c.buckets name) h
one c r h m few = one_at c r (fin.get c.buckets (bucket_of r)) refl h m few

-- ---- requests in order, and journals

-- From one store to another the counter does not fall, and the least size of a part stays.
pub record GoesOn (c d : Content) : Type 0 where
  pub later : c.next ≤ d.next
  pub least : d.minimum ≡ c.minimum

same : (c : Content) → GoesOn c c
same c = record { later = omega arith; least = refl }

on_at : (c : Content) (r : Request) (o : Option BucketContent) → GoesOn c (apply_at o c r)
on_at c r o = grind arith

on_made : (c : Content) (name : List ℕ) (o : Option BucketContent) → GoesOn c (made c name o)
on_made c name None = elim (is_bucket name) as (λ t. GoesOn c (cond t
    (record { buckets = fin.insert c.buckets name new_bucket; next = c.next; minimum = c.minimum }) c)) [
      | true ↦ record { later = omega arith; least = refl }
      | false ↦ same c
    ]
on_made c name (Some b) = same c

on : (c : Content) (r : Request) → GoesOn c (apply_store c r)
on c (MakeBucket name) = on_made c name (fin.get c.buckets name)
on c r = on_at c r (fin.get c.buckets (bucket_of r))

pub on_and_on : (c : Content) (rs : List Request) → GoesOn c (content_after c rs)
on_and_on c [] = same c
on_and_on c (r ∷ rs) =
    let first = on c r in
    let others = on_and_on (apply_store c r) rs in
    record { later = omega (arith, first.later, others.later); least = others.least ∙ first.least }

pub all : (c : Content) (rs : List Request) → IsContent c → AllByRecursion IsMade rs → (content_after c rs).next ≤ 2 ^ 62
    → IsContent (content_after c rs)
all c [] h m few = h
all c (r ∷ rs) h m few = all (apply_store c r) rs (one c r h m.0 (omega (arith, few, (on_and_on (apply_store c r) rs).later))) m.1 few

all_front : {X : Type 0} (P : X → Type 0) (xs ys : List X) → AllByRecursion P (xs ++ ys) → AllByRecursion P xs
all_front P [] ys a = tt
all_front P (x ∷ xs) ys a = (a.0, all_front P xs ys a.1)

pub all_joined : {X : Type 0} (P : X → Type 0) (xs ys : List X) → AllByRecursion P xs → AllByRecursion P ys → AllByRecursion P (xs ++ ys)
all_joined P [] ys a b = b
all_joined P (x ∷ xs) ys a b = (a.0, all_joined P xs ys a.1 b)

pub moments : (c : Content) (es : List Entry) → AllByRecursion IsMade (changes es) → KeepsImages c es
moments c es m h few n =
    let parts : changes es ≡ changes (take n es) ++ changes (drop n es) = ap changes (sym (take-append-drop n es)) ∙ changes_append
    (take n es) (drop n es) in
    let end : (moment c es (length es)).content ≡ content_after (content_after c (changes (take n es))) (changes (drop n es)) =
    sym (folded c es (length es)) ∙ ap (λ l. content_after c (changes l)) (take_all (length es) es (omega arith)) ∙ ap (content_after c)
    parts ∙ content_append c (changes (take n es)) (changes (drop n es)) in
    let low = (on_and_on (content_after c (changes (take n es))) (changes (drop n es))).later in
    subst IsContent (folded c es n)
    (all c (changes (take n es)) h (all_front IsMade (changes (take n es)) (changes (drop n es)) (subst (AllByRecursion IsMade) parts m))
    (omega (arith, few, low, ap (λ (x : Content). x.next) end)))
