-- A store of one bucket as lists: its replies to requests, and its state after them, computed.
use Rattle.text_and_lists.proofs.Members.{text_exact, text_is}
use Rattle.text_and_lists.specs.Order.{text_cmp, text_eq, text_ties, text_total}
use Rattle.job_examples.proofs.MapLists.{find_map, found_is, get_put, map_of, mapped, others, put_is, put_twice, removed_is, sorted_is}
use Rattle.job_examples.proofs.Tagged.{told_is, told_tag}
use Rattle.job_examples.specs.Jobs.{lake}
use Rattle.s3_types.specs.Answer.{abort_answer, aborted, answer, answer_at, answer_in, apply, apply_at, apply_in, bucket_of}
use Rattle.s3_types.specs.Answer.{complete_answer, completed, draws, found, head, part_answer, part_put, read_answer, rename_answer}
use Rattle.s3_types.specs.Answer.{renamed, with_files, with_objects, with_uploads, without}
use Rattle.s3_types.specs.Multipart.{has_tag, is_none_named, is_part_number, joined, live, ref_cmp, rises, tag_eq, with_part}
use Rattle.s3_types.specs.Pages.{begins}
use Rattle.s3_types.specs.Store.{BucketContent, Buckets, Content, Files, Objects, Scene, Upload}
use Rattle.s3_types.specs.Tags.{Spelled}
use Rattle.s3_types.specs.declared.limits.TheConstants.{MOST_ENTRIES}
use Rattle.s3_types.specs.declared.object.Object.{Object}
use Rattle.s3_types.specs.declared.reply.PageEntry.{PageEntry}
use Rattle.s3_types.specs.declared.reply.Refusal.{Refusal}
use Rattle.s3_types.specs.declared.reply.Refusal.TheVariants.{BadPartNumber, EntityTooSmall, InvalidPart, InvalidPartOrder, MalformedList}
use Rattle.s3_types.specs.declared.reply.Refusal.TheVariants.{NoSuchUpload}
use Rattle.s3_types.specs.declared.reply.Reply.{Reply}
use Rattle.s3_types.specs.declared.reply.Reply.TheVariants.{ClusterDone, ClusterNames, Part, Refused}
use Rattle.s3_types.specs.declared.request.NamedPart.{NamedPart}
use Rattle.s3_types.specs.declared.request.Request.{Request}
use Rattle.s3_types.specs.declared.request.Request.TheVariants.{AbortUpload, ClusterDelete, ClusterGet, ClusterList, ClusterPut}
use Rattle.s3_types.specs.declared.request.Request.TheVariants.{ClusterRename, CompleteUpload, CopyObject, CreateUpload, DeleteObject}
use Rattle.s3_types.specs.declared.request.Request.TheVariants.{DeleteObjects, GetObject, HeadObject, ListPage, ListParts, ListUploads}
use Rattle.s3_types.specs.declared.request.Request.TheVariants.{MakeBucket, PutObject, UploadPart}
use Rattle.s3_types.specs.declared.request.UploadRef.{UploadRef}
use Rattle.std.proofs.Common.{Bool, Err, List, None, Ok, Option, Some, ap, arith, cond, false, length, map, nat_le, nat_lt, refl, sym, take}
use Rattle.std.proofs.Common.{true, ℕ, [], ◌&&◌, ◌+◌, ◌-◌, ◌∙◌, ◌∷◌, ◌≡◌}
use Rattle.std.proofs.lemmas.Bool.{and_parts}
use Rattle.std.proofs.lemmas.Cmp.{on_total, then_total}
use Rattle.std.proofs.lemmas.Map.Lookups.{exact_bytes, exact_pairs, exact_unsigned}
use Rattle.std.specs.Cmp.{IsTotalOrder, nat_cmp_total}
use Rattle.std.specs.FinMap.{IsAntisymmetric, empty, entries, from_entries, get, get-empty, get-insert, insert, nat_cmp-IsAntisymmetric}
use Rattle.std.specs.FinMap.{remove}
use Rattle.std.specs.FinMap.Entries.{by_order, find, is_sorted, put, where_key}
use Rattle.std.specs.List.{filter, flat_map, list_all}
use Rattle.std.specs.Option.{option_map, unwrap_or}
use Rattle.std.specs.Ordering.{is_lt, nat_cmp}
use Rattle.std.specs.Prelude.{Result}
use Rattle.std.specs.declared.cmp.Ordering.TheVariants.{Greater}
use Rattle.s3_types.specs.Pages as pages
use Rattle.s3_types.specs.Multipart as uploads

-- ---- a store as lists

-- A live upload: its key, and its parts by their numbers.
pub record Draft : Type 0 where
  pub key : List ℕ
  pub parts : List (ℕ × List ℕ)

-- The objects and the live uploads of the bucket, the next upload's id, and the cluster's files.
pub record Book : Type 0 where
  pub objects : List (List ℕ × Object)
  pub uploads : List (ℕ × Draft)
  pub next : ℕ
  pub files : List (List ℕ × List ℕ)

abbrev pub upload_of : Draft → Upload
upload_of d = record { key = d.key; parts = from_entries d.parts }

-- The live uploads as the store has them.
abbrev pub held : List (ℕ × Draft) → List (ℕ × Upload)
held es = map (λ e. (e.0, upload_of e.1)) es

abbrev pub bucket_in : Book → BucketContent
bucket_in b = record { objects = map_of b.objects; uploads = map_of (held b.uploads) }

abbrev pub only : BucketContent → Buckets
only b = insert empty lake b

unfoldable pub content_of : Book → Content
content_of b = record { buckets = only (bucket_in b); next = b.next; minimum = 5242880 }

abbrev pub scene_of : Book → Scene
scene_of b = record { content = content_of b; files = map_of b.files }

-- ---- its maps

pub text_found : {X : Type 0} (es : List (List ℕ × X)) (k : List ℕ) → get (map_of {R = text_cmp} es) k ≡ find text_cmp k es
text_found es k = found_is text_total text_exact es k

text_put : {X : Type 0} (es : List (List ℕ × X)) (k : List ℕ) (x : X) → insert (map_of {R = text_cmp} es) k x ≡ map_of (put text_cmp k x es)
text_put es k x = put_is text_total text_exact es k x

text_removed : {X : Type 0} (es : List (List ℕ × X)) (k : List ℕ) → remove (map_of {R = text_cmp} es) k ≡ map_of (others text_cmp k es)
text_removed es k = removed_is text_total text_exact es k

abbrev pub without_keys : List (List ℕ) → List (List ℕ × Object) → List (List ℕ × Object)
without_keys [] es = es
without_keys (k ∷ ks) es = without_keys ks (others text_cmp k es)

objects_without : (ks : List (List ℕ)) (es : List (List ℕ × Object)) → without (map_of es) ks ≡ map_of (without_keys ks es)
objects_without [] es = refl
objects_without (k ∷ ks) es = ap (λ (m : Objects). without m ks) (text_removed es k) ∙ objects_without ks (others text_cmp k es)

pub upload_found : (es : List (ℕ × Draft)) (id : ℕ) → get (map_of {R = nat_cmp} (held es)) id ≡ option_map upload_of (find nat_cmp id es)
upload_found es id = found_is nat_cmp_total nat_cmp-IsAntisymmetric (held es) id ∙ find_map nat_cmp upload_of es id

held_put : (es : List (ℕ × Draft)) (id : ℕ) (d : Draft) → put nat_cmp id (upload_of d) (held es) ≡ held (put nat_cmp id d es)
held_put [] id d = refl
held_put (e ∷ es) id d =
    elim (nat_cmp id e.0) as (λ r. by_order r ((id, upload_of d) ∷ held (e ∷ es)) ((e.0, upload_of d) ∷ held es)
    ((e.0, upload_of e.1) ∷ put nat_cmp id (upload_of d) (held es)) ≡ held
    (by_order r ((id, d) ∷ e ∷ es) ((e.0, d) ∷ es) (e ∷ put nat_cmp id d es))) [
      | Greater ↦ ap (λ l. (e.0, upload_of e.1) ∷ l) (held_put es id d)
      | _ ↦ refl
    ]

uploads_put : (es : List (ℕ × Draft)) (id : ℕ) (d : Draft)
    → insert {R = nat_cmp} (map_of (held es)) id (upload_of d) ≡ map_of (held (put nat_cmp id d es))
uploads_put es id d = put_is nat_cmp_total nat_cmp-IsAntisymmetric (held es) id (upload_of d) ∙ ap map_of (held_put es id d)

held_where : (p : ℕ → Bool) (es : List (ℕ × Draft)) → where_key nat_cmp p (held es) ≡ held (where_key nat_cmp p es)
held_where p [] = refl
held_where p (e ∷ es) = elim (p e.0) as (λ b. cond b ((e.0, upload_of e.1) ∷ where_key nat_cmp p (held es)) (where_key nat_cmp p (held es))
    ≡ held (cond b (e ∷ where_key nat_cmp p es) (where_key nat_cmp p es))) [
      | true ↦ ap (λ l. (e.0, upload_of e.1) ∷ l) (held_where p es)
      | false ↦ held_where p es
    ]

uploads_removed : (es : List (ℕ × Draft)) (id : ℕ) → remove {R = nat_cmp} (map_of (held es)) id ≡ map_of (held (others nat_cmp id es))
uploads_removed es id = removed_is nat_cmp_total nat_cmp-IsAntisymmetric (held es) id ∙ ap map_of (held_where _ es)

-- ---- the store after a request

-- The upload with this id and this key, or none.
abbrev pub draft_at : List (ℕ × Draft) → List ℕ → ℕ → Option Draft
draft_at es k id = elim (find nat_cmp id es) [ None ↦ None | Some d ↦ cond (text_eq d.key k) (Some d) None ]

live_is : (es : List (ℕ × Draft)) (k : List ℕ) (id : ℕ) → live (map_of (held es)) k id ≡ option_map upload_of (draft_at es k id)
live_is es k id = grind (arith, upload_found, mapped)

-- True if the part exists and has this tag.
abbrev pub is_tagged : Spelled → Option (List ℕ) → Bool
is_tagged t None = false
is_tagged t (Some bytes) = tag_eq (told_tag bytes) t

tagged_is : (t : Spelled) (o : Option (List ℕ)) → has_tag t o ≡ is_tagged t o
tagged_is t None = refl
tagged_is t (Some bytes) = ap (λ x. tag_eq x t) (told_is bytes)

-- The joined parts of an upload, where `has` tests the tags.
abbrev pub joined_by : (Spelled → Option (List ℕ) → Bool) → (ℕ → Option (List ℕ)) → List NamedPart → ℕ → Result (List ℕ) Refusal
joined_by has g ns minimum =
    cond (is_none_named ns) (Err MalformedList)
    (cond (rises ns)
    (cond (list_all (λ n. has n.tag (g n.number)) ns)
    (cond (list_all (λ n. nat_le minimum (length (unwrap_or (g n.number) []))) (take (length ns - 1) ns))
    (Ok (flat_map (λ n. unwrap_or (g n.number) []) ns))
    (Err EntityTooSmall))
    (Err InvalidPart))
    (Err InvalidPartOrder))

abbrev pub joined_in : Option Draft → List NamedPart → ℕ → Result (List ℕ) Refusal
joined_in None ns minimum = Err NoSuchUpload
joined_in (Some d) ns minimum = joined_by is_tagged (λ n. find nat_cmp n d.parts) ns minimum

joined_is : (d : Option Draft) (ns : List NamedPart) (minimum : ℕ) → joined (option_map upload_of d) ns minimum ≡ joined_in d ns minimum
unfolding map_of
joined_is None ns minimum = refl
joined_is (Some d) ns minimum = λ i. joined_by (λ t o. tagged_is t o i) (λ n. found_is nat_cmp_total nat_cmp-IsAntisymmetric d.parts n i) ns
    minimum

abbrev pub with_draft : List (ℕ × Draft) → ℕ → Option Draft → ℕ → List ℕ → List (ℕ × Draft)
with_draft es id None n bytes = es
with_draft es id (Some d) n bytes = cond (is_part_number n) (put nat_cmp id (record { key = d.key; parts = put nat_cmp n bytes d.parts })
    es) es

part_is : (es : List (ℕ × Draft)) (id : ℕ) (d : Option Draft) (n : ℕ) (bytes : List ℕ)
    → part_put (map_of (held es)) id (option_map upload_of d) n bytes ≡ map_of (held (with_draft es id d n bytes))
unfolding map_of
part_is es id None n bytes = refl
part_is es id (Some d) n bytes =
    let c : Draft = record { key = d.key; parts = put nat_cmp n bytes d.parts } in
    elim (is_part_number n) as (λ b. cond b (insert {R = nat_cmp} (map_of (held es)) id (with_part (upload_of d) n bytes))
    (map_of (held es)) ≡ map_of (held (cond b (put nat_cmp id c es) es))) [
      | true ↦ ap (λ m. insert (map_of (held es)) id (record { key = d.key; parts = m }))
          (put_is nat_cmp_total nat_cmp-IsAntisymmetric d.parts n bytes) ∙ uploads_put es id c
      | false ↦ refl
    ]

-- The objects after a request.
abbrev pub objects_after : Book → Request → List (List ℕ × Object)
objects_after b (PutObject n k bytes header) = put text_cmp k (record { bytes = bytes; header = header }) b.objects
objects_after b (DeleteObject n k) = others text_cmp k b.objects
objects_after b (DeleteObjects n ks) = cond (nat_lt MOST_ENTRIES (length ks)) b.objects (without_keys ks b.objects)
objects_after b (CompleteUpload n k id ns) = elim (joined_in (draft_at b.uploads k id) ns 5242880)
    [ Ok bytes ↦ put text_cmp k (record { bytes = bytes; header = None }) b.objects | Err r ↦ b.objects ]
objects_after b _ = b.objects

abbrev pub uploads_after : Book → Request → List (ℕ × Draft)
uploads_after b (CreateUpload n k) = put nat_cmp b.next (record { key = k; parts = [] }) b.uploads
uploads_after b (UploadPart n k id number bytes) = with_draft b.uploads id (draft_at b.uploads k id) number bytes
uploads_after b (CompleteUpload n k id ns) = elim (joined_in (draft_at b.uploads k id) ns 5242880)
    [ Ok bytes ↦ others nat_cmp id b.uploads | Err r ↦ b.uploads ]
uploads_after b (AbortUpload n k id) = elim (draft_at b.uploads k id) [ None ↦ b.uploads | Some d ↦ others nat_cmp id b.uploads ]
uploads_after b _ = b.uploads

abbrev pub files_after : List (List ℕ × List ℕ) → Request → List (List ℕ × List ℕ)
files_after es (ClusterPut path bytes) = put text_cmp path bytes es
files_after es (ClusterRename source target) = elim (find text_cmp source es)
    [ None ↦ es | Some bytes ↦ put text_cmp target bytes (others text_cmp source es) ]
files_after es (ClusterDelete path) = others text_cmp path es
files_after es _ = es

-- The store after a request.
abbrev pub after : Book → Request → Book
after b r = record {
  objects = objects_after b r;
  uploads = uploads_after b r;
  next = cond (draws r) (b.next + 1) b.next;
  files =
      files_after b.files r;
}

-- True if the request names the bucket or the cluster, and neither makes a bucket nor copies.
abbrev pub is_ours : Request → Bool
is_ours (MakeBucket n) = false
is_ours (CopyObject n source target) = false
is_ours (ListParts n k id) = false
is_ours (ClusterPut path bytes) = true
is_ours (ClusterRename source target) = true
is_ours (ClusterGet path) = true
is_ours (ClusterDelete path) = true
is_ours (ClusterList p) = true
is_ours r = text_eq (bucket_of r) lake

-- The bucket after a request.
bucket_after : (b : Book) (r : Request) → is_ours r ≡ true → apply_in (bucket_in b) b.next 5242880 r ≡ bucket_in (after b r)
bucket_after b (PutObject n k bytes header) h = λ i. record {
  objects = text_put b.objects k (record { bytes = bytes; header = header }) i;
  uploads = map_of (held b.uploads);
}
bucket_after b (DeleteObject n k) h = λ i. record { objects = text_removed b.objects k i; uploads = map_of (held b.uploads) }
bucket_after b (DeleteObjects n ks) h =
    elim (nat_lt MOST_ENTRIES (length ks)) as (λ many. with_objects (bucket_in b)
    (cond many (map_of b.objects) (without (map_of b.objects) ks)) ≡ with_objects (bucket_in b)
    (map_of (cond many b.objects (without_keys ks b.objects)))) [
      | true ↦ refl
      | false ↦ λ i. record { objects = objects_without ks b.objects i; uploads = map_of (held b.uploads) }
    ]
bucket_after b (CopyObject n source target) h = absurd cc
bucket_after b (CreateUpload n k) h = λ i. record {
  objects = map_of b.objects;
  uploads = uploads_put b.uploads b.next
      (record { key = k; parts = [] }) i;
}
bucket_after b (UploadPart n k id number bytes) h =
    ap (λ o. record { objects = map_of b.objects; uploads = part_put (map_of (held b.uploads)) id o number bytes }) (live_is b.uploads k id)
    ∙ λ i. record { objects = map_of b.objects; uploads = part_is b.uploads id (draft_at b.uploads k id) number bytes i }
bucket_after b (CompleteUpload n k id ns) h =
    ap (λ o. completed (bucket_in b) k id (joined o ns 5242880)) (live_is b.uploads k id) ∙ ap (completed (bucket_in b) k id)
    (joined_is (draft_at b.uploads k id) ns 5242880)
    ∙ elim (joined_in (draft_at b.uploads k id) ns 5242880) as (λ r. completed (bucket_in b) k id r ≡ record {
      objects = map_of (elim r [ Ok bytes ↦ put text_cmp k (record { bytes = bytes; header = None }) b.objects | Err e ↦ b.objects ]);
      uploads = map_of (held (elim r [ Ok bytes ↦ others nat_cmp id b.uploads | Err e ↦ b.uploads ]));
    }) [
      | Ok bytes ↦ λ i. record {
        objects = text_put b.objects k (record { bytes = bytes; header = None }) i;
        uploads = uploads_removed
            b.uploads id i;
      }
      | Err r ↦ refl
    ]
bucket_after b (AbortUpload n k id) h =
    ap (λ o. record { objects = map_of b.objects; uploads = aborted (map_of (held b.uploads)) id o }) (live_is b.uploads k id)
    ∙ elim (draft_at b.uploads k id) as (λ d.
    with_uploads (bucket_in b) (aborted (map_of (held b.uploads)) id (option_map upload_of d)) ≡ with_uploads (bucket_in b)
    (map_of (held (elim d [ None ↦ b.uploads | Some c ↦ others nat_cmp id b.uploads ])))) [
      | None ↦ refl
      | Some d ↦ λ i. record { objects = map_of b.objects; uploads = uploads_removed b.uploads id i }
    ]
bucket_after b _ h = refl

stored : (b : Book) (r : Request) → bucket_of r ≡ lake → is_ours r ≡ true
    → apply_at (get (content_of b).buckets (bucket_of r)) (content_of b) r ≡ content_of (after b r)
unfolding content_of
stored b r h ours =
    ap (λ k. apply_at (get (only (bucket_in b)) k) (content_of b) r) h
    ∙ ap (λ o. apply_at o (content_of b) r) (get_put text_total text_exact empty lake (bucket_in b))
    ∙ (λ i. record {
      buckets = insert (only (bucket_in b)) (h i) (bucket_after b r ours i);
      next = cond (draws r) (b.next + 1) b.next;
      minimum = 5242880;
    })
    ∙ ap (λ m. record { buckets = m; next = cond (draws r) (b.next + 1) b.next; minimum = 5242880 })
    (put_twice text_total text_exact empty lake (bucket_in b) (bucket_in (after b r)))

pub applies : (b : Book) (r : Request) → is_ours r ≡ true → apply (scene_of b) r ≡ scene_of (after b r)
unfolding content_of
applies b (MakeBucket n) h = absurd cc
applies b (CopyObject n source target) h = absurd cc
applies b (ListParts n k id) h = absurd cc
applies b (ClusterPut path bytes) h = λ i. record { content = content_of b; files = text_put b.files path bytes i }
applies b (ClusterRename source target) h =
    ap (λ o. record { content = content_of b; files = renamed (map_of b.files) source target o }) (text_found b.files source)
    ∙ elim (find text_cmp source b.files) as (λ o.
    with_files (scene_of b) (renamed (map_of b.files) source target o) ≡ with_files (scene_of b)
    (map_of (elim o [ None ↦ b.files | Some bytes ↦ put text_cmp target bytes (others text_cmp source b.files) ]))) [
      | None ↦ refl
      | Some bytes ↦ λ i. record {
        content = content_of b;
        files = (ap (λ (m : Files). insert m target bytes) (text_removed b.files source)
            ∙ text_put (others text_cmp source b.files) target bytes) i;
      }
    ]
applies b (ClusterGet path) h = refl
applies b (ClusterDelete path) h = λ i. record { content = content_of b; files = text_removed b.files path i }
applies b (ClusterList p) h = refl
applies b r h = λ i. record { content = stored b r (text_is _ lake h) h i; files = map_of b.files }

-- ---- the reply to a request

-- The id of a live upload with its key, as in a listing.
abbrev pub ref_in : ℕ × Draft → UploadRef × Unit {0}
ref_in e = (record { key = e.1.key; upload = e.0 }, tt)

abbrev pub is_ordered : Book → Bool
is_ordered b = (is_sorted text_cmp b.objects && is_sorted text_cmp b.files) &&
    (is_sorted nat_cmp (held b.uploads) && is_sorted ref_cmp (map ref_in b.uploads))

abbrev pub listed_in : List ℕ → Bool → List ℕ → List (List ℕ × Object) → List PageEntry
listed_in p delimited x es = pages.folded_from None (filter (λ y. is_lt (text_cmp x (pages.text_in y)))
    (map (pages.entry_of p delimited) (filter (λ e. begins p e.0) es)))

abbrev pub uploads_in : List ℕ → Option UploadRef → List (ℕ × Draft) → List UploadRef
uploads_in p x es = filter (λ r. begins p r.key) (filter (uploads.is_behind x) (map (λ e. e.0) (map ref_in es)))

-- The reply to a part with this tag.
abbrev pub part_reply : Option Draft → ℕ → Spelled → Reply
part_reply None n tag = Refused NoSuchUpload
part_reply (Some d) n tag = cond (is_part_number n) (Part tag) (Refused BadPartNumber)

part_told : (d : Option Draft) (n : ℕ) (bytes : List ℕ) → part_answer (option_map upload_of d) n bytes ≡ part_reply d n (told_tag bytes)
part_told None n bytes = refl
part_told (Some d) n bytes = ap (part_reply (Some d) n) (told_is bytes)

abbrev pub reply : Book → Request → Reply
reply b (GetObject n k) = found (find text_cmp k b.objects)
reply b (HeadObject n k) = head (find text_cmp k b.objects)
reply b (ListPage n p delimited x limit) = pages.page limit (listed_in p delimited x b.objects)
reply b (UploadPart n k id number bytes) = part_reply (draft_at b.uploads k id) number (told_tag bytes)
reply b (CompleteUpload n k id ns) = complete_answer ns (joined_in (draft_at b.uploads k id) ns 5242880)
reply b (AbortUpload n k id) = abort_answer (option_map upload_of (draft_at b.uploads k id))
reply b (ListUploads n p x limit) = uploads.page limit (uploads_in p x b.uploads)
reply b (ClusterPut path bytes) = ClusterDone
reply b (ClusterRename source target) = rename_answer (find text_cmp source b.files)
reply b (ClusterGet path) = read_answer (find text_cmp path b.files)
reply b (ClusterDelete path) = ClusterDone
reply b (ClusterList p) = ClusterNames (filter (begins p) (map (λ e. e.0) b.files))
reply b r = answer_in (bucket_in b) b.next 5242880 r

refs_total : IsTotalOrder ref_cmp
refs_total = then_total (on_total (λ r. r.key) text_total) (on_total (λ r. r.upload) nat_cmp_total)

refs_exact : IsAntisymmetric ref_cmp
refs_exact a b h = ap (λ (p : List ℕ × ℕ). record { key = p.0; upload = p.1 })
    (exact_pairs text_cmp nat_cmp exact_bytes exact_unsigned (a.key, a.upload) (b.key, b.upload) h)

refs_map : (es : List (ℕ × Draft)) → map uploads.ref_of (held es) ≡ map ref_in es
refs_map [] = refl
refs_map (e ∷ es) = ap (λ l. ref_in e ∷ l) (refs_map es)

refs_are : (es : List (ℕ × Draft)) → (is_sorted nat_cmp (held es) && is_sorted ref_cmp (map ref_in es)) ≡ true
    → entries (uploads.refs (map_of (held es))) ≡ map ref_in es
unfolding map_of
refs_are es h =
    let p = and_parts (is_sorted nat_cmp (held es)) _ h in
    ap (λ l. entries (from_entries {R = ref_cmp} (map uploads.ref_of l))) (sorted_is nat_cmp_total nat_cmp-IsAntisymmetric (held es) p.0) ∙
    ap (λ l. entries (from_entries {R = ref_cmp} l)) (refs_map es)
    ∙ sorted_is refs_total refs_exact (map ref_in es) p.1

told : (b : Book) (r : Request) → bucket_of r ≡ lake
    → answer_at (get (content_of b).buckets (bucket_of r)) b.next 5242880 r ≡ answer_in (bucket_in b) b.next 5242880 r
unfolding content_of
told b r h = ap (λ k. answer_at (get (only (bucket_in b)) k) b.next 5242880 r) h ∙ ap (λ o. answer_at o b.next 5242880 r)
    (get_put text_total text_exact empty lake (bucket_in b))

pub answers : (b : Book) (r : Request) → is_ours r ≡ true → is_ordered b ≡ true → answer (scene_of b) r ≡ reply b r
unfolding content_of
answers b (MakeBucket n) h o = absurd cc
answers b (CopyObject n source target) h o = absurd cc
answers b (ListParts n k id) h o = absurd cc
answers b (GetObject n k) h o = told b (GetObject n k) (text_is n lake h) ∙ ap found (text_found b.objects k)
answers b (HeadObject n k) h o = told b (HeadObject n k) (text_is n lake h) ∙ ap head (text_found b.objects k)
answers b (ListPage n p delimited x limit) h o = told b (ListPage n p delimited x limit) (text_is n lake h)
    ∙ ap (λ l. pages.page limit (listed_in p delimited x l)) (sorted_is text_total text_exact b.objects
    (and_parts (is_sorted text_cmp b.objects) _ (and_parts (is_sorted text_cmp b.objects && is_sorted text_cmp b.files) _ o).0).0)
answers b (UploadPart n k id number bytes) h o = told b (UploadPart n k id number bytes) (text_is n lake h) ∙ ap
    (λ u. part_answer u number bytes) (live_is b.uploads k id) ∙ part_told (draft_at b.uploads k id) number bytes
answers b (CompleteUpload n k id ns) h o = told b (CompleteUpload n k id ns) (text_is n lake h)
    ∙ ap (λ u. complete_answer ns (joined u ns 5242880)) (live_is b.uploads k id) ∙ ap (complete_answer ns)
    (joined_is (draft_at b.uploads k id) ns 5242880)
answers b (AbortUpload n k id) h o = told b (AbortUpload n k id) (text_is n lake h) ∙ ap abort_answer (live_is b.uploads k id)
answers b (ListUploads n p x limit) h o = told b (ListUploads n p x limit) (text_is n lake h)
    ∙ ap (λ l. uploads.page limit (filter (λ r. begins p r.key) (filter (uploads.is_behind x) (map (λ e. e.0) l))))
    (refs_are b.uploads (and_parts (is_sorted text_cmp b.objects && is_sorted text_cmp b.files) _ o).1)
answers b (ClusterPut path bytes) h o = refl
answers b (ClusterRename source target) h o = ap rename_answer (text_found b.files source)
answers b (ClusterGet path) h o = ap read_answer (text_found b.files path)
answers b (ClusterDelete path) h o = refl
answers b (ClusterList p) h o = ap (λ l. ClusterNames (filter (begins p) (map (λ e. e.0) l)))
    (sorted_is text_total text_exact b.files (and_parts (is_sorted text_cmp b.objects) _
    (and_parts (is_sorted text_cmp b.objects && is_sorted text_cmp b.files) _ o).0).1)
answers b r h o = told b r (text_is _ lake h)

-- ---- the bucket

pub at_bucket : (b : Book) → get (content_of b).buckets lake ≡ Some (bucket_in b)
unfolding content_of
at_bucket b = get_put text_total text_exact empty lake (bucket_in b)

pub no_other : (b : Book) (k : List ℕ) → text_eq k lake ≡ false → get (content_of b).buckets k ≡ None
unfolding content_of
no_other b k h = get-insert text_total empty lake (bucket_in b) k ∙ ap (λ c. cond c (Some (bucket_in b)) (get (empty {R = text_cmp}) k))
    (sym (text_ties k lake) ∙ h) ∙ get-empty text_cmp k
