-- Reading the printed text of a record gives the record.
use Rattle.json.proofs.Printed.Utf8.{IsUtf8-are_ascii, are_ascii}
use Rattle.pending_json.proofs.PartLengths.{each_below}
use Rattle.pending_json.proofs.Printed.{Plain, PlainItems, PlainMembers, printed_is_read}
use Rattle.pending_json.proofs.Relations.{pending_only, set_only, success_only}
use Rattle.pending_json.specs.Committers.{committer_word}
use Rattle.pending_json.specs.Fields.{is_count}
use Rattle.pending_json.specs.Pending.{Pending, are_sizes}
use Rattle.pending_json.specs.Reading.{pending_of, set_of, success_of}
use Rattle.pending_json.specs.Records.{IsMark, IsPending, IsSet, IsStamp}
use Rattle.pending_json.specs.Trees.{pending_tree, set_tree, success_tree, tag_digits, texts, version_of, whole, wholes, with_sizes}
use Rattle.pending_json.specs.Trees.{with_stamp}
use Rattle.pending_json.specs.declared.records.PendingSet.{PendingSet}
use Rattle.pending_json.specs.declared.records.SuccessMark.{SuccessMark}
use Rattle.s3_types.proofs.Utf8.{bucket_utf8, hex_utf8}
use Rattle.s3_types.specs.Tags.{Spelled, is_plain_tag}
use Rattle.s3_types.specs.declared.request.Committer.{Committer}
use Rattle.s3_types.specs.declared.request.Committer.TheVariants.{Magic}
use Rattle.serde_json.proofs.Numbers.{number_of-decimal}
use Rattle.serde_json.specs.Data.{Members, member, no_members}
use Rattle.serde_json.specs.Read.{max_depth, of_items, of_json}
use Rattle.serde_json.specs.View.{items_of}
use Rattle.serde_json.specs.Written.{compact_text, items_outline, outline}
use Rattle.std.proofs.Common.{List, None, Ok, Option, Some, arith, codes, is_some, length, lit<, lit≤, map, refl, subst, sym, true, ℕ, []}
use Rattle.std.proofs.Common.{◌<◌, ◌^◌, ◌∷◌, ◌≡◌, ◌≤◌}
use Rattle.std.proofs.lemmas.Bool.{and_parts}
use Rattle.std.proofs.lemmas.Str.{IsUtf8-from_is_utf8}
use Rattle.std.specs.List.{AllByRecursion, list_all}
use Rattle.std.specs.Str.{IsUtf8, is_utf8}
use Rattle.json.specs.Tree as tr

small : (n : ℕ) → n < 2 ^ 32 → n < 2 ^ 64
small n h = omega arith

-- ---- lists of texts

texts_depth : (ts : List (List ℕ)) → tr.items_depth (items_outline (texts ts)) ≡ 0
texts_depth [] = refl
texts_depth (t ∷ ts) = rw (texts_depth ts) refl

texts_back : (ts : List (List ℕ)) → of_items (items_outline (texts ts)) ≡ Some (texts ts)
texts_back [] = refl
texts_back (t ∷ ts) = rw (texts_back ts) refl

texts_plain : (ts : List (List ℕ)) → AllByRecursion (λ t. is_utf8 t ≡ true) ts → PlainItems (texts ts)
texts_plain [] h = tt
texts_plain (t ∷ ts) h = (IsUtf8-from_is_utf8 t h.0, texts_plain ts h.1)

tag_plain : (t : Spelled) → is_plain_tag t ≡ true → IsUtf8 t.digits
tag_plain t h = hex_utf8 t.digits (and_parts _ _ (and_parts _ _ h).0).1

tags_plain : (ts : List Spelled) → list_all is_plain_tag ts ≡ true → PlainItems (texts (map tag_digits ts))
tags_plain [] h = tt
tags_plain (t ∷ ts) h = let p = and_parts (is_plain_tag t) _ h in (tag_plain t p.0, tags_plain ts p.1)

-- ---- lists of numbers

wholes_depth : (ns : List ℕ) → tr.items_depth (items_outline (wholes ns)) ≡ 0
wholes_depth [] = refl
wholes_depth (n ∷ ns) = rw (wholes_depth ns) refl

wholes_back : (ns : List ℕ) → AllByRecursion (λ n. n < 2 ^ 64) ns → of_items (items_outline (wholes ns)) ≡ Some (wholes ns)
wholes_back [] h = refl
wholes_back (n ∷ ns) h = rw (number_of-decimal n h.0, wholes_back ns h.1) refl

wholes_plain : (ns : List ℕ) → AllByRecursion (λ n. n < 2 ^ 64) ns → PlainItems (wholes ns)
wholes_plain [] h = tt
wholes_plain (n ∷ ns) h = (h.0, wholes_plain ns h.1)

-- ---- pending uploads

key : (k : List ℕ) → are_ascii k ≡ true → IsUtf8 k
key k h = IsUtf8-are_ascii k h

-- The members after a file's length.
abbrev later : Pending → Option (List ℕ) → Members
later p sizes = with_sizes sizes (member (codes "task") (whole p.task) (member (codes "upload") (whole p.upload)
    (member (codes "version") (whole (version_of (is_some sizes))) no_members)))

later_plain : (p : Pending) (sizes : Option (List ℕ)) → are_sizes sizes p.tags p.length ≡ true → IsPending p → PlainMembers (later p sizes)
later_plain p None h f = (
  key (codes "task") refl,
  small _ f.task,
  (
    key (codes "upload") refl,
    f.upload,
    (key (codes "version") refl, lit< tt, tt),
  ),
)
later_plain p (Some ns) h f = (
  key (codes "sizes") refl,
  wholes_plain ns (each_below ns (length p.tags) p.length h f.length),
  (key (codes "task") refl, small _ f.task, (key (codes "upload") refl, f.upload, (key (codes "version") refl, lit< tt, tt))),
)

pending_plain : (p : Pending) → IsPending p → Plain (pending_tree p)
pending_plain p f = (
  key (codes "attempt") refl,
  small _ f.attempt,
  (
    key (codes "bucket") refl,
    IsUtf8-from_is_utf8 p.bucket (bucket_utf8 p.bucket f.bucket),
    (
      key (codes "destination") refl,
      IsUtf8-from_is_utf8 p.destination (and_parts _ _ f.destination).0,
      (
        key (codes "etags") refl,
        tags_plain p.tags (and_parts (is_count p.tags) _ f.tags).1,
        (
          key (codes "kind") refl,
          key (codes "pending") refl,
          (key (codes "length") refl, f.length, later_plain p p.sizes f.sizes f),
        ),
      ),
    ),
  ),
)

pending_depth_at : (p : Pending) (sizes : Option (List ℕ)) → p.sizes ≡ sizes → tr.depth (outline (pending_tree p)) ≡ 2
pending_depth_at p None is = rw (is, texts_depth (map tag_digits p.tags)) refl
pending_depth_at p (Some ns) is = rw (is, texts_depth (map tag_digits p.tags), wholes_depth ns) refl

pending_depth : (p : Pending) → tr.depth (outline (pending_tree p)) ≡ 2
pending_depth p = pending_depth_at p p.sizes refl

pending_back_at : (p : Pending) (sizes : Option (List ℕ)) → p.sizes ≡ sizes → are_sizes sizes p.tags p.length ≡ true → IsPending p
    → of_json (outline (pending_tree p)) ≡ Some (pending_tree p)
pending_back_at p None is told f = rw (
  is,
  number_of-decimal p.attempt (small _ f.attempt),
  texts_back (map tag_digits p.tags),
  number_of-decimal p.length f.length,
  number_of-decimal p.task (small _ f.task),
  number_of-decimal p.upload f.upload,
  number_of-decimal 1
      (lit< tt),
) refl
pending_back_at p (Some ns) is told f = rw (
  is,
  number_of-decimal p.attempt (small _ f.attempt),
  texts_back (map tag_digits p.tags),
  number_of-decimal p.length f.length,
  wholes_back ns (each_below ns (length p.tags) p.length told f.length),
  number_of-decimal p.task
      (small _ f.task),
  number_of-decimal p.upload f.upload,
  number_of-decimal 2 (lit< tt),
) refl

pending_back : (p : Pending) → IsPending p → of_json (outline (pending_tree p)) ≡ Some (pending_tree p)
pending_back p f = pending_back_at p p.sizes refl f.sizes f

at_most : (n k : ℕ) → n ≡ k → k ≤ max_depth → n ≤ max_depth
at_most n k e h = subst (λ m. m ≤ max_depth) (sym e) h

pub pending_text : (p : Pending) → IsPending p → pending_of (compact_text (pending_tree p)) ≡ Ok p
pending_text p f = pending_only _ p f (printed_is_read (pending_tree p) (pending_plain p f) (at_most _ 2 (pending_depth p) (lit≤ tt))
    (pending_back p f))

-- ---- sets

pendings_plain : (ps : List Pending) → AllByRecursion IsPending ps → PlainItems (items_of (map pending_tree ps))
pendings_plain [] h = tt
pendings_plain (p ∷ ps) h = (pending_plain p h.0, pendings_plain ps h.1)

pendings_back : (ps : List Pending) → AllByRecursion IsPending ps
    → of_items (items_outline (items_of (map pending_tree ps))) ≡ Some (items_of (map pending_tree ps))
pendings_back [] h = refl
pendings_back (p ∷ ps) h = rw (pending_back p h.0, pendings_back ps h.1) refl

pendings_depth : (p : Pending) (ps : List Pending) → tr.items_depth (items_outline (items_of (map pending_tree (p ∷ ps)))) ≡ 2
pendings_depth p [] = rw (pending_depth p) refl
pendings_depth p (q ∷ ps) = rw (pending_depth p, pendings_depth q ps) refl

set_plain : (s : PendingSet) → IsSet s → Plain (set_tree s)
set_plain s f = (
  key (codes "attempt") refl,
  small _ f.attempt,
  (
    key (codes "commits") refl,
    pendings_plain s.commits f.commits,
    (
      key (codes "job") refl,
      IsUtf8-from_is_utf8 s.job f.job,
      (
        key (codes "kind") refl,
        key (codes "pendingset") refl,
        (
          key (codes "task") refl,
          small _ f.task,
          (key (codes "version") refl, lit< tt, tt),
        ),
      ),
    ),
  ),
)

set_depth : (s : PendingSet) (commits : List Pending) → s.commits ≡ commits → tr.depth (outline (set_tree s)) ≤ max_depth
set_depth s [] e = rw e (lit≤ tt)
set_depth s (p ∷ ps) e = rw (e, pendings_depth p ps) (lit≤ tt)

set_back : (s : PendingSet) → IsSet s → of_json (outline (set_tree s)) ≡ Some (set_tree s)
set_back s f = rw (
  number_of-decimal s.attempt (small _ f.attempt),
  pendings_back s.commits f.commits,
  number_of-decimal s.task
      (small _ f.task),
  number_of-decimal 1 (lit< tt),
) refl

pub set_text : (s : PendingSet) → IsSet s → set_of (compact_text (set_tree s)) ≡ Ok s
set_text s f = set_only _ s f (printed_is_read (set_tree s) (set_plain s f) (set_depth s s.commits refl) (set_back s f))

-- ---- `_SUCCESS`

committer_plain : (c : Committer) → IsUtf8 (committer_word c)
committer_plain c = key (committer_word c) (elim c as (λ c. are_ascii (committer_word c) ≡ true) [ Magic ↦ refl | _ ↦ refl ])

-- The last members of `_SUCCESS`.
stamp_plain : (stamp : Option ℕ) → IsStamp stamp → PlainMembers (with_stamp stamp (member (codes "version") (whole 1) no_members))
stamp_plain None h = (key (codes "version") refl, lit< tt, tt)
stamp_plain (Some n) h = (key (codes "stamp") refl, h, (key (codes "version") refl, lit< tt, tt))

mark_plain : (m : SuccessMark) → IsMark m → Plain (success_tree m)
mark_plain m f = (
  key (codes "committer") refl,
  committer_plain m.committer,
  (
    key (codes "files") refl,
    texts_plain m.files f.files,
    (
      key (codes "job") refl,
      IsUtf8-from_is_utf8 m.job f.job,
      (key (codes "kind") refl, key (codes "success") refl, stamp_plain m.stamp f.stamp),
    ),
  ),
)

mark_depth : (m : SuccessMark) (stamp : Option ℕ) → m.stamp ≡ stamp → tr.depth (outline (success_tree m)) ≤ max_depth
mark_depth m None e = rw (e, texts_depth m.files) (lit≤ tt)
mark_depth m (Some n) e = rw (e, texts_depth m.files) (lit≤ tt)

mark_back : (m : SuccessMark) (stamp : Option ℕ) → m.stamp ≡ stamp → IsStamp stamp
    → of_json (outline (success_tree m)) ≡ Some (success_tree m)
mark_back m None e h = rw (e, texts_back m.files, number_of-decimal 1 (lit< tt)) refl
mark_back m (Some n) e h = rw (e, texts_back m.files, number_of-decimal n h, number_of-decimal 1 (lit< tt)) refl

pub success_text : (m : SuccessMark) → IsMark m → success_of (compact_text (success_tree m)) ≡ Ok m
success_text m f = success_only _ m (printed_is_read (success_tree m) (mark_plain m f) (mark_depth m m.stamp refl)
    (mark_back m m.stamp refl f.stamp))
