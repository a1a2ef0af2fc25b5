-- The tree that is read is the one tree of its value, and reading the tree of a value gives the value.
use Rattle.text_and_lists.proofs.Reading.{needed, parted, same_ok}
use Rattle.text_and_lists.specs.Reading.{◌>>=◌}
use Rattle.pending_json.proofs.Members.{Rising, inside, one_table, rising_by}
use Rattle.pending_json.proofs.Ordered.{ItemsOrdered, Ordered, field_ordered, tree_ordered}
use Rattle.pending_json.proofs.Values.{committer_again, field_ok, is_an_object, is_array, is_committer, is_kept, is_number, is_string}
use Rattle.pending_json.proofs.Values.{is_tags, is_texts, is_u32, is_word, of_kind_ok, sized_ok, sizes_again, sizes_ok, tags_again}
use Rattle.pending_json.proofs.Values.{texts_again, version_ok}
use Rattle.pending_json.specs.Committers.{committer_word}
use Rattle.pending_json.specs.Fields.{as_bucket, as_committer, as_key, as_tags, as_texts, as_u32, as_whole, as_word, field, is_sized}
use Rattle.pending_json.specs.Fields.{members_in, of_kind, of_kind_if, only_fields, sizes_in, version_in}
use Rattle.pending_json.specs.Pending.{Pending, are_sizes}
use Rattle.pending_json.specs.Reading.{field_names, is_field_of, parsed, pending_in, pending_of, pending_table, pendings_in, set_in, set_of}
use Rattle.pending_json.specs.Reading.{success_in, success_of, tree_read}
use Rattle.pending_json.specs.Records.{IsPending, IsSet, Spell}
use Rattle.pending_json.specs.Trees.{pending_tree, set_tree, success_tree, tag_digits, texts, version_of, whole, wholes, with_stamp}
use Rattle.pending_json.specs.declared.fault.RecordFault.{RecordFault}
use Rattle.pending_json.specs.declared.fault.RecordFault.TheVariants.{NotJson}
use Rattle.pending_json.specs.declared.records.PendingSet.{PendingSet}
use Rattle.pending_json.specs.declared.records.SuccessMark.{SuccessMark}
use Rattle.s3_types.specs.Names.{is_bucket, is_key}
use Rattle.serde_json.specs.Data.{Data, Items, Members, array, item, member, no_items, no_members, object, string}
use Rattle.serde_json.specs.Find.{as_array, as_object, as_str, get, get_member}
use Rattle.serde_json.specs.View.{items_of}
use Rattle.std.proofs.Common.{Err, List, None, Ok, Option, Result, Some, ap, ap₂, codes, is_some, length, map, option_map, refl, subst, sym}
use Rattle.std.proofs.Common.{true, ℕ, [], ◌^◌, ◌∙◌, ◌∷◌, ◌≡◌}
use Rattle.std.proofs.lemmas.Bool.{lt-ltb}
use Rattle.std.specs.List.{AllByRecursion}
use Rattle.pending_json.specs.declared.table.Table.TheVariants as tables

-- A field of an object.
at : (name : List ℕ) (d : Data) (ms : Members) (v w : Data) → d ≡ object ms → get name d ≡ Some v → v ≡ w → get_member name ms ≡ Some w
at name d ms v w is h same = ap (get name) (sym is) ∙ h ∙ ap Some same

-- ---- pending uploads

-- The members of an upload with these lengths of its parts.
abbrev uploaded : Pending → Option (List ℕ) → Members
uploaded p sizes = inside (pending_tree (record p { sizes = sizes }))

pending_members : (p : Pending) (sizes : Option (List ℕ)) → p.sizes ≡ sizes → (ms : Members) → Rising ms
    → only_fields (is_field_of (pending_table (is_some sizes))) ms ≡ Ok tt
    → get_member (codes "attempt") ms ≡ Some (whole p.attempt)
    → get_member (codes "bucket") ms ≡ Some (string p.bucket)
    → get_member (codes "destination") ms ≡ Some (string p.destination)
    → get_member (codes "etags") ms ≡ Some (array (texts (map tag_digits p.tags)))
    → get_member (codes "kind") ms ≡ Some (string (codes "pending"))
    → get_member (codes "length") ms ≡ Some (whole p.length)
    → ((ns : List ℕ) → sizes ≡ Some ns → get_member (codes "sizes") ms ≡ Some (array (wholes ns)))
    → get_member (codes "task") ms ≡ Some (whole p.task)
    → get_member (codes "upload") ms ≡ Some (whole p.upload)
    → get_member (codes "version") ms ≡ Some (whole (version_of (is_some sizes)))
    → object ms ≡ pending_tree p
pending_members p None is ms rising only attempt bucket destination tags kind long sizes task upload version = rw is
    (ap object (one_table (field_names tables.Pending) ms (uploaded p None) rising (rising_by (uploaded p None) (refl {a = true})) only
    (refl {a = Ok tt})
    (attempt, (bucket, (destination, (tags, (kind, (long, (task, (upload, (version, tt)))))))))))
pending_members p (Some ns) is ms rising only attempt bucket destination tags kind long sizes task upload version = rw is
    (ap object (one_table (field_names tables.SizedPending) ms (uploaded p (Some ns)) rising
    (rising_by (uploaded p (Some ns)) (refl {a = true})) only (refl {a = Ok tt})
    (attempt, (bucket, (destination, (tags, (kind, (long, (sizes ns refl, (task, (upload, (version, tt))))))))))))

pub pending_is : (d : Data) (p : Pending) → Ordered d → pending_in d ≡ Ok p → d ≡ pending_tree p
unfolding pending_in
pending_is d p o e =
    let ms = parted (members_in d) _ p e in
    let sized = parted (is_sized d) _ p ms.next in
    let attempt = parted (field as_u32 (codes "attempt") d) _ p sized.next in
    let bucket = parted (field as_bucket (codes "bucket") d) _ p attempt.next in
    let destination = parted (field as_key (codes "destination") d) _ p bucket.next in
    let tags = parted (field as_tags (codes "etags") d) _ p destination.next in
    let kind = parted (field (as_word (codes "pending")) (codes "kind") d) _ p tags.next in
    let long = parted (field as_whole (codes "length") d) _ p kind.next in
    let sizes = parted (sizes_in sized.value (length tags.value) long.value d) _ p long.next in
    let task = parted (field as_u32 (codes "task") d) _ p sizes.next in
    let upload = parted (field as_whole (codes "upload") d) _ p task.next in
    let rest = parted (only_fields (is_field_of (pending_table sized.value)) ms.value) _ p upload.next in
    let attempt_at = field_ok as_u32 (codes "attempt") d attempt.value attempt.first in
    let bucket_at = field_ok as_bucket (codes "bucket") d bucket.value bucket.first in
    let destination_at = field_ok as_key (codes "destination") d destination.value destination.first in
    let tags_at = field_ok as_tags (codes "etags") d tags.value tags.first in
    let kind_at = field_ok (as_word (codes "pending")) (codes "kind") d kind.value kind.first in
    let long_at = field_ok as_whole (codes "length") d long.value long.first in
    let sizes_at = sizes_ok sized.value (length tags.value) long.value d sizes.value sizes.first in
    let task_at = field_ok as_u32 (codes "task") d task.value task.first in
    let upload_at = field_ok as_whole (codes "upload") d upload.value upload.first in
    let is : d ≡ object ms.value = is_an_object d ms.value (of_kind_ok [] (as_object d) ms.value ms.first) in
    let made : Pending = record {
      task = task.value;
      attempt = attempt.value;
      bucket = bucket.value;
      destination = destination.value;
      upload = upload.value;
      length = long.value;
      tags = tags.value;
      sizes = sizes.value;
    } in
    let rising : Rising ms.value = (subst Ordered is o).0 in
    let only = subst (λ b. only_fields (is_field_of (pending_table b)) ms.value ≡ Ok tt) (sym sizes_at.0) rest.first in
    let same : object ms.value ≡ pending_tree made = pending_members made sizes.value refl ms.value rising only
    (at (codes "attempt") d ms.value _ (whole attempt.value) is attempt_at.1 (is_u32 attempt_at.0 attempt.value attempt_at.2).0)
    (at (codes "bucket") d ms.value _ (string bucket.value) is bucket_at.1 (is_kept is_bucket bucket_at.0 bucket.value bucket_at.2).0)
    (at (codes "destination") d ms.value _ (string destination.value) is destination_at.1
    (is_kept is_key destination_at.0 destination.value destination_at.2).0)
    (at (codes "etags") d ms.value _ (array (texts (map tag_digits tags.value))) is tags_at.1 (is_tags tags_at.0 tags.value tags_at.2).0)
    (at (codes "kind") d ms.value _ (string (codes "pending")) is kind_at.1 (is_word (codes "pending") kind_at.0 kind_at.2))
    (at (codes "length") d ms.value _ (whole long.value) is long_at.1 (is_number long_at.0 long.value long_at.2))
    (λ ns h. ap (get (codes "sizes")) (sym is) ∙ sizes_at.1 ns h)
    (at (codes "task") d ms.value _ (whole task.value) is task_at.1 (is_u32 task_at.0 task.value task_at.2).0)
    (at (codes "upload") d ms.value _ (whole upload.value) is upload_at.1 (is_number upload_at.0 upload.value upload_at.2))
    (at (codes "version") d ms.value _ (whole (version_of (is_some sizes.value))) is (sized_ok d sized.value sized.first)
    (ap (λ b. whole (version_of b)) (sym sizes_at.0))) in
    subst (λ (q : Pending). d ≡ pending_tree q) (same_ok made p rest.next) (is ∙ same)

pending_again_at : (p : Pending) (sizes : Option (List ℕ)) → p.sizes ≡ sizes → are_sizes sizes p.tags p.length ≡ true → IsPending p
    → pending_in (pending_tree p) ≡ Ok p
unfolding pending_in is_sized
pending_again_at p None is told f = rw (
  is,
  lt-ltb p.attempt (2 ^ 32) f.attempt,
  f.bucket,
  f.destination,
  tags_again p.tags f.tags,
  lt-ltb
      p.task (2 ^ 32) f.task,
) refl
pending_again_at p (Some ns) is told f = rw (
  is,
  lt-ltb p.attempt (2 ^ 32) f.attempt,
  f.bucket,
  f.destination,
  tags_again p.tags f.tags,
  sizes_again ns (length p.tags) p.length told,
  lt-ltb p.task (2 ^ 32) f.task,
) refl

pub pending_again : (p : Pending) → IsPending p → pending_in (pending_tree p) ≡ Ok p
pending_again p f = pending_again_at p p.sizes refl f.sizes f

-- ---- sets

pendings_are_at : (d : Data) (ds : Items) (ps : List Pending) → (r : Result Pending RecordFault) → pending_in d ≡ r
    → (rs : Result (List Pending) RecordFault) → (r >>= λ p. rs >>= λ others. Ok (p ∷ others)) ≡ Ok ps
    → ((p : Pending) → r ≡ Ok p → d ≡ pending_tree p) → ((others : List Pending) → rs ≡ Ok others → ds ≡ items_of (map pending_tree others))
    → item d ds ≡ items_of (map pending_tree ps)
pendings_are_at d ds ps (Err fault) is rs e here later = absurd cc
pendings_are_at d ds ps (Ok p) is (Err fault) e here later = absurd cc
pendings_are_at d ds ps (Ok p) is (Ok others) e here later =
    let same : p ∷ others ≡ ps = cc in
    subst (λ (x : List Pending). item d ds ≡ items_of (map pending_tree x)) same (ap₂ item (here p refl) (later others refl))

pub pendings_are : (ds : Items) (ps : List Pending) → ItemsOrdered ds → pendings_in ds ≡ Ok ps → ds ≡ items_of (map pending_tree ps)
unfolding pendings_in
pendings_are no_items ps o e = let same : [] ≡ ps = cc in subst (λ (x : List Pending). no_items ≡ items_of (map pending_tree x)) same refl
pendings_are (item d ds) ps o e = pendings_are_at d ds ps (pending_in d) refl (pendings_in ds) e (λ p h. pending_is d p o.0 h)
    (λ others h. pendings_are ds others o.1 h)

array_ordered : (v : Data) (ds : Items) → v ≡ array ds → Ordered v → ItemsOrdered ds
array_ordered v ds is o = subst Ordered is o

pub set_is : (d : Data) (s : PendingSet) → Ordered d → set_in d ≡ Ok s → d ≡ set_tree s
unfolding set_in
set_is d s o e =
    let ms = parted (members_in d) _ s e in
    let version = parted (version_in d) _ s ms.next in
    let attempt = parted (field as_u32 (codes "attempt") d) _ s version.next in
    let list = parted (field as_array (codes "commits") d) _ s attempt.next in
    let commits = parted (pendings_in list.value) _ s list.next in
    let job = parted (field as_str (codes "job") d) _ s commits.next in
    let kind = parted (field (as_word (codes "pendingset")) (codes "kind") d) _ s job.next in
    let task = parted (field as_u32 (codes "task") d) _ s kind.next in
    let rest = parted (only_fields (is_field_of tables.Set) ms.value) _ s task.next in
    let attempt_at = field_ok as_u32 (codes "attempt") d attempt.value attempt.first in
    let list_at = field_ok as_array (codes "commits") d list.value list.first in
    let job_at = field_ok as_str (codes "job") d job.value job.first in
    let kind_at = field_ok (as_word (codes "pendingset")) (codes "kind") d kind.value kind.first in
    let task_at = field_ok as_u32 (codes "task") d task.value task.first in
    let is : d ≡ object ms.value = is_an_object d ms.value (of_kind_ok [] (as_object d) ms.value ms.first) in
    let made : PendingSet = record { job = job.value; task = task.value; attempt = attempt.value; commits = commits.value } in
    let rising : Rising ms.value = (subst Ordered is o).0 in
    let items : list_at.0 ≡ array list.value = is_array list_at.0 list.value list_at.2 in
    let ordered : ItemsOrdered list.value = array_ordered list_at.0 list.value items
    (field_ordered (codes "commits") d list_at.0 o list_at.1) in
    let same : ms.value ≡ inside (set_tree made) = one_table (field_names tables.Set) ms.value (inside (set_tree made)) rising
    (rising_by (inside (set_tree made)) (refl {a = true})) rest.first (refl {a = Ok tt}) (
      at (codes "attempt") d ms.value _ (whole attempt.value) is attempt_at.1 (is_u32 attempt_at.0 attempt.value attempt_at.2).0,
      (
        at (codes "commits") d ms.value _ (array (items_of (map pending_tree commits.value))) is list_at.1
            (items ∙ ap array (pendings_are list.value commits.value ordered commits.first)),
        (
          at (codes "job") d ms.value _ (string job.value) is job_at.1 (is_string job_at.0 job.value job_at.2),
          (
            at (codes "kind") d ms.value _ (string (codes "pendingset")) is kind_at.1 (is_word (codes "pendingset") kind_at.0 kind_at.2),
            (
              at (codes "task") d ms.value _ (whole task.value) is task_at.1 (is_u32 task_at.0 task.value task_at.2).0,
              (at (codes "version") d ms.value _ (whole 1) is (version_ok d version.first) refl, tt),
            ),
          ),
        ),
      ),
    ) in
    subst (λ (q : PendingSet). d ≡ set_tree q) (same_ok made s rest.next) (is ∙ ap object same)

pendings_again : (ps : List Pending) → AllByRecursion IsPending ps → pendings_in (items_of (map pending_tree ps)) ≡ Ok ps
unfolding pendings_in
pendings_again [] h = refl
pendings_again (p ∷ ps) h = rw (pending_again p h.0, pendings_again ps h.1) refl

pub set_again : (s : PendingSet) → IsSet s → set_in (set_tree s) ≡ Ok s
unfolding set_in version_in
set_again s f = rw (lt-ltb s.attempt (2 ^ 32) f.attempt, pendings_again s.commits f.commits, lt-ltb s.task (2 ^ 32) f.task) refl

-- ---- `_SUCCESS`

-- A stamp, if there is one.
stamp_at : (o : Option Data) (stamp : Option ℕ) → of_kind_if as_whole (codes "stamp") o ≡ Ok stamp → o ≡ option_map whole stamp
stamp_at None stamp e = let same : None ≡ stamp = cc in ap (option_map whole) same
stamp_at (Some v) stamp e =
    let p = parted (of_kind (codes "stamp") (as_whole v)) _ stamp e in
    let same : Some p.value ≡ stamp = cc in
    ap Some (is_number v p.value (of_kind_ok (codes "stamp") (as_whole v) p.value p.first)) ∙ ap (option_map whole) same

abbrev marked : SuccessMark → Option ℕ → Members
marked m stamp = member (codes "committer") (string (committer_word m.committer))
    (member (codes "files") (array (texts m.files))
    (member (codes "job") (string m.job)
    (member (codes "kind") (string (codes "success"))
    (with_stamp stamp (member (codes "version") (whole 1) no_members)))))

mark_members : (m : SuccessMark) (stamp : Option ℕ) → m.stamp ≡ stamp → (ms : Members) → Rising ms
    → only_fields (is_field_of tables.Success) ms ≡ Ok tt
    → get_member (codes "committer") ms ≡ Some (string (committer_word m.committer))
    → get_member (codes "files") ms ≡ Some (array (texts m.files))
    → get_member (codes "job") ms ≡ Some (string m.job)
    → get_member (codes "kind") ms ≡ Some (string (codes "success"))
    → get_member (codes "stamp") ms ≡ option_map whole stamp
    → get_member (codes "version") ms ≡ Some (whole 1)
    → object ms ≡ success_tree m
mark_members m None is ms rising only committer files job kind at_stamp version = rw is
    (ap object (one_table (field_names tables.Success) ms (marked m None) rising (rising_by (marked m None) (refl {a = true})) only
    (refl {a = Ok tt}) (committer, (files, (job, (kind, (at_stamp, (version, tt))))))))
mark_members m (Some n) is ms rising only committer files job kind at_stamp version = rw is
    (ap object (one_table (field_names tables.Success) ms (marked m (Some n)) rising (rising_by (marked m (Some n)) (refl {a = true})) only
    (refl {a = Ok tt}) (committer, (files, (job, (kind, (at_stamp, (version, tt))))))))

pub success_is : (d : Data) (m : SuccessMark) → Ordered d → success_in d ≡ Ok m → d ≡ success_tree m
unfolding success_in
success_is d m o e =
    let ms = parted (members_in d) _ m e in
    let version = parted (version_in d) _ m ms.next in
    let committer = parted (field as_committer (codes "committer") d) _ m version.next in
    let files = parted (field as_texts (codes "files") d) _ m committer.next in
    let job = parted (field as_str (codes "job") d) _ m files.next in
    let kind = parted (field (as_word (codes "success")) (codes "kind") d) _ m job.next in
    let stamp = parted (of_kind_if as_whole (codes "stamp") (get (codes "stamp") d)) _ m kind.next in
    let rest = parted (only_fields (is_field_of tables.Success) ms.value) _ m stamp.next in
    let committer_at = field_ok as_committer (codes "committer") d committer.value committer.first in
    let files_at = field_ok as_texts (codes "files") d files.value files.first in
    let job_at = field_ok as_str (codes "job") d job.value job.first in
    let kind_at = field_ok (as_word (codes "success")) (codes "kind") d kind.value kind.first in
    let is : d ≡ object ms.value = is_an_object d ms.value (of_kind_ok [] (as_object d) ms.value ms.first) in
    let made : SuccessMark = record { job = job.value; committer = committer.value; files = files.value; stamp = stamp.value } in
    let rising : Rising ms.value = (subst Ordered is o).0 in
    let same : object ms.value ≡ success_tree made = mark_members made stamp.value refl ms.value rising rest.first
    (at (codes "committer") d ms.value _ (string (committer_word committer.value)) is committer_at.1
    (is_committer committer_at.0 committer.value committer_at.2))
    (at (codes "files") d ms.value _ (array (texts files.value)) is files_at.1 (is_texts files_at.0 files.value files_at.2))
    (at (codes "job") d ms.value _ (string job.value) is job_at.1 (is_string job_at.0 job.value job_at.2))
    (at (codes "kind") d ms.value _ (string (codes "success")) is kind_at.1 (is_word (codes "success") kind_at.0 kind_at.2))
    (ap (get (codes "stamp")) (sym is) ∙ stamp_at (get (codes "stamp") d) stamp.value stamp.first)
    (at (codes "version") d ms.value _ (whole 1) is (version_ok d version.first) refl) in
    subst (λ (q : SuccessMark). d ≡ success_tree q) (same_ok made m rest.next) (is ∙ same)

success_again_at : (m : SuccessMark) (stamp : Option ℕ) → m.stamp ≡ stamp → success_in (success_tree m) ≡ Ok m
unfolding success_in version_in
success_again_at m None is = rw (is, committer_again m.committer, texts_again m.files) refl
success_again_at m (Some n) is = rw (is, committer_again m.committer, texts_again m.files) refl

pub success_again : (m : SuccessMark) → success_in (success_tree m) ≡ Ok m
success_again m = success_again_at m m.stamp refl

-- ---- bytes

-- The bytes spell a value that is read.
spelled : {A : Type 0} (reads : Data → Result A RecordFault) (tree : A → Data)
    → ((d : Data) (x : A) → Ordered d → reads d ≡ Ok x → d ≡ tree x)
    → (bytes : List ℕ) (x : A) → (parsed (tree_read bytes) >>= reads) ≡ Ok x → Spell bytes (tree x)
spelled reads tree is bytes x e =
    let p = parted (parsed (tree_read bytes)) reads x e in
    let read : tree_read bytes ≡ Some p.value = needed _ NotJson _ p.first in
    read ∙ ap Some (is p.value x (tree_ordered bytes p.value read) p.next)

pub pending_found : (bytes : List ℕ) (p : Pending) → pending_of bytes ≡ Ok p → Spell bytes (pending_tree p)
unfolding pending_of
pending_found bytes p e = spelled pending_in pending_tree pending_is bytes p e

pub set_found : (bytes : List ℕ) (s : PendingSet) → set_of bytes ≡ Ok s → Spell bytes (set_tree s)
unfolding set_of
set_found bytes s e = spelled set_in set_tree set_is bytes s e

pub success_found : (bytes : List ℕ) (m : SuccessMark) → success_of bytes ≡ Ok m → Spell bytes (success_tree m)
unfolding success_of
success_found bytes m e = spelled success_in success_tree success_is bytes m e

-- A value that the bytes spell is read.
pub pending_only : (bytes : List ℕ) (p : Pending) → IsPending p → Spell bytes (pending_tree p) → pending_of bytes ≡ Ok p
unfolding pending_of
pending_only bytes p f e = rw e (pending_again p f)

pub set_only : (bytes : List ℕ) (s : PendingSet) → IsSet s → Spell bytes (set_tree s) → set_of bytes ≡ Ok s
unfolding set_of
set_only bytes s f e = rw e (set_again s f)

pub success_only : (bytes : List ℕ) (m : SuccessMark) → Spell bytes (success_tree m) → success_of bytes ≡ Ok m
unfolding success_of
success_only bytes m e = rw e (success_again m)
