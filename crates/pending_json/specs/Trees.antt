-- The records as JSON. The members of each object are in the byte order of their names (Hadoop, S3A committer architecture).
use Rattle.pending_json.specs.Committers.{committer_word}
use Rattle.pending_json.specs.Pending.{Pending}
use Rattle.pending_json.specs.declared.records.PendingSet.{PendingSet}
use Rattle.pending_json.specs.declared.records.SuccessMark.{SuccessMark}
use Rattle.s3_types.specs.Tags.{Spelled}
use Rattle.serde_json.specs.Data.{Data, Items, Members, array, member, no_members, number, object, string, unsigned}
use Rattle.serde_json.specs.View.{items_of}
use Rattle.std.specs.Prelude.{Bool, List, None, Option, Some, codes, false, is_some, map, true, ℕ}

-- A whole number as JSON.
abbrev pub whole : ℕ → Data
whole n = number (unsigned n)

-- A list of whole numbers as JSON.
abbrev pub wholes : List ℕ → Items
wholes all = items_of (map whole all)

-- A list of strings as JSON.
abbrev pub texts : List (List ℕ) → Items
texts all = items_of (map string all)

-- The digits of a part's tag.
abbrev pub tag_digits : Spelled → List ℕ
tag_digits tag = tag.digits

-- The lengths of parts, if there are any, before other members.
abbrev pub with_sizes : Option (List ℕ) → Members → Members
with_sizes None others = others
with_sizes (Some sizes) others = member (codes "sizes") (array (wholes sizes)) others

-- The version of a pending upload's form: version 2 has the lengths of the parts.
abbrev pub version_of : Bool → ℕ
version_of false = 1
version_of true = 2

-- A pending upload as JSON, with these lengths of its parts, if there are any.
abbrev pub upload_tree : Pending → Option (List ℕ) → Data
upload_tree p sizes = object
    (member (codes "attempt") (whole p.attempt)
    (member (codes "bucket") (string p.bucket)
    (member (codes "destination") (string p.destination)
    (member (codes "etags") (array (texts (map tag_digits p.tags)))
    (member (codes "kind") (string (codes "pending"))
    (member (codes "length") (whole p.length)
    (with_sizes sizes
    (member (codes "task") (whole p.task)
    (member (codes "upload") (whole p.upload)
    (member (codes "version") (whole (version_of (is_some sizes))) no_members))))))))))

-- A pending upload as JSON.
abbrev pub pending_tree : Pending → Data
pending_tree p = upload_tree p p.sizes

-- A task's set of pending uploads as JSON.
abbrev pub set_tree : PendingSet → Data
set_tree s = object
    (member (codes "attempt") (whole s.attempt)
    (member (codes "commits") (array (items_of (map pending_tree s.commits)))
    (member (codes "job") (string s.job)
    (member (codes "kind") (string (codes "pendingset"))
    (member (codes "task") (whole s.task)
    (member (codes "version") (whole 1) no_members))))))

-- The stamp, if there is one, before other members.
abbrev pub with_stamp : Option ℕ → Members → Members
with_stamp None others = others
with_stamp (Some stamp) others = member (codes "stamp") (whole stamp) others

-- The contents of `_SUCCESS` as JSON, with this stamp, if there is one.
abbrev pub mark_tree : SuccessMark → Option ℕ → Data
mark_tree m stamp = object
    (member (codes "committer") (string (committer_word m.committer))
    (member (codes "files") (array (texts m.files))
    (member (codes "job") (string m.job)
    (member (codes "kind") (string (codes "success"))
    (with_stamp stamp
    (member (codes "version") (whole 1) no_members))))))

-- The contents of `_SUCCESS` as JSON.
abbrev pub success_tree : SuccessMark → Data
success_tree m = mark_tree m m.stamp
