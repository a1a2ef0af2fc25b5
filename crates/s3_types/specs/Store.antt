-- What the store and the cluster file system beside it hold.
use Rattle.text_and_lists.specs.Order.{text_cmp}
use Rattle.s3_types.specs.declared.object.Object.{Object}
use Rattle.std.specs.Ordering.{nat_cmp}
use Rattle.std.specs.Prelude.{List, ℕ}
use Rattle.std.specs.FinMap as map

-- Objects by their keys.
abbrev pub Objects : Type 0
Objects = map.FinMap text_cmp Object

-- The bytes of an upload's parts by their numbers.
abbrev pub Parts : Type 0
Parts = map.FinMap nat_cmp (List ℕ)

-- A multipart upload that is not completed or aborted.
pub record Upload : Type 0 where
  pub key : List ℕ
  pub parts : Parts

-- Live uploads by their ids.
abbrev pub Uploads : Type 0
Uploads = map.FinMap nat_cmp Upload

-- The content of a bucket: its objects and its live uploads.
pub record BucketContent : Type 0 where
  pub objects : Objects
  pub uploads : Uploads

-- Buckets by their names.
abbrev pub Buckets : Type 0
Buckets = map.FinMap text_cmp BucketContent

-- The content of a store: its buckets, the id that the next upload gets, and the least size in bytes of a part that is not the last.
pub record Content : Type 0 where
  pub buckets : Buckets
  pub next : ℕ
  pub minimum : ℕ

-- The cluster's files by their paths.
abbrev pub Files : Type 0
Files = map.FinMap text_cmp (List ℕ)

-- The store and the cluster.
pub record Scene : Type 0 where
  pub content : Content
  pub files : Files

-- A new bucket.
abbrev pub new_bucket : BucketContent
new_bucket = record { objects = map.empty; uploads = map.empty }

-- A new store: it has no bucket, and the first upload gets the id 1.
abbrev pub new_content : ℕ → Content
new_content minimum = record { buckets = map.empty; next = 1; minimum = minimum }

-- The scene at the start of a run: this store, and an empty cluster.
abbrev pub opening : Content → Scene
opening content = record { content = content; files = map.empty }
