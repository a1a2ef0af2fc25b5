-- Requests on the objects of one bucket, and their effect there.
use Rattle.s3_types.specs.Answer.{copied, copy_answer, found, head, without}
use Rattle.s3_types.specs.Pages.{listed, page}
use Rattle.s3_types.specs.Store.{BucketContent, Objects, Scene}
use Rattle.s3_types.specs.Tags.{plain_tag}
use Rattle.s3_types.specs.declared.reply.Refusal.TheVariants.{TooManyKeys}
use Rattle.s3_types.specs.declared.reply.Reply.{Reply}
use Rattle.s3_types.specs.declared.reply.Reply.TheVariants.{Deleted, Refused, Stored}
use Rattle.s3_types.specs.declared.request.Request.{Request}
use Rattle.s3_types.specs.declared.request.Request.TheVariants.{CopyObject, DeleteObject, DeleteObjects, GetObject, HeadObject, ListPage}
use Rattle.s3_types.specs.declared.request.Request.TheVariants.{PutObject}
use Rattle.std.specs.Prelude.{Bool, List, None, Option, Some, cond, false, length, nat_lt, true, ℕ}
use Rattle.std.specs.FinMap as fin

-- A request on the objects of a bucket.
pub data Ask : Type 0 where
  -- Whether the object at a key exists.
  Head : (key : List ℕ) → Ask
  -- The object at a key.
  Get : (key : List ℕ) → Ask
  -- The first `limit` entries below a prefix, after a text.
  Page : (prefix : List ℕ) → (delimited : Bool) → (behind : List ℕ) → (limit : ℕ) → Ask
  -- Puts an object with no header.
  Put : (key : List ℕ) → (bytes : List ℕ) → Ask
  Drop : (key : List ℕ) → Ask
  DropAll : (keys : List (List ℕ)) → Ask
  Copy : (source : List ℕ) → (target : List ℕ) → Ask

-- The request to a bucket for this ask.
abbrev pub request_of : List ℕ → Ask → Request
request_of b (Head k) = HeadObject b k
request_of b (Get k) = GetObject b k
request_of b (Page p d q n) = ListPage b p d q n
request_of b (Put k bytes) = PutObject b k bytes None
request_of b (Drop k) = DeleteObject b k
request_of b (DropAll ks) = DeleteObjects b ks
request_of b (Copy k q) = CopyObject b k q

-- True if the ask only reads.
abbrev pub is_look : Ask → Bool
is_look (Head k) = true
is_look (Get k) = true
is_look (Page p d q n) = true
is_look _ = false

-- The answer if the bucket has these objects.
abbrev pub reply_in : Objects → Ask → Reply
reply_in m (Head k) = head (fin.get m k)
reply_in m (Get k) = found (fin.get m k)
reply_in m (Page p d q n) = page n (listed p d q m)
reply_in m (Put k bytes) = Stored (plain_tag bytes)
reply_in m (Drop k) = Deleted
reply_in m (DropAll ks) = cond (nat_lt 1000 (length ks)) (Refused TooManyKeys) Deleted
reply_in m (Copy k q) = copy_answer (fin.get m k)

-- The objects after the ask.
abbrev pub edited : Ask → Objects → Objects
edited (Put k bytes) m = fin.insert m k (record { bytes = bytes; header = None })
edited (Drop k) m = fin.remove m k
edited (DropAll ks) m = cond (nat_lt 1000 (length ks)) m (without m ks)
edited (Copy k q) m = copied m q (fin.get m k)
edited _ m = m

-- The objects of a bucket, if it exists.
abbrev pub objects_of : Option BucketContent → Option Objects
objects_of None = None
objects_of (Some c) = Some c.objects

-- The objects of the bucket with this name, if it exists.
abbrev pub objects_at : Scene → List ℕ → Option Objects
objects_at s b = objects_of (fin.get s.content.buckets b)

-- The scene with these objects in this bucket, or unchanged if there is none.
abbrev pub with_objects_if : Option BucketContent → Scene → List ℕ → Objects → Scene
with_objects_if None s b m = s
with_objects_if (Some c) s b m = record {
  content = record {
    buckets = fin.insert s.content.buckets b
        (record { objects = m; uploads = c.uploads });
    next = s.content.next;
    minimum = s.content.minimum;
  };
  files = s.files;
}

-- The scene with these objects in the bucket with this name, or unchanged if there is none.
abbrev pub with_objects : Scene → List ℕ → Objects → Scene
with_objects s b m = with_objects_if (fin.get s.content.buckets b) s b m
