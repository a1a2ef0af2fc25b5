-- The next upload's id after a request.
use Rattle.s3_types.specs.Answer.{apply_at, apply_store, draws, made}
use Rattle.s3_types.specs.Names.{is_bucket}
use Rattle.s3_types.specs.Store.{BucketContent, Content}
use Rattle.s3_types.specs.declared.request.Request.{Request}
use Rattle.s3_types.specs.declared.request.Request.TheVariants.{AbortUpload, ClusterDelete, ClusterGet, ClusterList, ClusterPut}
use Rattle.s3_types.specs.declared.request.Request.TheVariants.{ClusterRename, CompleteUpload, CopyObject, CreateUpload, DeleteObject}
use Rattle.s3_types.specs.declared.request.Request.TheVariants.{DeleteObjects, GetObject, HeadObject, ListPage, ListParts, ListUploads}
use Rattle.s3_types.specs.declared.request.Request.TheVariants.{MakeBucket, PutObject, UploadPart}
use Rattle.std.proofs.Common.{Bool, List, None, Option, Some, arith, cond, false, true, ℕ, [], ◌+◌, ◌≤◌}
use Rattle.std.specs.FinMap as fin

one_more : (b : Bool) (n : ℕ) → cond b (n + 1) n ≤ n + 1
one_more true n = omega arith
one_more false n = omega arith

next_at : (o : Option BucketContent) (c : Content) (r : Request) → (apply_at o c r).next ≤ c.next + 1
next_at None c r = omega arith
next_at (Some b) c r = one_more (draws r) c.next

either : (b : Bool) (x y : Content) (n : ℕ) → x.next ≤ n → y.next ≤ n → (cond b x y).next ≤ n
either true x y n h g = h
either false x y n h g = g

next_made : (c : Content) (n : List ℕ) (o : Option BucketContent) → (made c n o).next ≤ c.next + 1
next_made c n None = either (is_bucket n) _ c (c.next + 1) (omega arith) (omega arith)
next_made c n (Some b) = omega arith

-- A request uses at most one id.
pub next_store : (c : Content) (r : Request) → (apply_store c r).next ≤ c.next + 1
next_store c (MakeBucket n) = next_made c n (fin.get c.buckets n)
next_store c (PutObject n k b h) = next_at (fin.get c.buckets n) c (PutObject n k b h)
next_store c (GetObject n k) = next_at (fin.get c.buckets n) c (GetObject n k)
next_store c (HeadObject n k) = next_at (fin.get c.buckets n) c (HeadObject n k)
next_store c (DeleteObject n k) = next_at (fin.get c.buckets n) c (DeleteObject n k)
next_store c (DeleteObjects n ks) = next_at (fin.get c.buckets n) c (DeleteObjects n ks)
next_store c (CopyObject n a b) = next_at (fin.get c.buckets n) c (CopyObject n a b)
next_store c (ListPage n p d a l) = next_at (fin.get c.buckets n) c (ListPage n p d a l)
next_store c (CreateUpload n k) = next_at (fin.get c.buckets n) c (CreateUpload n k)
next_store c (UploadPart n k i m b) = next_at (fin.get c.buckets n) c (UploadPart n k i m b)
next_store c (CompleteUpload n k i ps) = next_at (fin.get c.buckets n) c (CompleteUpload n k i ps)
next_store c (AbortUpload n k i) = next_at (fin.get c.buckets n) c (AbortUpload n k i)
next_store c (ListParts n k i) = next_at (fin.get c.buckets n) c (ListParts n k i)
next_store c (ListUploads n p a l) = next_at (fin.get c.buckets n) c (ListUploads n p a l)
next_store c (ClusterPut p b) = next_at (fin.get c.buckets []) c (ClusterPut p b)
next_store c (ClusterRename a b) = next_at (fin.get c.buckets []) c (ClusterRename a b)
next_store c (ClusterGet p) = next_at (fin.get c.buckets []) c (ClusterGet p)
next_store c (ClusterDelete p) = next_at (fin.get c.buckets []) c (ClusterDelete p)
next_store c (ClusterList p) = next_at (fin.get c.buckets []) c (ClusterList p)
