-- Which bucket a request names.
use Rattle.s3_types.specs.declared.request.Request.{Request}
use Rattle.s3_types.specs.declared.request.Request.TheVariants.{AbortUpload, CompleteUpload, CopyObject, CreateUpload, DeleteObject}
use Rattle.s3_types.specs.declared.request.Request.TheVariants.{DeleteObjects, GetObject, HeadObject, ListPage, ListParts, ListUploads}
use Rattle.s3_types.specs.declared.request.Request.TheVariants.{PutObject, UploadPart}
use Rattle.std.specs.Prelude.{List, None, Option, Some, ℕ}

-- The bucket that a request names. CreateBucket and requests to the cluster give None.
abbrev pub named : Request → Option (List ℕ)
named (PutObject n k bytes header) = Some n
named (GetObject n k) = Some n
named (HeadObject n k) = Some n
named (DeleteObject n k) = Some n
named (DeleteObjects n ks) = Some n
named (CopyObject n source target) = Some n
named (ListPage n p delimited after limit) = Some n
named (CreateUpload n k) = Some n
named (UploadPart n k id number bytes) = Some n
named (CompleteUpload n k id ns) = Some n
named (AbortUpload n k id) = Some n
named (ListParts n k id) = Some n
named (ListUploads n p after limit) = Some n
named _ = None
