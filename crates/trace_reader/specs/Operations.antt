-- The operations of a trace, by their names.
use Rattle.std.specs.Prelude.{List, [], ◌∷◌, ℕ, Bool, not, ◌&&◌, Option, Some, None, codes, cond, is_none, is_some}
use Rattle.std.specs.List.{list_any}
use Rattle.std.specs.Str.{bytes_eq}
use Rattle.trace_reader.specs.declared.operation.Operation.{Operation}
use Rattle.trace_reader.specs.declared.operation.Operation.TheVariants as op
use Rattle.trace_reader.specs.declared.stage.TraceStage.{TraceStage}

-- The names of the operations that change no object's bytes: requests, in the words of the Amazon S3 API Reference and of the cluster's
-- file system; other requests that a recording may have; and the lines of a trace that are about no request.
abbrev pub others : List (List ℕ)
others =
    codes "Event" ∷ codes "End"
    ∷ codes "CreateBucket" ∷ codes "GetObject" ∷ codes "HeadObject" ∷ codes "ListObjectsV2"
    ∷ codes "CreateMultipartUpload" ∷ codes "UploadPart" ∷ codes "AbortMultipartUpload" ∷ codes "ListParts" ∷ codes "ListMultipartUploads"
    ∷ codes "ClusterPut" ∷ codes "ClusterGet" ∷ codes "ClusterDelete" ∷ codes "ClusterRename" ∷ codes "ClusterList"
    ∷ codes "HeadBucket" ∷ codes "DeleteBucket" ∷ codes "ListBuckets" ∷ codes "ListObjects" ∷ codes "UploadPartCopy" ∷ codes "Other"
    ∷ []

-- The operations of which members are read, by their names.
abbrev pub named : List (List ℕ × Operation)
named =
    (codes "Job", op.Job)
    ∷ (codes "Attempt", op.Attempt)
    ∷ (codes "File", op.File)
    ∷ (codes "Object", op.Object)
    ∷ (codes "Commit", op.Commit)
    ∷ (codes "PutObject", op.PutObject)
    ∷ (codes "CopyObject", op.CopyObject)
    ∷ (codes "DeleteObject", op.DeleteObject)
    ∷ (codes "DeleteObjects", op.DeleteObjects)
    ∷ (codes "CompleteMultipartUpload", op.CompleteMultipartUpload)
    ∷ []

-- The operation with a name in this table, `Other` for a name in `others`, and else None.
abbrev pub found_in : List (List ℕ × Operation) → List ℕ → Option Operation
found_in [] name = cond (list_any (bytes_eq name) others) (Some op.Other) None
found_in (o ∷ os) name = cond (bytes_eq name o.0) (Some o.1) (found_in os name)

-- The operation of a name.
abbrev pub operation_of : List ℕ → Option Operation
operation_of name = found_in named name

-- A line of this operation may come at this stage.
abbrev pub may_come : TraceStage → Operation → Bool
may_come stage op.Job = is_none stage.tasks
may_come stage op.Attempt = is_some stage.tasks && not stage.running
may_come stage op.File = is_some stage.tasks && (stage.attempted && not stage.running)
may_come stage op.Object = is_some stage.tasks && not stage.running
may_come stage _ = is_some stage.tasks
