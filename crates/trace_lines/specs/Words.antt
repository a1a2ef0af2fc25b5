-- The words of a trace: operations and errors as the Amazon S3 API Reference names them, and the outcome of a send.
use Rattle.std.specs.Prelude.{List, codes, ℕ}
use Rattle.s3_types.specs.declared.request.Request.{Request}
use Rattle.s3_types.specs.declared.request.Request.TheVariants.{MakeBucket, PutObject, GetObject, HeadObject, DeleteObject, DeleteObjects}
use Rattle.s3_types.specs.declared.request.Request.TheVariants.{CopyObject, ListPage, CreateUpload, UploadPart, CompleteUpload, AbortUpload}
use Rattle.s3_types.specs.declared.request.Request.TheVariants.{ListParts, ListUploads, ClusterPut, ClusterRename, ClusterGet}
use Rattle.s3_types.specs.declared.request.Request.TheVariants.{ClusterDelete, ClusterList}
use Rattle.s3_types.specs.declared.reply.Refusal.{Refusal}
use Rattle.s3_types.specs.declared.reply.Refusal.TheVariants.{NoSuchBucket, NoSuchKey, NoSuchUpload, MalformedList, InvalidPartOrder}
use Rattle.s3_types.specs.declared.reply.Refusal.TheVariants.{InvalidPart, EntityTooSmall, BadPartNumber, TooManyKeys, BucketExists}
use Rattle.s3_types.specs.declared.reply.Refusal.TheVariants.{BadName}
use Rattle.s3_types.specs.declared.reply.Refusal.TheVariants.{NoSuchFile}
use Rattle.s3_types.specs.declared.journal.Outcome.{Outcome}
use Rattle.s3_types.specs.declared.journal.Outcome.TheVariants.{Answered, Slow, RequestLost, ReplyLost}

-- The operation of a request. Requests to the cluster's file system have names of their own.
abbrev pub operation_name : Request → List ℕ
operation_name (MakeBucket name) = codes "CreateBucket"
operation_name (PutObject bucket key bytes header) = codes "PutObject"
operation_name (GetObject bucket key) = codes "GetObject"
operation_name (HeadObject bucket key) = codes "HeadObject"
operation_name (DeleteObject bucket key) = codes "DeleteObject"
operation_name (DeleteObjects bucket keys) = codes "DeleteObjects"
operation_name (CopyObject bucket source target) = codes "CopyObject"
operation_name (ListPage bucket prefix delimited after limit) = codes "ListObjectsV2"
operation_name (CreateUpload bucket key) = codes "CreateMultipartUpload"
operation_name (UploadPart bucket key upload n bytes) = codes "UploadPart"
operation_name (CompleteUpload bucket key upload parts) = codes "CompleteMultipartUpload"
operation_name (AbortUpload bucket key upload) = codes "AbortMultipartUpload"
operation_name (ListParts bucket key upload) = codes "ListParts"
operation_name (ListUploads bucket prefix after limit) = codes "ListMultipartUploads"
operation_name (ClusterPut path bytes) = codes "ClusterPut"
operation_name (ClusterRename source target) = codes "ClusterRename"
operation_name (ClusterGet path) = codes "ClusterGet"
operation_name (ClusterDelete path) = codes "ClusterDelete"
operation_name (ClusterList prefix) = codes "ClusterList"

-- The error code of a refusal. The cluster's own is NoSuchFile.
abbrev pub error_code : Refusal → List ℕ
error_code NoSuchBucket = codes "NoSuchBucket"
error_code NoSuchKey = codes "NoSuchKey"
error_code NoSuchUpload = codes "NoSuchUpload"
error_code MalformedList = codes "MalformedXML"
error_code InvalidPartOrder = codes "InvalidPartOrder"
error_code InvalidPart = codes "InvalidPart"
error_code EntityTooSmall = codes "EntityTooSmall"
error_code BadPartNumber = codes "InvalidArgument"
error_code TooManyKeys = codes "MalformedXML"
error_code BucketExists = codes "BucketAlreadyExists"
error_code BadName = codes "InvalidBucketName"
error_code NoSuchFile = codes "NoSuchFile"

-- The word for the outcome of a send: answered, answered with SlowDown, lost on the way to S3, or the request took effect but the reply
-- was lost.
abbrev pub outcome_word : Outcome → List ℕ
outcome_word (Answered reply) = codes "answered"
outcome_word Slow = codes "slow"
outcome_word RequestLost = codes "lost-before"
outcome_word ReplyLost = codes "lost-after"
