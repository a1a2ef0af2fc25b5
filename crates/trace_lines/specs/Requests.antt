-- The line of one send of a request.
use Rattle.s3_types.specs.Spelling.{actor_text, tag_text}
use Rattle.s3_types.specs.Tags.{Spelled, plain_tag}
use Rattle.s3_types.specs.declared.journal.Entry.{Entry}
use Rattle.s3_types.specs.declared.journal.Outcome.{Outcome}
use Rattle.s3_types.specs.declared.journal.Outcome.TheVariants.{Answered, ReplyLost}
use Rattle.s3_types.specs.declared.reply.Refusal.{Refusal}
use Rattle.s3_types.specs.declared.reply.Reply.{Reply}
use Rattle.s3_types.specs.declared.reply.Reply.TheVariants.{Page, Part, Refused, Stored, Upload, Uploads}
use Rattle.s3_types.specs.declared.request.NamedPart.{NamedPart}
use Rattle.s3_types.specs.declared.request.Request.{Request}
use Rattle.s3_types.specs.declared.request.Request.TheVariants.{AbortUpload, ClusterDelete, ClusterGet, ClusterList, ClusterPut}
use Rattle.s3_types.specs.declared.request.Request.TheVariants.{ClusterRename, CompleteUpload, CopyObject, CreateUpload, DeleteObject}
use Rattle.s3_types.specs.declared.request.Request.TheVariants.{DeleteObjects, GetObject, HeadObject, ListPage, ListParts, ListUploads}
use Rattle.s3_types.specs.declared.request.Request.TheVariants.{MakeBucket, PutObject, UploadPart}
use Rattle.s3_types.specs.declared.request.UploadRef.{UploadRef}
use Rattle.serde_json.specs.Data.{Data, array, boolean, string}
use Rattle.serde_json.specs.View.{items_of}
use Rattle.std.specs.Prelude.{Bool, IfSome, List, None, Option, Some, codes, cond, false, is_none, length, map, true, ℕ, [], ⊤, ◌&&◌, ◌++◌}
use Rattle.std.specs.Prelude.{◌∷◌, ◌≡◌}
use Rattle.trace_lines.specs.Lines.{Named, line, object_of, texts, whole}
use Rattle.trace_lines.specs.Words.{error_code, operation_name, outcome_word}

-- ---- the request

-- An object's bucket and key.
abbrev pub place : List ℕ → List ℕ → List Named
place bucket key = (codes "bucket", string bucket) ∷ (codes "key", string key) ∷ []

-- An upload's bucket, key and id.
abbrev pub upload_place : List ℕ → List ℕ → ℕ → List Named
upload_place bucket key upload = place bucket key ++ (codes "upload", whole upload) ∷ []

-- The ETag and the length of the bytes that a request sends; the ETag is their MD5.
abbrev pub payload : List ℕ → List Named
payload bytes = (codes "etag", string (tag_text (plain_tag bytes))) ∷ (codes "length", whole (length bytes)) ∷ []

-- The header of a magic marker, the length of the file to come.
abbrev pub magic_length : Option ℕ → List Named
magic_length None = []
magic_length (Some n) = (codes "magic_length", whole n) ∷ []

-- The delimiter of a listing that folds keys.
abbrev pub delimiter : Bool → List Named
delimiter false = []
delimiter true = (codes "delimiter", string (codes "/")) ∷ []

-- A part that a completion names.
abbrev pub part_object : NamedPart → Data
part_object part = object_of ((codes "etag", string (tag_text part.tag)) ∷ (codes "part", whole part.number) ∷ [])

-- The parts that a completion names.
abbrev pub part_objects : List NamedPart → Data
part_objects parts = array (items_of (map part_object parts))

-- The upload after which a listing goes on.
abbrev pub behind : Option UploadRef → List Named
behind None = []
behind (Some last) = (codes "after", string last.key) ∷ (codes "after_upload", whole last.upload) ∷ []

-- The members that describe a request.
abbrev pub asked : Request → List Named
asked (MakeBucket name) = (codes "bucket", string name) ∷ []
asked (PutObject bucket key bytes header) = place bucket key ++ payload bytes ++ magic_length header
asked (GetObject bucket key) = place bucket key
asked (HeadObject bucket key) = place bucket key
asked (DeleteObject bucket key) = place bucket key
asked (DeleteObjects bucket keys) = (codes "bucket", string bucket) ∷ (codes "keys", texts keys) ∷ []
asked (CopyObject bucket source target) = place bucket target ++ (codes "source", string source) ∷ []
asked (ListPage bucket prefix delimited after limit) =
    (codes "bucket", string bucket) ∷ (codes "prefix", string prefix) ∷ (codes "after", string after) ∷ (codes "max", whole limit)
    ∷ delimiter delimited
asked (CreateUpload bucket key) = place bucket key
asked (UploadPart bucket key upload n bytes) = upload_place bucket key upload ++ (codes "part", whole n) ∷ payload bytes
asked (CompleteUpload bucket key upload parts) =
    upload_place bucket key upload ++ (codes "parts", part_objects parts) ∷ []
asked (AbortUpload bucket key upload) = upload_place bucket key upload
asked (ListParts bucket key upload) = upload_place bucket key upload
asked (ListUploads bucket prefix after limit) =
    (codes "bucket", string bucket) ∷ (codes "prefix", string prefix) ∷ (codes "max", whole limit) ∷ behind after
asked (ClusterPut path bytes) = (codes "path", string path) ∷ (codes "length", whole (length bytes)) ∷ []
asked (ClusterRename source target) = (codes "source", string source) ∷ (codes "target", string target) ∷ []
asked (ClusterGet path) = (codes "path", string path) ∷ []
asked (ClusterDelete path) = (codes "path", string path) ∷ []
asked (ClusterList prefix) = (codes "prefix", string prefix) ∷ []

-- ---- the outcome

-- True if a send reached the store, or the cluster: it was answered, or its reply was lost.
abbrev pub has_reached : Outcome → Bool
has_reached (Answered reply) = true
has_reached ReplyLost = true
has_reached _ = false

-- The refusal in a reply, if it is one.
abbrev pub refusal_in : Reply → Option Refusal
refusal_in (Refused refusal) = Some refusal
refusal_in _ = None

-- True if a send reached the store, or the cluster, and the reply that S3 must give is no refusal.
abbrev pub took_effect : Outcome → Reply → Bool
took_effect outcome due = has_reached outcome && is_none (refusal_in due)

-- The error code of a refusal, if there is one.
abbrev pub error : Option Refusal → List Named
error None = []
error (Some refusal) = (codes "error", string (error_code refusal)) ∷ []

-- The error code of a send that reached the store and was refused, by the reply that S3 must give.
abbrev pub error_of : Outcome → Reply → List Named
error_of outcome due = cond (has_reached outcome) (error (refusal_in due)) []

-- The facts of a reply that a line repeats: how many entries were listed and whether more remain, or the id of a new upload.
abbrev pub told : Reply → List Named
told (Page entries more) = (codes "listed", whole (length entries)) ∷ (codes "more", boolean more) ∷ []
told (Uploads entries more) = (codes "listed", whole (length entries)) ∷ (codes "more", boolean more) ∷ []
told (Upload id) = (codes "upload", whole id) ∷ []
told _ = []

-- The facts that the sender received in a reply.
abbrev pub told_to : Outcome → List Named
told_to (Answered reply) = told reply
told_to _ = []

-- ---- the line

-- The number, the event, the actor, the operation and the outcome of a send.
abbrev pub send_members : ℕ → Entry → List Named
send_members n e =
    (codes "n", whole n)
    ∷ (codes "event", whole e.event)
    ∷ (codes "actor", string (actor_text e.actor))
    ∷ (codes "op", string (operation_name e.request))
    ∷ (codes "outcome", string (outcome_word e.outcome))
    ∷ []

-- The members of the line of the n-th send of a run; `due` is the reply that S3 must give.
abbrev pub request_members : ℕ → Entry → Reply → List Named
request_members n e due =
    send_members n e
    ++ (codes "effect", boolean (took_effect e.outcome due)) ∷ []
    ++ error_of e.outcome due
    ++ asked e.request
    ++ told_to e.outcome

-- The line of the n-th send of a run; `due` is the reply that S3 must give.
abbrev pub request_line : ℕ → Entry → Reply → List ℕ
request_line n e due = line (request_members n e due)

-- ---- the tag of the bytes that were sent

-- The tag in the reply to a PutObject.
abbrev pub stored_tag : Reply → Option Spelled
stored_tag (Stored tag) = Some tag
stored_tag _ = None

-- The tag in the reply to an UploadPart.
abbrev pub part_tag : Reply → Option Spelled
part_tag (Part tag) = Some tag
part_tag _ = None

-- A tag in the reply to a PutObject or an UploadPart is that of the bytes that were sent.
abbrev pub TellsTag : Request → Reply → Type 0
TellsTag (PutObject bucket key bytes header) due = IfSome (stored_tag due) (λ tag. tag ≡ plain_tag bytes)
TellsTag (UploadPart bucket key upload n bytes) due = IfSome (part_tag due) (λ tag. tag ≡ plain_tag bytes)
TellsTag _ due = ⊤
