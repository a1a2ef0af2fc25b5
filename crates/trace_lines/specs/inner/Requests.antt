-- Definitions beside those of `Requests` that no public contract cites.
use Rattle.s3_types.specs.declared.request.Request.{Request}
use Rattle.s3_types.specs.declared.request.Request.TheVariants.{PutObject, UploadPart}
use Rattle.std.specs.Prelude.{List, None, Option, Some, ℕ}

-- The bytes of an object or a part that a request sends.
abbrev pub sent_bytes : Request → Option (List ℕ)
sent_bytes (PutObject bucket key bytes header) = Some bytes
sent_bytes (UploadPart bucket key upload n bytes) = Some bytes
sent_bytes _ = None
