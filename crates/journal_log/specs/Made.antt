-- Requests that keep a store one that can be written as an image.
use Rattle.s3_types.specs.Moment.{moment}
use Rattle.s3_types.specs.Names.{is_key}
use Rattle.s3_types.specs.Store.{Content}
use Rattle.s3_types.specs.declared.journal.Entry.{Entry}
use Rattle.s3_types.specs.declared.request.Request.{Request}
use Rattle.s3_types.specs.declared.request.Request.TheVariants.{CopyObject, CreateUpload, PutObject}
use Rattle.std.specs.Prelude.{List, length, true, ℕ, ◌<◌, ◌^◌, ◌≡◌, ◌≤◌}
use Rattle.store_image.specs.Content.{IsContent}
use Rattle.store_image.specs.Image.{header}

-- Holds if the request puts only at keys, and a header that fits in its field. The store itself checks the names of new buckets and the
-- numbers of parts.
abbrev pub IsMade : Request → Type 0
IsMade (PutObject bucket key bytes given) = (is_key key ≡ true) × (header given < 2 ^ 64)
IsMade (CopyObject bucket source target) = is_key target ≡ true
IsMade (CreateUpload bucket key) = is_key key ≡ true
IsMade _ = Unit {0}

-- Holds if a run from a content that can be written as an image leads only through such contents, provided that its counter is at most 2^62
-- at the end.
abbrev pub KeepsImages : Content → List Entry → Type 0
KeepsImages opening es = IsContent opening → (moment opening es (length es)).content.next ≤ 2 ^ 62 → (m : ℕ)
    → IsContent (moment opening es m).content
