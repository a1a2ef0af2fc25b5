-- The index of a bucket's live uploads.
use Rattle.s3_types.specs.Multipart.{ref_cmp}
use Rattle.s3_types.specs.Store.{Upload, Uploads}
use Rattle.s3_types.specs.declared.request.UploadRef.{UploadRef}
use Rattle.std.specs.Prelude.{List, map, ℕ}
use Rattle.std.specs.FinMap as fin

-- The place of an upload in the listing, and its key.
abbrev pub keyed_of : ℕ × Upload → UploadRef × List ℕ
keyed_of e = (record { key = e.1.key; upload = e.0 }, e.1.key)

-- The keys of the live uploads, in the order of the listing.
abbrev pub keyed : Uploads → fin.FinMap ref_cmp (List ℕ)
keyed m = fin.from_entries (map keyed_of (fin.entries m))
