-- Multipart uploads (Amazon S3 API: UploadPart, CompleteMultipartUpload, ListParts, ListMultipartUploads).
use Rattle.text_and_lists.specs.Order.{text_cmp, text_eq}
use Rattle.s3_types.specs.Pages.{begins}
use Rattle.s3_types.specs.Store.{Parts, Upload, Uploads}
use Rattle.s3_types.specs.Tags.{Spelled, plain_tag}
use Rattle.s3_types.specs.declared.limits.TheConstants.{MOST_PARTS}
use Rattle.s3_types.specs.declared.reply.PartSize.{PartSize}
use Rattle.s3_types.specs.declared.reply.Refusal.{Refusal}
use Rattle.s3_types.specs.declared.reply.Refusal.TheVariants.{EntityTooSmall, InvalidPart, InvalidPartOrder, MalformedList, NoSuchUpload}
use Rattle.s3_types.specs.declared.reply.Reply.{Reply}
use Rattle.s3_types.specs.declared.reply.Reply.TheVariants.{Uploads as UploadsPage}
use Rattle.s3_types.specs.declared.request.NamedPart.{NamedPart}
use Rattle.s3_types.specs.declared.request.UploadRef.{UploadRef}
use Rattle.std.specs.List.{filter, flat_map, list_all}
use Rattle.std.specs.Option.{unwrap_or}
use Rattle.std.specs.Ordering.{is_lt, nat_cmp, ordering_then}
use Rattle.std.specs.Prelude.{Bool, Err, List, None, Ok, Option, Result, Some, cond, false, length, map, nat_eq, nat_le, nat_lt, take, true}
use Rattle.std.specs.Prelude.{ℕ, [], ◌&&◌, ◌-◌, ◌∷◌}
use Rattle.std.specs.declared.cmp.Ordering.{Ordering}
use Rattle.std.specs.FinMap as fin

-- The upload, if it is of this key.
abbrev pub with_key : List ℕ → Option Upload → Option Upload
with_key k None = None
with_key k (Some u) = cond (text_eq u.key k) (Some u) None

-- The live upload with this key and id, or None.
abbrev pub live : Uploads → List ℕ → ℕ → Option Upload
live m k id = with_key k (fin.get m id)

-- True if n is 1 to 10,000.
abbrev pub is_part_number : ℕ → Bool
is_part_number n = nat_le 1 n && nat_le n MOST_PARTS

-- The upload with this part, which replaces an earlier part of that number.
abbrev pub with_part : Upload → ℕ → List ℕ → Upload
with_part u n bytes = record { key = u.key; parts = fin.insert u.parts n bytes }

-- ---- completion

-- True if the part numbers rise, from above n on.
abbrev pub rises_from : ℕ → List NamedPart → Bool
rises_from n [] = true
rises_from n (x ∷ xs) = nat_lt n x.number && rises_from x.number xs

-- True if the part numbers of a completion rise.
abbrev pub rises : List NamedPart → Bool
rises [] = true
rises (x ∷ xs) = rises_from x.number xs

-- True if the two tags are equal.
abbrev pub tag_eq : Spelled → Spelled → Bool
tag_eq a b = text_eq a.digits b.digits && nat_eq a.parts b.parts

-- True if there are bytes, and their tag is t.
abbrev pub has_tag : Spelled → Option (List ℕ) → Bool
has_tag t None = false
has_tag t (Some bytes) = tag_eq (plain_tag bytes) t

-- True if a part with this number and tag was uploaded.
abbrev pub is_sent : Parts → NamedPart → Bool
is_sent m n = has_tag n.tag (fin.get m n.number)

-- The bytes of a named part.
abbrev pub bytes_of : Parts → NamedPart → List ℕ
bytes_of m n = unwrap_or (fin.get m n.number) []

-- True if the named part has at least `minimum` bytes.
abbrev pub is_large : Parts → ℕ → NamedPart → Bool
is_large m minimum n = nat_le minimum (length (bytes_of m n))

-- True if the completion names no part.
abbrev pub is_none_named : List NamedPart → Bool
is_none_named [] = true
is_none_named (n ∷ ns) = false

-- The bytes of the named parts, joined; or the first refusal, in the order in which S3 checks. The last part may be smaller than
-- `minimum`.
abbrev pub joined : Option Upload → List NamedPart → ℕ → Result (List ℕ) Refusal
joined None ns minimum = Err NoSuchUpload
joined (Some u) ns minimum =
    cond (is_none_named ns) (Err MalformedList)
    (cond (rises ns)
    (cond (list_all (is_sent u.parts) ns)
    (cond (list_all (is_large u.parts minimum) (take (length ns - 1) ns))
    (Ok (flat_map (bytes_of u.parts) ns))
    (Err EntityTooSmall))
    (Err InvalidPart))
    (Err InvalidPartOrder))

-- ---- listings

-- A part as ListParts gives it: its number, length and tag.
abbrev pub size_of : ℕ × List ℕ → PartSize
size_of e = record { number = e.0; length = length e.1; tag = plain_tag e.1 }

-- The parts of an upload by rising number, as ListParts gives them.
abbrev pub sizes : Parts → List PartSize
sizes m = map size_of (fin.entries m)

-- Uploads are ordered by key, and then by id.
abbrev pub ref_cmp : UploadRef → UploadRef → Ordering
ref_cmp a b = ordering_then (text_cmp a.key b.key) (nat_cmp a.upload b.upload)

-- An upload as ListMultipartUploads gives it: its key and id.
abbrev pub ref_of : ℕ × Upload → UploadRef × Unit {0}
ref_of e = (record { key = e.1.key; upload = e.0 }, tt)

-- The live uploads in the order in which they are listed.
abbrev pub refs : Uploads → fin.FinMap ref_cmp (Unit {0})
refs m = fin.from_entries (map ref_of (fin.entries m))

-- True if the upload comes after the given one, if one is given.
abbrev pub is_behind : Option UploadRef → UploadRef → Bool
is_behind None r = true
is_behind (Some a) r = is_lt (ref_cmp a r)

-- The live uploads after the given one whose keys begin with p.
abbrev pub listed : List ℕ → Option UploadRef → Uploads → List UploadRef
listed p after m = filter (λ r. begins p r.key) (filter (is_behind after) (map (λ e. e.0) (fin.entries (refs m))))

-- A page of at most `limit` of them, and whether more remain.
abbrev pub page : ℕ → List UploadRef → Reply
page limit rs = UploadsPage (take limit rs) (nat_lt limit (length rs))
